-- Closing up: the numbers behind a place move up by one. Assumes nothing.
use Prim.Native.Nat.{ℕ, suc, ◌+◌, ◌-◌, ◌≤◌, ◌<◌}
use mathlib.Core.Path.{◌≡◌, refl, ap, ◌∙◌}
use mathlib.Core.List.{List}
use native.Mathlib.Numerals.{add-one}
use native.Mathlib.Omega.{arith}
use lib.ListN.{length, get_or, take, drop, set, length-set}
use lib.Seq.{sets, slice, slice_empty, slice-cons, drop-set-lt, take-set-lt}

slice_set : (f t : ℕ) (l : List ℕ) (j v : ℕ) → j < f → f ≤ t → slice f t (set l j v) ≡ slice f t l
slice_set f t l j v h k =
    ap (λ (m : List ℕ). drop f m) (take-set-lt t l j v (omega arith)) ∙ drop-set-lt f (take t l) j v h

-- what is still to be moved, from place i to the place before it
pub record Closing (d : List ℕ) (place end : ℕ) (l : List ℕ) (i : ℕ) : Type 0 where
  pub after : place < i
  pub within : i ≤ end
  pub size : length l ≡ length d
  pub same : sets l (i - 1) (slice i end l) ≡ sets d place (slice (place + 1) end d)

pub closing_none : (d : List ℕ) (place end : ℕ) → place < end → Closing d place end d (place + 1)
closing_none d place end h =
    let e : place + 1 - 1 ≡ place = omega arith in
    record { after = omega arith; within = omega arith; size = refl; same = rw e }

module _ {d : List ℕ} {place end : ℕ} {l : List ℕ} {i : ℕ} (c : Closing d place end l i) where
  pub closing_next : i < end → end ≤ length d → (j : ℕ) → j ≡ i + 1
      → Closing d place end (set l (i - 1) (get_or l i 0)) j
  closing_next h k j f =
      let a = c.after in
      let z = c.size in
      let e : i + 1 - 1 ≡ suc (i - 1) = omega arith in
      rw f
      (record {
        after = omega arith;
        within = omega arith;
        size = length-set l (i - 1) (get_or l i 0) ∙ z;
        same =
            rw (e, slice_set (i + 1) end l (i - 1) (get_or l i 0) (omega arith) (omega arith))
            (rw (slice-cons i end l 0 h (omega arith), ← add-one i) at c.same);
      })

  pub closing_all : end ≤ i → l ≡ sets d place (slice (place + 1) end d)
  closing_all h =
      let w = c.within in
      let e : i ≡ end = omega arith in
      rw (e, slice_empty end l) at c.same
