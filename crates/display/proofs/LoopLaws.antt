-- The loops that put triangles: three numbers a turn from place `to` on, or one. Assumes nothing.
use Prim.Native.Nat.{ℕ, zero, suc, ◌+◌, ◌*◌, ◌%◌, ◌≤◌, ◌<◌}
use mathlib.Core.Path.{◌≡◌, refl, sym, ap, ap₂, ◌∙◌}
use mathlib.Core.List.{List, [], ◌∷◌, ◌++◌, append_assoc}
use native.Mathlib.Omega.{arith}
use lib.ListN.{length}
use lib.Seq.{sets}
use borrow.Author.Tests.{eq-eqb, ne_eqb}
use Rattle.payload.specs.Fill.{each}
use Rattle.payload.proofs.FillLaws.{each_same, Filling, filling_room, filling_more, filling_all}
use Rattle.display.specs.Triangles.{corners, corners_from, triangle_at, record_triangles, triangle_count}
use Rattle.display.specs.Internal.{point_after, Numbered}
use Rattle.payload.specs.declared.mesh.records.Record.{Record}
use Rattle.display.proofs.TriangleLaws.{reach, reach-below, three, long}

-- ---- k triangles of n are put

abbrev pub Putting : ℕ → ℕ → ℕ → List ℕ → ℕ → List ℕ → ℕ → ℕ → Type 0
Putting mode first n d at out to k = Filling (corners_from mode first) n d at out to k

module _ (mode first : ℕ) {n : ℕ} {d : List ℕ} {at : ℕ} {out : List ℕ} {to k : ℕ} (i : Putting mode first n d at out to k)
  where
    pub place : to ≡ at + 3 * k
    place = i.held.0 ∙ ap (λ (m : ℕ). at + m) (long mode first k)

    pub room : k < n → at + length (each (corners_from mode first) n) ≤ length d → to + 3 ≤ length out
    room h m = rw (← three mode first k) (filling_room i h m)

    pub put : k < n → (l t : List ℕ) → l ≡ sets out to t → t ≡ corners_from mode first k
        → Putting mode first n d at l (to + 3) (k + 1)
    put h l t e f =
        filling_more i l (to + 3) h (ap (λ (m : ℕ). to + m) (sym (three mode first k))) (e ∙ ap (sets out to) f)

    pub all : n ≤ k → out ≡ sets d at (each (corners_from mode first) n)
    all h = (filling_all i h).1

-- the same place and turn in other words
pub filling_as : {f : ℕ → List ℕ} {n : ℕ} {d : List ℕ} {at : ℕ} {out : List ℕ} {to k : ℕ} → Filling f n d at out to k
    → (v j : ℕ) → to ≡ v → k ≡ j → Filling f n d at out v j
filling_as i v j e h = rw (← e, ← h) i

pub numbered_few : (first n : ℕ) → Numbered first n → n < 4294967295
numbered_few first zero h = omega arith
numbered_few first (suc n) h = omega (arith, h n (omega arith))

-- ---- the corners that the code puts, p being first + k

pub fan_is : (first k : ℕ) → first ∷ (first + k + 1) ∷ (first + k + 2) ∷ [] ≡ corners_from 2 first k
unfolding corners
fan_is first k =
    let z : first + 0 ≡ first = omega arith in
    let f : first + k + 1 ≡ first + (k + 1) = omega arith in
    let g : first + k + 2 ≡ first + (k + 2) = omega arith in
    rw (z, f, g)

pub even_is : (first k : ℕ) → k % 2 ≡ 0 → (first + k) ∷ (first + k + 1) ∷ (first + k + 2) ∷ [] ≡ corners_from 1 first k
unfolding corners
even_is first k e =
    let f : first + k + 1 ≡ first + (k + 1) = omega arith in
    let g : first + k + 2 ≡ first + (k + 2) = omega arith in
    rw (eq-eqb (k % 2) 0 e, f, g)

pub odd_is : (first k : ℕ) → k % 2 ≡ 0
    → (first + k + 2) ∷ (first + k + 1) ∷ (first + k + 3) ∷ [] ≡ corners_from 1 first (k + 1)
unfolding corners
odd_is first k e =
    let f : first + k + 2 ≡ first + (k + 1 + 1) = omega arith in
    let g : first + k + 1 ≡ first + (k + 1) = omega arith in
    let h : first + k + 3 ≡ first + (k + 1 + 2) = omega arith in
    rw (ne_eqb ((k + 1) % 2) 0 (λ i. omega arith), f, g, h)

pub put_even : (first : ℕ) {n : ℕ} {d : List ℕ} {at : ℕ} {out : List ℕ} {to k : ℕ} → Putting 1 first n d at out to k → k % 2 ≡ 0
    → k < n → (l : List ℕ) → l ≡ sets out to ((first + k) ∷ (first + k + 1) ∷ (first + k + 2) ∷ [])
    → Putting 1 first n d at l (to + 3) (k + 1)
put_even first {k} i e h l f = put 1 first i h l _ f (even_is first k e)

-- ---- a record by its mode

pub threes_same : (first n : ℕ) → each (point_after first) (3 * n) ≡ each (corners_from 0 first) n
unfolding each corners
threes_same first zero = refl
threes_same first (suc n) =
    let e : 3 * suc n ≡ suc (suc (suc (3 * n))) = omega arith in
    let f : suc (3 * n) ≡ 3 * n + 1 = omega arith in
    let g : suc (suc (3 * n)) ≡ 3 * n + 2 = omega arith in
    rw e (ap₂ (λ (x : ℕ) (y : ℕ). ((each (point_after first) (3 * n) ++ point_after first (3 * n)) ++ point_after first x) ++ point_after first y) f g
    ∙ append_assoc (each (point_after first) (3 * n) ++ point_after first (3 * n)) (point_after first (3 * n + 1)) (point_after first (3 * n + 2))
    ∙ append_assoc (each (point_after first) (3 * n)) (point_after first (3 * n)) (point_after first (3 * n + 1) ++ point_after first (3 * n + 2))
    ∙ ap (λ (l : List ℕ). l ++ corners_from 0 first n) (threes_same first n))

-- a mode that is neither 0 nor 1 is a fan
other : (mode k : ℕ) → (mode ≡ 0 → ⊥) → (mode ≡ 1 → ⊥) → corners mode k ≡ corners 2 k
unfolding corners
other mode k d e = rw (ne_eqb mode 0 d, ne_eqb mode 1 e)

module _ (r : Record) (n : ℕ) (e : n ≡ triangle_count r.mode r.points) where
  pub of_threes : r.mode ≡ 0 → each (point_after r.first) (3 * n) ≡ record_triangles r
  unfolding record_triangles
  of_threes z = threes_same r.first n ∙ rw (e, z)

  pub of_strip : r.mode ≡ 1 → each (corners_from 1 r.first) n ≡ record_triangles r
  unfolding record_triangles
  of_strip z = rw (e, z)

  pub of_fan : (r.mode ≡ 0 → ⊥) → (r.mode ≡ 1 → ⊥) → each (corners_from 2 r.first) n ≡ record_triangles r
  unfolding record_triangles
  of_fan z o =
      each_same (corners_from 2 r.first) (triangle_at r) (λ k. rw (other r.mode k z o)) n ∙ ap (each (triangle_at r)) e

  -- the points of its triangles are among its own
  pub threes_few : r.mode ≡ 0 → 3 * n ≤ r.points
  unfolding reach
  threes_few z = go n e
    where
      go : (m : ℕ) → m ≡ triangle_count r.mode r.points → 3 * m ≤ r.points
      go zero f = omega arith
      go (suc m) f =
          let s : reach r.mode m ≡ 3 * m + 2 = rw (eq-eqb r.mode 0 z) in
          omega (arith, s, reach-below r.mode r.points m (omega (arith, f)))

  pub numbered : (r.mode ≡ 0 → ⊥) → r.first + r.points ≤ 4294967295 → Numbered r.first n
  unfolding reach
  numbered z h k l =
      let b = reach-below r.mode r.points k (omega (arith, e)) in
      let f : reach r.mode k ≡ k + 2 = rw (ne_eqb r.mode 0 z) in
      omega (arith, b, f)
