-- Laws of a payload's limit, of the numbers in it, and of the version byte with its three free bytes. Assumes nothing.
use Rattle.std.proofs.Common.{◌≡◌, ℕ, ◌+◌, ◌*◌, ◌<◌, ◌≤◌, Bool, true, false, cond, eqb, leb, ◌⊎◌, List, length, sym, refl, ap, ◌∙◌, inl, inr, arith, eqb-true, leb-true}
use Rattle.bits.specs.Verdict.{Verdict, accepted, declined, and_then, mapped}
use Rattle.bits.specs.Field.{field}
use Rattle.bits.specs.Read.{number_at, place_in}
use Rattle.bits.proofs.VerdictLaws.{le-or-lt, tested_value, limited_yes, limited_no, within_yes, within_value, within_refused, then_value, then_declined}
use Rattle.bits.specs.Verdict.{limited}
use Rattle.payload.specs.Payload.{full_box}

module _ {A : Type 0} (s : List ℕ) (v : Verdict A) where
  pub limited_value : (a : A) → limited s v ≡ accepted a → (length s ≤ 67108864) × (v ≡ accepted a)
  unfolding limited
  limited_value a e = let t = tested_value (leb (length s) 67108864) v 2 a e in (leb-true (length s) 67108864 t.0, t.1)

-- the limit stands before every step
module _ {A B : Type 0} (s : List ℕ) where
  pub limited_then : (v : Verdict A) (f : A → Verdict B) → limited s (and_then v f) ≡ and_then (limited s v) f
  unfolding limited
  limited_then v f = go (leb (length s) 67108864)
    where
      go : (b : Bool) → cond b (and_then v f) (declined 2) ≡ and_then (cond b v (declined 2)) f
      go true = refl
      go false = refl

  pub limited_mapped : (f : A → B) (v : Verdict A) → limited s (mapped f v) ≡ mapped f (limited s v)
  limited_mapped f v = limited_then v (λ x. accepted (f x))

-- ---- a number of n bytes that is there, and what one that was read tells

module _ (n : ℕ) (s : List ℕ) (p : ℕ) where
  pub number_there : p + n ≤ length s → number_at n s p ≡ accepted (field s (8 * p) (8 * n), p + n)
  number_there h = within_yes (p + n) (length s) (field s (8 * p) (8 * n), p + n) (declined 3) h

  pub number_read : (v q : ℕ) → number_at n s p ≡ accepted (v, q) → (p + n ≤ length s) × (field s (8 * p) (8 * n) ≡ v) × (p + n ≡ q)
  number_read v q e =
      let w = within_value (p + n) (length s) (field s (8 * p) (8 * n), p + n) 3 (v, q) e in
      (w.0, ap (λ (x : ℕ × ℕ). x.0) w.1, ap (λ (x : ℕ × ℕ). x.1) w.1)

-- ---- the version and the three free bytes

module _ (s : List ℕ) where
  pub full_box_there : 4 ≤ length s → field s 0 8 ≡ 0 → full_box s ≡ accepted 4
  unfolding full_box
  full_box_there h e = rw (number_there 1 s 0 (omega arith), e) (within_yes 4 (length s) 4 (declined 3) h)

  pub full_box_read : (p : ℕ) → full_box s ≡ accepted p → (4 ≤ length s) × (field s 0 8 ≡ 0) × (p ≡ 4)
  unfolding full_box
  full_box_read p e =
      let a = then_value (number_at 1 s 0) _ p e in
      let v = a.0 in
      let r = number_read 1 s 0 v.0 v.1 a.1 in
      let t = tested_value (eqb v.0 0) (place_in s (v.1 + 3)) 4 p a.2 in
      let w = within_value (v.1 + 3) (length s) (v.1 + 3) 3 p t.1 in
      (omega (arith, w.0, r.2), r.1 ∙ eqb-true v.0 0 t.0, omega (arith, w.1, r.2))

-- ---- which numbers the fields of kinds 0 and 1 are declined with

-- only with 3 or 4, if at all
abbrev pub Early : {A : Type 0} → Verdict A → Type 0
Early v = (k : ℕ) → v ≡ declined k → k ≤ 4

pub early_then : {A B : Type 0} (v : Verdict A) (f : A → Verdict B) → Early v → ((x : A) → Early (f x)) → Early (and_then v f)
early_then {A} v f h g k e = go (then_declined v f k e)
  where
    go : (v ≡ declined k) ⊎ ((x : A) × ((v ≡ accepted x) × (f x ≡ declined k))) → k ≤ 4
    go (inl p) = h k p
    go (inr (x, p)) = g x k p.1

pub early_number : (n : ℕ) (s : List ℕ) (p : ℕ) → Early (number_at n s p)
early_number n s p k e = omega (arith, (within_refused (p + n) (length s) (field s (8 * p) (8 * n), p + n) 3 k e).1)

early_place : (s : List ℕ) (p : ℕ) → Early (place_in s p)
early_place s p k e = omega (arith, (within_refused p (length s) p 3 k e).1)

pub early_box : (s : List ℕ) → Early (full_box s)
unfolding full_box
early_box s = early_then (number_at 1 s 0) _ (early_number 1 s 0) (λ x k e. version (eqb x.0 0) x.1 k e)
  where
    version : (b : Bool) (q k : ℕ) → cond b (place_in s (q + 3)) (declined 4) ≡ declined k → k ≤ 4
    version true q k e = early_place s (q + 3) k e
    version false q k e = let z : 4 ≡ k = cc in omega arith

pub early_limited : {A : Type 0} (s : List ℕ) (v : Verdict A) → Early v → Early (limited s v)
early_limited s v h k e = go (le-or-lt (length s) 67108864)
  where
    go : (length s ≤ 67108864) ⊎ (67108864 < length s) → k ≤ 4
    go (inl l) = h k (sym (limited_yes s v l) ∙ e)
    go (inr l) = let n = limited_no s v l in let z : 2 ≡ k = cc in omega arith
