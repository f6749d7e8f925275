-- The triangles of one record: three numbers each, and each number a point of the record, by one proof for all modes.
-- Assumes nothing.
use Prim.Native.Nat.{ℕ, zero, suc, ◌+◌, ◌-◌, ◌*◌, ◌/◌, ◌%◌, ◌≤◌, ◌<◌}
use mathlib.Core.Path.{◌≡◌, refl, sym, ap, ◌∙◌}
use mathlib.Core.List.{List, [], ◌∷◌, ◌++◌, Memᴰ}
use mathlib.Core.Bool.{Bool, true, false, cond}
use mathlib.Core.Logic.{◌↔◌, ◌⊎◌, inl, inr}
use native.Mathlib.Nat.{mul_comm, le_refl}
use native.Mathlib.Omega.{arith}
use lib.ListN.{length, get_or, get_or-append}
use lib.Seq.{get_or-append-add}
use lib.Dec.{eqb}
use Rattle.bits.proofs.VerdictLaws.{le-or-lt}
use Rattle.payload.specs.Fill.{each}
use Rattle.payload.proofs.FillLaws.{each-length, get_d_mapped}
use Rattle.payload.proofs.AllLaws.{All, nil_all, cons_all, each_all, map_all}
use Rattle.display.specs.Triangles.{triangle_count, corners, corners_from, triangle_at, record_triangles}
use Rattle.payload.specs.declared.mesh.records.Record.{Record}

-- three points, the third `last`, the others not past it
pub record Corners (last : ℕ) (l : List ℕ) : Type 0 where
  pub a : ℕ
  pub b : ℕ
  pub three : l ≡ a ∷ b ∷ last ∷ []
  pub a_below : a ≤ last
  pub b_below : b ≤ last

-- the last point that triangle k takes, counted from the record's first one
unfoldable pub reach : ℕ → ℕ → ℕ
reach mode k = cond (eqb mode 0) (3 * k + 2) (k + 2)

-- ---- what looks at the mode

pub corners_are : (mode k : ℕ) → Corners (reach mode k) (corners mode k)
unfolding corners reach
corners_are mode k = go (eqb mode 0) (eqb mode 1) (eqb (k % 2) 0)
  where
    go : (a b c : Bool)
        → Corners (cond a (3 * k + 2) (k + 2))
        (cond a ((3 * k) ∷ (3 * k + 1) ∷ (3 * k + 2) ∷ []) (cond b (cond c (k ∷ (k + 1) ∷ (k + 2) ∷ []) ((k + 1) ∷ k ∷ (k + 2) ∷ [])) (0 ∷ (k + 1) ∷ (k + 2) ∷ [])))
    go true b c = record { a = 3 * k; b = 3 * k + 1; three = refl; a_below = omega arith; b_below = omega arith }
    go false true true = record { a = k; b = k + 1; three = refl; a_below = omega arith; b_below = omega arith }
    go false true false = record { a = k + 1; b = k; three = refl; a_below = omega arith; b_below = omega arith }
    go false false c = record { a = 0; b = k + 1; three = refl; a_below = omega arith; b_below = omega arith }

pub reach_least : (mode k : ℕ) → k + 2 ≤ reach mode k
unfolding reach
reach_least mode k = go (eqb mode 0)
  where
    go : (b : Bool) → k + 2 ≤ cond b (3 * k + 2) (k + 2)
    go true = omega arith
    go false = omega arith

-- triangle k is one of the n points' triangles exactly where its last point is among them
pub reach-below : (mode n k : ℕ) → k < triangle_count mode n → reach mode k < n
unfolding triangle_count reach
reach-below mode n k h = go (eqb mode 0) h
  where
    go : (b : Bool) → k < cond b (n / 3) (n - 2) → cond b (3 * k + 2) (k + 2) < n
    go true h = omega arith
    go false h = omega arith

pub below-reach : (mode n k : ℕ) → reach mode k < n → k < triangle_count mode n
unfolding triangle_count reach
below-reach mode n k h = go (eqb mode 0) h
  where
    go : (b : Bool) → cond b (3 * k + 2) (k + 2) < n → k < cond b (n / 3) (n - 2)
    go true h = omega arith
    go false h = omega arith

-- ---- what follows whatever the mode

pub corners-within : (mode k : ℕ) → All (λ p. p ≤ reach mode k) (corners mode k)
corners-within mode k =
    let c = corners_are mode k in
    rw c.three (cons_all _ c.a_below (cons_all _ c.b_below (cons_all _ (le_refl _) (nil_all _))))

pub reach_corner : (mode k : ℕ) → Memᴰ (reach mode k) (corners mode k)
reach_corner mode k =
    rw (corners_are mode k).three (Memᴰ.tail (Memᴰ.tail (Memᴰ.head refl)))

pub there : (mode n k : ℕ) → (k < triangle_count mode n) ↔ ((p : ℕ) → Memᴰ p (corners mode k) → p < n)
there mode n k = (
  λ h p m. omega (arith, corners-within mode k p m, reach-below mode n k h),
  λ h. below-reach mode n k (h (reach mode k) (reach_corner mode k)),
)

-- three numbers each, from any first point on
pub three : (mode first k : ℕ) → length (corners_from mode first k) ≡ 3
three mode first k = rw (corners_are mode k).three

pub long : (mode first n : ℕ) → length (each (corners_from mode first) n) ≡ 3 * n
long mode first n = each-length (corners_from mode first) 3 (three mode first) n ∙ mul_comm n 3

module _ (r : Record) where
  pub count : length (record_triangles r) ≡ 3 * triangle_count r.mode r.points
  unfolding record_triangles
  count = long r.mode r.first (triangle_count r.mode r.points)

  pub range : All (λ p. (r.first ≤ p) × (p < r.first + r.points)) (record_triangles r)
  unfolding record_triangles
  range =
      each_all _ (triangle_at r) (triangle_count r.mode r.points) (λ k h.
      map_all _ (λ p. r.first + p) (corners r.mode k) (λ p m.
      (omega arith, omega (arith, corners-within r.mode k p m, reach-below r.mode r.points k h))))

  -- not more triangles than points
  pub count_few : triangle_count r.mode r.points ≤ r.points
  count_few = go (le-or-lt (triangle_count r.mode r.points) r.points)
    where
      go : (triangle_count r.mode r.points ≤ r.points) ⊎ (r.points < triangle_count r.mode r.points)
          → triangle_count r.mode r.points ≤ r.points
      go (inl h) = h
      go (inr h) = absurd (omega (arith, reach_least r.mode r.points, reach-below r.mode r.points r.points h))

  pub few : r.points < 3 → record_triangles r ≡ []
  few h = none (record_triangles r) (go (le-or-lt (triangle_count r.mode r.points) 0))
    where
      none : (l : List ℕ) → length l ≡ 0 → l ≡ []
      none [] e = refl
      none (x ∷ l) e = absurd (omega arith)

      go : (triangle_count r.mode r.points ≤ 0) ⊎ (0 < triangle_count r.mode r.points) → length (record_triangles r) ≡ 0
      go (inl m) = omega (arith, count)
      go (inr m) = absurd (omega (arith, reach_least r.mode 0, reach-below r.mode r.points 0 m))

-- ---- where the points of triangle k stand

-- piece k of pieces of three
piece : (f : ℕ → List ℕ) → ((j : ℕ) → length (f j) ≡ 3) → (n k i : ℕ) → k < n → i < 3
    → get_or (each f n) (3 * k + i) 0 ≡ get_or (f k) i 0
unfolding each
piece f e zero k i h l = absurd (omega arith)
piece f e (suc n) k i h l = go (le-or-lt n k) (piece f e n k i)
  where
    go : (n ≤ k) ⊎ (k < n) → (k < n → i < 3 → get_or (each f n) (3 * k + i) 0 ≡ get_or (f k) i 0)
        → get_or (each f n ++ f n) (3 * k + i) 0 ≡ get_or (f k) i 0
    go (inl m) before =
        let same : k ≡ n = omega arith in
        let j : 3 * k + i ≡ length (each f n) + i = omega (arith, same, each-length f 3 e n) in
        rw j (get_or-append-add (each f n) (f n) i 0 ∙ ap (λ (x : ℕ). get_or (f x) i 0) (sym same))
    go (inr m) before =
        get_or-append (each f n) (f n) 0 (3 * k + i) (omega (arith, each-length f 3 e n)) ∙ before m l

pub point : (r : Record) (k i : ℕ) → k < triangle_count r.mode r.points → i < 3
    → get_or (record_triangles r) (3 * k + i) 0 ≡ r.first + get_or (corners r.mode k) i 0
unfolding record_triangles
point r k i h l =
    piece (triangle_at r) (three r.mode r.first) (triangle_count r.mode r.points) k i h l
    ∙ get_d_mapped (λ p. r.first + p) 0 0 (corners r.mode k) i (rw (corners_are r.mode k).three l)
