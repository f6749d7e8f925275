-- How often the sides of the cells of some grids are walked, the grids one after another, and which way round. Assumes
-- nothing.
use Prim.Native.Nat.{ℕ, zero, suc, ◌+◌, ◌*◌, ◌≤◌, ◌<◌}
use mathlib.Core.Path.{◌≡◌, refl, sym, ap, ◌∙◌}
use mathlib.Core.Logic.{◌⊎◌, inl, inr}
use mathlib.Core.Bool.{Bool, true, false, ◌&&◌, cond}
use native.Mathlib.Omega.{arith}
use mathlib.Core.List.{[], ◌∷◌}
use lib.Dec.{eqb}
use lib.ListN.{get_or}
use borrow.Author.Tests.{eqb-true, eq-eqb}
use Rattle.bits.proofs.VerdictLaws.{le-or-lt}
use Rattle.display.specs.Winding.{is_side, Inside, along_row, along_column, across, WalkedRight}
use Rattle.display.specs.Winding.{Border, first_row, last_row, first_column, last_column}
use Rattle.display.proofs.Sums.{sum, sum_least, sum_found, sum_once, Single, split, lines, lines_single}

-- ---- one side

module _ (p q x y : ℕ) where
  is_side_most : is_side p q x y ≤ 1
  is_side_most = go (eqb p x && eqb q y)
    where
      go : (b : Bool) → cond b 1 0 ≤ 1
      go true = omega arith
      go false = omega arith

  is_side_found : 0 < is_side p q x y → (p ≡ x) × (q ≡ y)
  is_side_found = go (eqb p x) (eqb q y) (eqb-true p x) (eqb-true q y)
    where
      go : (a b : Bool) → (a ≡ true → p ≡ x) → (b ≡ true → q ≡ y) → 0 < cond (a && b) 1 0 → (p ≡ x) × (q ≡ y)
      go true true e f h = (e refl, f refl)
      go true false e f h = absurd (omega arith)
      go false b e f h = absurd (omega arith)

  is_side_same : p ≡ x → q ≡ y → is_side p q x y ≡ 1
  is_side_same e f = rw (eq-eqb p x e, eq-eqb q y f)

-- ---- the six sides of a cell

-- The cell's first corner is a; b stands after it, c below it and d below b, where a row has s vertices.
-- The sides from p to q in the order of q - p are d a, d b, b a, c d, a c, a d.
abbrev from : ℕ → ℕ → ℕ → ℕ
from s a i = get_or ((a + (s + 1)) ∷ (a + (s + 1)) ∷ (a + 1) ∷ (a + s) ∷ a ∷ a ∷ []) i 0

abbrev to : ℕ → ℕ → ℕ → ℕ
to s a i = get_or (a ∷ (a + 1) ∷ a ∷ (a + (s + 1)) ∷ (a + s) ∷ (a + (s + 1)) ∷ []) i 0

-- q - p, and s + 1 more
abbrev ahead : ℕ → ℕ → ℕ
ahead s i = get_or (0 ∷ 1 ∷ s ∷ (s + 2) ∷ (s + s + 1) ∷ (s + s + 2) ∷ []) i 0

each_of_six : (P : ℕ → Type 0) → P 0 → P 1 → P 2 → P 3 → P 4 → P 5 → (i : ℕ) → i < 6 → P i
each_of_six P a b c d e f zero h = a
each_of_six P a b c d e f (suc zero) h = b
each_of_six P a b c d e f (suc (suc zero)) h = c
each_of_six P a b c d e f (suc (suc (suc zero))) h = d
each_of_six P a b c d e f (suc (suc (suc (suc zero)))) h = e
each_of_six P a b c d e f (suc (suc (suc (suc (suc zero))))) h = f
each_of_six P a b c d e f (suc (suc (suc (suc (suc (suc i)))))) h = absurd (omega arith)

to-ahead : (s a i : ℕ) → i < 6 → to s a i + (s + 1) ≡ from s a i + ahead s i
to-ahead s a =
    each_of_six (λ i. to s a i + (s + 1) ≡ from s a i + ahead s i) (omega arith) (omega arith) (omega arith)
    (omega arith) (omega arith) (omega arith)

from_same : (s a b i : ℕ) → i < 6 → from s a i ≡ from s b i → a ≡ b
from_same s a b =
    each_of_six (λ i. from s a i ≡ from s b i → a ≡ b) (omega arith) (omega arith) (omega arith) (omega arith)
    (omega arith) (omega arith)

module _ (s : ℕ) (wide : 1 < s) where
  ahead_next : (i : ℕ) → i < 6 → i < 5 → ahead s i < ahead s (suc i)
  ahead_next =
      each_of_six (λ i. i < 5 → ahead s i < ahead s (suc i)) (omega arith) (omega arith) (omega arith) (omega arith)
      (omega arith) (λ h. absurd (omega arith))

  ahead_later : (i j : ℕ) → i < j → j < 6 → ahead s i < ahead s j
  ahead_later i zero h k = absurd (omega arith)
  ahead_later i (suc j) h k = go (λ l. ahead_later i j l (omega arith)) (le-or-lt j i)
    where
      next : ahead s j < ahead s (suc j)
      next = ahead_next j (omega arith) (omega arith)

      go : (i < j → ahead s i < ahead s j) → (j ≤ i) ⊎ (i < j) → ahead s i < ahead s (suc j)
      go r (inl l) = let e : i ≡ j = omega arith in rw e next
      go r (inr l) = omega (arith, r l, next)

  ahead_same : (i j : ℕ) → i < 6 → j < 6 → ahead s i ≡ ahead s j → i ≡ j
  ahead_same i j h k e = go (le-or-lt i j) (le-or-lt j i)
    where
      go : (i ≤ j) ⊎ (j < i) → (j ≤ i) ⊎ (i < j) → i ≡ j
      go (inr l) m = absurd (omega (arith, ahead_later j i l h))
      go (inl l) (inr m) = absurd (omega (arith, ahead_later i j m k))
      go (inl l) (inl m) = omega arith

-- 1 where p to q is the side i of the cell, and 0 where it is not
abbrev nth : ℕ → ℕ → ℕ → ℕ → ℕ → ℕ
nth s p q a i = is_side p q (from s a i) (to s a i)

-- how often p to q is a side of the cell
unfoldable pub cell : ℕ → ℕ → ℕ → ℕ → ℕ
cell s p q a = sum (nth s p q a) 6

-- its two triangles, a d b and a c d
abbrev pub triangle : ℕ → ℕ → ℕ → ℕ → ℕ → ℕ
triangle a b c p q = is_side p q a b + is_side p q b c + is_side p q c a

pub cell-triangles : (s p q a b c d : ℕ) → b ≡ a + 1 → c ≡ a + s → d ≡ a + (s + 1)
    → triangle a d b p q + triangle a c d p q ≡ cell s p q a
unfolding cell sum
cell-triangles s p q a b c d e h k = rw (e, h, k) (omega arith)

-- it is the side i
record Side (s p q a i : ℕ) : Type 0 where
  few : i < 6
  start : p ≡ from s a i
  end : q ≡ to s a i

cell_found : (s p q a : ℕ) → 0 < cell s p q a → (i : ℕ) × Side s p q a i
unfolding cell
cell_found s p q a h =
    let t = sum_found (nth s p q a) 6 h in
    let e = is_side_found p q (from s a t.0) (to s a t.0) t.2 in
    (t.0, record { few = t.1; start = e.0; end = e.1 })

cell_least : (s p q a i : ℕ) → Side s p q a i → 1 ≤ cell s p q a
unfolding cell
cell_least s p q a i x =
    let e = is_side_same p q (from s a i) (to s a i) x.start x.end in
    omega (arith, sum_least (nth s p q a) 6 i x.few)

module _ (s : ℕ) (wide : 1 < s) (p q : ℕ) where
  side_same : (a b i j : ℕ) → Side s p q a i → Side s p q b j → i ≡ j
  side_same a b i j x y =
      let d = to-ahead s a i x.few in
      let e = to-ahead s b j y.few in
      ahead_same s wide i j x.few y.few (omega (arith, x.start, x.end, y.start, y.end))

  cell_single : Single (cell s p q)
  unfolding cell
  cell_single = record { most = most; same = same }
    where
      most : (a : ℕ) → cell s p q a ≤ 1
      most a = sum_once (nth s p q a) 6 (λ i. is_side_most p q (from s a i) (to s a i)) (λ i j k l u v.
          let d = is_side_found p q (from s a i) (to s a i) u in
          let e = is_side_found p q (from s a j) (to s a j) v in
          let x : Side s p q a i = record { few = k; start = d.0; end = d.1 } in
          let y : Side s p q a j = record { few = l; start = e.0; end = e.1 } in
          side_same a a i j x y)

      same : (a b : ℕ) → 0 < cell s p q a → 0 < cell s p q b → a ≡ b
      same a b u v =
          let (i, x) = cell_found s p q a u in
          let (j, y) = cell_found s p q b v in
          let e : from s b j ≡ from s b i = ap (from s b) (side_same b a j i y x) in
          from_same s a b i x.few (sym x.start ∙ y.start ∙ e)

-- ---- the sides of the cells of F grids, one after another, each of R rows and C columns of cells

-- the vertex at a grid, a row and a column
abbrev pub place : ℕ → ℕ → ℕ → ℕ → ℕ → ℕ
place R C f r c = (f * (R + 1) + r) * (C + 1) + c

pub place_same : (R C f g r t c d : ℕ) → r ≤ R → t ≤ R → c ≤ C → d ≤ C → place R C f r c ≡ place R C g t d
    → (r ≡ t) × (c ≡ d)
place_same R C f g r t c d h k l m e =
    let x = split (C + 1) (f * (R + 1) + r) (g * (R + 1) + t) c d (omega arith) (omega arith) e in
    ((split (R + 1) f g r t (omega arith) (omega arith) x.0).1, x.1)

-- how often p to q is a side of a cell
unfoldable pub walked : ℕ → ℕ → ℕ → ℕ → ℕ → ℕ
walked F R C p q = sum (lines R (lines C (cell (C + 1) p q))) F

-- it holds of one of the grids
abbrev pub Some : ℕ → (ℕ → Type 0) → Type 0
Some F P = (f : ℕ) × (f < F) × P f

module _ (F R C : ℕ) (tall : 0 < R) (wide : 0 < C) where
  -- a cell of which it is the side i
  record Walk (p q i : ℕ) : Type 0 where
    f : ℕ
    r : ℕ
    c : ℕ
    grid : f < F
    row : r < R
    column : c < C
    side : Side (C + 1) p q (place R C f r c) i

  pub walked_most : (p q : ℕ) → walked F R C p q ≤ 1
  unfolding walked
  walked_most p q =
      let c = lines_single C (cell (C + 1) p q) (cell_single (C + 1) (omega arith) p q) in
      let s = lines_single R (lines C (cell (C + 1) p q)) c in
      sum_once (lines R (lines C (cell (C + 1) p q))) F s.most (λ i j _ _. s.same i j)

  walked_found : (p q : ℕ) → 0 < walked F R C p q → (i : ℕ) × Walk p q i
  unfolding walked
  walked_found p q h =
      let (f, grid, h₁) = sum_found (lines R (lines C (cell (C + 1) p q))) F h in
      let (r, row, h₂) = sum_found (λ r. lines C (cell (C + 1) p q) (f * (R + 1) + r)) R h₁ in
      let (c, column, h₃) = sum_found (λ c. cell (C + 1) p q ((f * (R + 1) + r) * (C + 1) + c)) C h₂ in
      let (i, side) = cell_found (C + 1) p q (place R C f r c) h₃ in
      (i, record { f = f; r = r; c = c; grid = grid; row = row; column = column; side = side })

  walked_once : (p q i : ℕ) → Walk p q i → walked F R C p q ≡ 1
  unfolding walked
  walked_once p q i w =
      let h₁ = sum_least (lines R (lines C (cell (C + 1) p q))) F w.f w.grid in
      let h₂ = sum_least (λ r. lines C (cell (C + 1) p q) (w.f * (R + 1) + r)) R w.r w.row in
      let h₃ = sum_least (λ c. cell (C + 1) p q ((w.f * (R + 1) + w.r) * (C + 1) + c)) C w.c w.column in
      let h₄ = cell_least (C + 1) p q (place R C w.f w.r w.c) i w.side in
      omega (arith, h₁, h₂, h₃, h₄, walked_most p q)

  -- p to q is no side of a cell where it would be the side i, and no cell has it there
  walked_never : (p q i : ℕ) → i < 6 → q + (C + 1 + 1) ≡ p + ahead (C + 1) i → (Walk p q i → ⊥)
      → walked F R C p q ≡ 0
  walked_never p q i h e n = go (le-or-lt (walked F R C p q) 0)
    where
      go : (walked F R C p q ≤ 0) ⊎ (0 < walked F R C p q) → walked F R C p q ≡ 0
      go (inl l) = omega arith
      go (inr l) =
          let (j, w) = walked_found p q l in
          let k = to-ahead (C + 1) (place R C w.f w.r w.c) j w.side.few in
          let a : ahead (C + 1) j ≡ ahead (C + 1) i = omega (arith, k, e, w.side.start, w.side.end) in
          let u : j ≡ i = ahead_same (C + 1) (omega arith) j i w.side.few h a in
          absurd (n (rw u at w))

  module _ (f : ℕ) (grid : f < F) where
    walked_by : (r c i p q : ℕ) → r < R → c < C → i < 6 → p ≡ from (C + 1) (place R C f r c) i
        → q ≡ to (C + 1) (place R C f r c) i → walked F R C p q ≡ 1
    walked_by r c i p q h k l d e =
        let s : Side (C + 1) p q (place R C f r c) i = record { few = l; start = d; end = e } in
        walked_once p q i (record { f = f; r = r; c = c; grid = grid; row = h; column = k; side = s })

    -- a side along a row or a column, onward and back, by the cell beside it
    row_on : (r c : ℕ) → 0 < r → r ≤ R → c < C → walked F R C (place R C f r c) (place R C f r (c + 1)) ≡ 1
    row_on zero c h k l = absurd (omega arith)
    row_on (suc r) c h k l = walked_by r c 3 _ _ k l (omega arith) (omega arith) (omega arith)

    row_back : (r c : ℕ) → r < R → c < C → walked F R C (place R C f r (c + 1)) (place R C f r c) ≡ 1
    row_back r c h k = walked_by r c 2 _ _ h k (omega arith) (omega arith) refl

    column_on : (r c : ℕ) → r < R → c < C → walked F R C (place R C f r c) (place R C f (r + 1) c) ≡ 1
    column_on r c h k = walked_by r c 4 _ _ h k (omega arith) refl (omega arith)

    column_back : (r c : ℕ) → r < R → 0 < c → c ≤ C → walked F R C (place R C f (r + 1) c) (place R C f r c) ≡ 1
    column_back r zero h k l = absurd (omega arith)
    column_back r (suc c) h k l = walked_by r c 1 _ _ h l (omega arith) (omega arith) (omega arith)

    inside_walked : (p q : ℕ) → Inside R C (place R C f) p q → (walked F R C p q ≡ 1) × (walked F R C q p ≡ 1)
    inside_walked p q (along_row r c h k l) = (row_on r c h (omega arith) l, row_back r c k l)
    inside_walked p q (along_column r c h k l) = (column_on r c h l, column_back r c h k (omega arith))
    inside_walked p q (across r c h k) = (
      walked_by r c 5 p q h k (omega arith) refl (omega arith),
      walked_by r c 0 q p h k (omega arith) (omega arith) refl,
    )

    -- the vertex at r, c is not where a cell beyond the border would have it
    beyond : (r c t d g : ℕ) → r ≤ R → c ≤ C → t ≤ R → d ≤ C → ((r ≡ t) × (c ≡ d) → ⊥)
        → place R C f r c ≡ place R C g t d → ⊥
    beyond r c t d g h k l m n e = n (place_same R C f g r t c d h l k m e)

    -- beyond the border there is no cell to walk it the other way
    border_walked : (p q : ℕ) → Border R C (place R C f) p q → (walked F R C p q ≡ 1) × (walked F R C q p ≡ 0)
    border_walked p q (first_column r h) = (
      column_on r 0 h wide,
      walked_never q p 1 (omega arith) (omega arith) (λ w.
          beyond r 0 w.r (w.c + 1) w.f (omega arith) (omega arith) (omega arith) (omega arith) (omega arith)
          (omega arith)),
    )
    border_walked p q (last_row c h) = (
      row_on R c tall (omega arith) h,
      walked_never q p 2 (omega arith) (omega arith) (λ w.
          beyond R c w.r w.c w.f (omega arith) (omega arith) (omega arith) (omega arith) (omega arith)
          (omega arith)),
    )
    border_walked p q (last_column r h) = (
      column_back r C h wide (omega arith),
      walked_never q p 4 (omega arith) (omega arith) (λ w.
          beyond r C w.r w.c w.f (omega arith) (omega arith) (omega arith) (omega arith) (omega arith)
          (omega arith)),
    )
    border_walked p q (first_row c h) = (
      row_back 0 c tall h,
      walked_never q p 3 (omega arith) (omega arith) (λ w.
          beyond 0 c (w.r + 1) w.c w.f (omega arith) (omega arith) (omega arith) (omega arith) (omega arith)
          (omega arith)),
    )

  -- a side of one of the grids
  abbrev In : ℕ → ℕ → Type 0
  In p q = Some F (λ f. Inside R C (place R C f) p q)

  abbrev On : ℕ → ℕ → Type 0
  On p q = Some F (λ f. Border R C (place R C f) p q)

  abbrev Known : ℕ → ℕ → Type 0
  Known p q = (In p q ⊎ In q p) ⊎ On p q

  module _ (f r c : ℕ) (grid : f < F) (row : r < R) (column : c < C) where
    row_on_side : Known (place R C f (r + 1) c) (place R C f (r + 1) (c + 1))
    row_on_side = go (le-or-lt R (r + 1))
      where
        go : (R ≤ r + 1) ⊎ (r + 1 < R) → Known (place R C f (r + 1) c) (place R C f (r + 1) (c + 1))
        go (inl l) = let e : r + 1 ≡ R = omega arith in inr (f, grid, rw e (last_row c column))
        go (inr l) = inl (inl (f, grid, along_row (r + 1) c (omega arith) l column))

    row_back_side : Known (place R C f r (c + 1)) (place R C f r c)
    row_back_side = go (le-or-lt r 0)
      where
        go : (r ≤ 0) ⊎ (0 < r) → Known (place R C f r (c + 1)) (place R C f r c)
        go (inl l) = let e : r ≡ 0 = omega arith in inr (f, grid, rw e (first_row c column))
        go (inr l) = inl (inr (f, grid, along_row r c l row column))

    column_on_side : Known (place R C f r c) (place R C f (r + 1) c)
    column_on_side = go (le-or-lt c 0)
      where
        go : (c ≤ 0) ⊎ (0 < c) → Known (place R C f r c) (place R C f (r + 1) c)
        go (inl l) = let e : c ≡ 0 = omega arith in inr (f, grid, rw e (first_column r row))
        go (inr l) = inl (inl (f, grid, along_column r c row l column))

    column_back_side : Known (place R C f (r + 1) (c + 1)) (place R C f r (c + 1))
    column_back_side = go (le-or-lt C (c + 1))
      where
        go : (C ≤ c + 1) ⊎ (c + 1 < C) → Known (place R C f (r + 1) (c + 1)) (place R C f r (c + 1))
        go (inl l) = let e : c + 1 ≡ C = omega arith in inr (f, grid, rw e (last_column r row))
        go (inr l) = inl (inr (f, grid, along_column r (c + 1) row (omega arith) l))

    cell_side : (p q i : ℕ) → Side (C + 1) p q (place R C f r c) i → Known p q
    cell_side p q i s =
        each_of_six (λ i. p ≡ from (C + 1) (place R C f r c) i → q ≡ to (C + 1) (place R C f r c) i → Known p q)
        (λ d e. between (r + 1) (c + 1) r c (omega arith) e (inl (inr (f, grid, across r c row column))))
        (λ d e. between (r + 1) (c + 1) r (c + 1) (omega arith) (omega arith) column_back_side)
        (λ d e. between r (c + 1) r c (omega arith) e row_back_side)
        (λ d e. between (r + 1) c (r + 1) (c + 1) (omega arith) (omega arith) row_on_side)
        (λ d e. between r c (r + 1) c d (omega arith) column_on_side)
        (λ d e. between r c (r + 1) (c + 1) d (omega arith) (inl (inl (f, grid, across r c row column))))
        i s.few s.start s.end
      where
        between : (r c t d : ℕ) → p ≡ place R C f r c → q ≡ place R C f t d
            → Known (place R C f r c) (place R C f t d) → Known p q
        between r c t d e h x = rw (e, h) x

  pub grids_walked_right : WalkedRight In On (walked F R C)
  grids_walked_right = record {
    inside = λ p q x. inside_walked x.0 x.1 p q x.2;
    border = λ p q x. border_walked x.0 x.1 p q x.2;
    nothing_else = λ p q h.
        let (i, w) = walked_found p q h in
        cell_side w.f w.r w.c w.grid w.row w.column p q i w.side;
  }
