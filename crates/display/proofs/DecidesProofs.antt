-- What specs/Winding.antt rules out: which sides are walked is decided, and small wrong lists by computation. Assumes
-- nothing.
use Prim.Native.Nat.{ℕ, ◌+◌, ◌*◌, ◌≤◌, ◌<◌}
use mathlib.Core.Path.{◌≡◌, refl, sym, ◌∙◌}
use mathlib.Core.Logic.{◌⊎◌, inl, inr}
use native.Mathlib.Omega.{arith}
use Rattle.bits.proofs.VerdictLaws.{le-or-lt}
use Rattle.payload.specs.Fill.{each}
use Rattle.payload.specs.Sphere.{grid_vertex, grid_cell, grid_row, grid_triangles}
use Rattle.payload.specs.Cube.{cube_vertex, cube_row, cube_face, cube_triangles}
use Rattle.display.specs.Winding.{sides, times, walks, reversed, WalkedRight, WindingDecides}
use Rattle.display.specs.Winding.{along_row, across, first_column, Beside, RoundAsBorder, half_cell}
use Rattle.display.specs.Winding.{FacingOnSphere, FacingOnCube}
use Rattle.display.proofs.GridWalks.{place, place_same}

-- ---- lists that are walked right walk alike

module _ (In On : ℕ → ℕ → Type 0) where
  -- what one walks, both walk once
  known : (v w : ℕ → ℕ → ℕ) → WalkedRight In On v → WalkedRight In On w → (p q : ℕ) → 0 < v p q → v p q ≡ w p q
  known v w a b p q h = go (a.nothing_else p q h)
    where
      go : (In p q ⊎ In q p) ⊎ On p q → v p q ≡ w p q
      go (inl (inl x)) = (a.inside p q x).0 ∙ sym (b.inside p q x).0
      go (inl (inr x)) = (a.inside q p x).1 ∙ sym (b.inside q p x).1
      go (inr x) = (a.border p q x).0 ∙ sym (b.border p q x).0

  alike : (v w : ℕ → ℕ → ℕ) → WalkedRight In On v → WalkedRight In On w → (p q : ℕ) → v p q ≡ w p q
  alike v w a b p q = go (le-or-lt (v p q) 0) (le-or-lt (w p q) 0)
    where
      go : (v p q ≤ 0) ⊎ (0 < v p q) → (w p q ≤ 0) ⊎ (0 < w p q) → v p q ≡ w p q
      go (inr h) m = known v w a b p q h
      go (inl h) (inr m) = sym (known w v b a p q m)
      go (inl h) (inl m) = omega arith

-- ---- never both ways

-- where a triangle's corners are
record Corners (R C : ℕ) (v : ℕ → ℕ → ℕ) (p q s : ℕ) : Type 0 where
  y : ℕ
  x : ℕ
  r : ℕ
  c : ℕ
  t : ℕ
  d : ℕ
  u : ℕ
  e : ℕ
  row : y < R
  column : x < C
  rows : Beside y r × Beside y t × Beside y u
  columns : Beside x c × Beside x d × Beside x e
  first : p ≡ v r c
  second : q ≡ v t d
  third : s ≡ v u e
  area : t * e + r * d + u * c ≡ t * c + r * e + u * d + 1

corners_of : {R C : ℕ} {v w : ℕ → ℕ → ℕ} {p q s : ℕ} → ((r c : ℕ) → v r c ≡ w r c) → RoundAsBorder R C v p q s
    → Corners R C w p q s
corners_of h (half_cell y x r c t d u e m n k l a) =
    record {
      y = y;
      x = x;
      r = r;
      c = c;
      t = t;
      d = d;
      u = u;
      e = e;
      row = m;
      column = n;
      rows = k;
      columns = l;
      first = h r c;
      second = h t d;
      third = h u e;
      area = a;
    }

-- turned, the area would be both 1 and -1
apart : (r c t d u e r' c' t' d' u' e' : ℕ) → (r ≡ r') × (c ≡ c') → (t ≡ u') × (d ≡ e') → (u ≡ t') × (e ≡ d')
    → t * e + r * d + u * c ≡ t * c + r * e + u * d + 1
    → t' * e' + r' * d' + u' * c' ≡ t' * c' + r' * e' + u' * d' + 1 → ⊥
apart r c t d u e r' c' t' d' u' e' i j k a b =
    let h = rw (← i.0, ← i.1, ← j.0, ← j.1, ← k.0, ← k.1) at b in omega (arith, a, h)

not_both : (R C f g p q s : ℕ) → Corners R C (place R C f) p q s → Corners R C (place R C g) p s q → ⊥
not_both R C f g p q s x y =
    apart _ _ _ _ _ _ _ _ _ _ _ _
    (place_same R C f g x.r y.r x.c y.c (omega arith) (omega arith) (omega arith) (omega arith)
    (sym x.first ∙ y.first))
    (place_same R C f g x.t y.u x.d y.e (omega arith) (omega arith) (omega arith) (omega arith)
    (sym x.second ∙ y.third))
    (place_same R C f g x.u y.t x.e y.d (omega arith) (omega arith) (omega arith) (omega arith)
    (sym x.third ∙ y.second))
    x.area y.area

sphere_not_both : (R C p q s : ℕ) → FacingOnSphere R C p q s → FacingOnSphere R C p s q → ⊥
sphere_not_both R C p q s x y = not_both R C 0 0 p q s (corners_of same x) (corners_of same y)
  where
    same : (r c : ℕ) → grid_vertex C r c ≡ place R C 0 r c
    same r c = omega arith

-- 0, 7 and 1 are in the columns 0, 3 and 1
sliver : FacingOnSphere 2 3 0 7 1 → ⊥
sliver f = go (corners_of (λ r c. refl) f)
  where
    go : Corners 2 3 (grid_vertex 3) 0 7 1 → ⊥
    go x = omega (arith, x.row, x.column, x.rows, x.columns, x.first, x.second)

cube_not_both : (n p q s : ℕ) → FacingOnCube n p q s → FacingOnCube n p s q → ⊥
cube_not_both n p q s (f, _, x) (g, _, y) = not_both n n f g p s q (corners_of (same f) x) (corners_of (same g) y)
  where
    same : (f y x : ℕ) → cube_vertex n f y x ≡ place n n f y x
    same f y x = omega arith

-- ---- the small wrong lists

-- each by one side, which is walked twice or not at all
pub winding_decides : WindingDecides
unfolding grid_triangles grid_row grid_cell cube_triangles cube_face cube_row each sides times reversed
winding_decides = record {
  sphere_not_both = sphere_not_both;
  cube_not_both = cube_not_both;
  sliver = sliver;
  patch_alike = λ rings sectors l m. alike _ _ (walks l) (walks m);
  cube_alike = λ cells l m. alike _ _ (walks l) (walks m);
  triangle_turned = λ w. omega (arith, w.inside 6 7 (along_row 1 2 (omega arith) (omega arith) (omega arith)));
  cell_turned = λ w. omega (arith, w.inside 5 6 (along_row 1 1 (omega arith) (omega arith) (omega arith)));
  patch_turned = λ w. omega (arith, w.border 0 4 (first_column 0 (omega arith)));
  cube_cell_turned = λ w.
      omega (arith, w.inside 21 22 (2, omega arith, along_row 1 0 (omega arith) (omega arith) (omega arith)));
  face_turned = λ w. omega (arith, w.border 30 27 (3, omega arith, first_column 0 (omega arith)));
  cube_turned = λ w. omega (arith, w.border 2 0 (0, omega arith, first_column 0 (omega arith)));
  other_diagonal = λ w. omega (arith, w.border 0 4 (first_column 0 (omega arith)));
  cube_other_diagonal = λ w. omega (arith, w.inside 0 3 (0, omega arith, across 0 0 (omega arith) (omega arith)));
}
