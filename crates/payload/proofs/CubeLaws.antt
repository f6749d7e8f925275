-- Laws of the cube map: its numbers stay small, how long its lists are, and the ways through its refusals. Assumes nothing.
use Rattle.std.proofs.Common.{◌≡◌, ℕ, ◌+◌, ◌*◌, ◌^◌, ◌<◌, ◌≤◌, Bool, true, false, cond, ◌&&◌, T, leb, List, [], ◌∷◌, length, pos, sym, refl, ap, ◌∙◌, mul_assoc, add-mul, mul-le-mul, one-mul, arith, le→leb, leb-true, le-leb}
use lib.Ieee.{Float, binary32, in_float}
use Rattle.std.specs.Float.{float_is_finite}
use Rattle.bits.specs.Verdict.{Verdict, accepted, declined}
use Rattle.bits.specs.Says.{number_of}
use Rattle.bits.specs.declared.refusals.Refusal.{Refusal}
use Rattle.bits.specs.declared.refusals.Refusal.TheVariants as R
use Rattle.payload.specs.Cube.{cells_usable, cube_vertex, cube_cell, cube_row, cube_face, cube_triangles, cube_numbers, share_usable, cube_point, point_row, point_face, cube_points, cube_floats}
use Rattle.payload.specs.declared.cube.Face.{Face}
use Rattle.payload.specs.InternalCube.{cell_of, face_of, point_of, row_of}
use Rattle.payload.specs.Fill.{both_lengths}
use Rattle.payload.proofs.FillLaws.{each-length, both_second}
use Rattle.payload.proofs.FloatTests.{finite_is}

-- ---- small numbers

pub square_small : (n k : ℕ) → n ≤ k → n * n ≤ k * k
square_small n k h = mul-le-mul {n₁ = n} {m₁ = n} {n₂ = k} {m₂ = k} h h

-- the first vertex of a row of cells
pub first_small : (cells face y : ℕ) → cells ≤ 103 → face < 6 → y < cells → face * ((cells + 1) * (cells + 1)) + y * (cells + 1) ≤ 64688
first_small cells face y small h l =
    let f = mul-le-mul {n₁ = face} {m₁ = (cells + 1) * (cells + 1)} {n₂ = 5} {m₂ = 104 * 104} (omega arith) (square_small (cells + 1) 104 (omega arith)) in
    let g = mul-le-mul {n₁ = y} {m₁ = cells + 1} {n₂ = 102} {m₂ = 104} (omega arith) (omega arith) in
    omega arith

pub in_float_lem : (n : ℕ) → n ≤ 65536 → T (in_float binary32 (pos n))
unfolding in_float
in_float_lem n h = le→leb n (2 ^ 24) (omega arith)

-- ---- a cell by its first corner

pub cell_of_lem : (cells face y x : ℕ) → cell_of (face * ((cells + 1) * (cells + 1)) + y * (cells + 1) + x) (cells + 1) ≡ cube_cell cells face y x
cell_of_lem cells face y x =
    let s : (y + 1) * (cells + 1) ≡ y * (cells + 1) + (cells + 1) = add-mul y 1 (cells + 1) ∙ ap (λ (k : ℕ). y * (cells + 1) + k) (one-mul (cells + 1)) in
    let m = face * ((cells + 1) * (cells + 1)) + y * (cells + 1) + x in
    let a : m ≡ cube_vertex cells face y x = omega arith in
    let b : m + 1 ≡ cube_vertex cells face y (x + 1) = omega arith in
    let c : m + (cells + 1) ≡ cube_vertex cells face (y + 1) x = omega arith in
    let d : m + (cells + 1) + 1 ≡ cube_vertex cells face (y + 1) (x + 1) = omega arith in
    λ i. a i ∷ d i ∷ c i ∷ a i ∷ b i ∷ d i ∷ []

-- ---- a face by its number

pub row_of_lem : (f : Face) (cells : ℕ) (radius share : Float) (face y : ℕ) → f ≡ face_of face share → row_of cells radius f y ≡ point_row cells radius share face y
unfolding row_of point_of face_of point_row cube_point
row_of_lem f cells radius share face y e = ap (λ (g : Face). row_of cells radius g y) e

-- ---- lengths

module _ (cells : ℕ) where
  length_row : (face y : ℕ) → length (cube_row cells face y) ≡ cells * 6
  unfolding cube_row
  length_row face y = each-length (cube_cell cells face y) 6 (λ x. refl) cells

  length_face : (face : ℕ) → length (cube_face cells face) ≡ cells * (cells * 6)
  unfolding cube_face
  length_face face = each-length (cube_row cells face) (cells * 6) (length_row face) cells

  pub length_triangles : length (cube_triangles cells) ≡ 36 * (cells * cells)
  unfolding cube_triangles
  length_triangles = omega (arith, each-length (cube_face cells) (cells * (cells * 6)) length_face 6, mul_assoc cells cells 6)

  module _ (radius share : Float) where
    length_points_row : (face y : ℕ) → length (point_row cells radius share face y) ≡ (cells + 1) * 5
    unfolding point_row
    length_points_row face y = each-length (cube_point cells radius share face y) 5 (λ x. unfold cube_point in refl) (cells + 1)

    length_points_face : (face : ℕ) → length (point_face cells radius share face) ≡ (cells + 1) * ((cells + 1) * 5)
    unfolding point_face
    length_points_face face = each-length (point_row cells radius share face) ((cells + 1) * 5) (length_points_row face) (cells + 1)

    pub length_points : length (cube_points cells radius share) ≡ 5 * (6 * ((cells + 1) * (cells + 1)))
    unfolding cube_points
    length_points = omega (arith, each-length (point_face cells radius share) ((cells + 1) * ((cells + 1) * 5)) length_points_face 6, mul_assoc (cells + 1) (cells + 1) 5)

-- ---- the ways through the refusals

module _ (cells : ℕ) where
  pub usable_yes : (1 ≤ cells) × (cells ≤ 103) → cells_usable cells ≡ true
  unfolding cells_usable
  usable_yes h = rw (le-leb 1 cells h.0, le-leb cells 103 h.1)

  pub usable_no : (1 ≤ cells → cells ≤ 103 → ⊥) → cells_usable cells ≡ false
  unfolding cells_usable
  usable_no h = go (leb 1 cells) (leb cells 103) refl refl
    where
      go : (p q : Bool) → leb 1 cells ≡ p → leb cells 103 ≡ q → (p && q) ≡ false
      go true true e f = absurd (h (leb-true 1 cells e) (leb-true cells 103 f))
      go true false e f = refl
      go false q e f = refl

  -- what a test of cells told, and what it said of cells that it takes
  abbrev pub Untaken : Refusal → Type 0
  Untaken e = (e ≡ R.Grid) × (cells_usable cells ≡ false)

  pub numbers_no : (e : Refusal) → Untaken e → cube_numbers cells ≡ declined (number_of e)
  unfolding cube_numbers
  numbers_no e h = rw (h.1, h.0)

  module _ (radius share : Float) where
    pub floats_no : (e : Refusal) → Untaken e → declined (number_of e) ≡ cube_floats cells radius share
    unfolding cube_floats
    floats_no e h = rw (h.1, h.0)

-- cells that are taken, and what the test of the radius and the share said
module _ (cells n : ℕ) (taken : n ≡ cells) (few : (1 ≤ n) × (n ≤ 103)) (radius share : Float) (r s : Bool)
    (finite? : r ≡ float_is_finite radius) (share? : s ≡ share_usable share) where
  pub floats_odd : (r && s) ≡ false → declined 11 ≡ cube_floats cells radius share
  unfolding cube_floats
  floats_odd h = rw (← taken, usable_yes n few, ← finite_is radius, ← finite?, ← share?, h)

  pub floats_yes : (r && s) ≡ true → accepted (cube_points n radius share) ≡ cube_floats cells radius share
  unfolding cube_floats
  floats_yes h = rw (← taken, usable_yes n few, ← finite_is radius, ← finite?, ← share?, h)

pub numbers_yes : (cells n : ℕ) → n ≡ cells → (1 ≤ n) × (n ≤ 103) → cube_numbers cells ≡ accepted (cube_triangles n)
unfolding cube_numbers
numbers_yes cells n e few = rw (← e, usable_yes n few)

-- where the floats are refused, so are the two lengths
pub lengths_no : (cells k : ℕ) (radius share : Float) → declined k ≡ cube_floats cells radius share
    → declined k ≡ both_lengths (cube_numbers cells) (cube_floats cells radius share)
unfolding cube_numbers cube_floats
lengths_no cells k radius share e = go (cells_usable cells) _ e
  where
    go : (u : Bool) (w : Verdict (List ℕ)) → declined k ≡ cond u w (declined 9)
        → declined k ≡ both_lengths (cond u (accepted (cube_triangles cells)) (declined 9)) (cond u w (declined 9))
    go true w h = both_second (accepted (cube_triangles cells)) w (cube_triangles cells) k refl (sym h)
    go false w h = let e : k ≡ 9 = cc in rw e
