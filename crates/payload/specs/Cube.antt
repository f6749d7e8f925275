-- The cube map: six faces, each a grid of cells: its triangles, and its vertices operation by operation.
use Rattle.std.specs.Prelude.{ℕ, ◌+◌, ◌*◌, ◌/◌, ◌%◌, Bool, cond, ◌&&◌, List, [], ◌∷◌, from_bits, nat_le, slice_index_or}
use Rattle.std.specs.Prelude.{Float}
use Rattle.std.specs.Float.{nan, binary32}
use Rattle.std.specs.Float.Ieee.{lt, le}
use Rattle.std.specs.Float.Ieee.Scale.{finite}
use Rattle.bits.specs.Verdict.{Verdict, accepted, declined}
use Rattle.bits.specs.Float.{nearest, bits_of}
use Rattle.payload.specs.Fill.{each}
use Rattle.payload.specs.Float.{f0, f½, f1, f2, f3, ◌⊕◌, ◌⊖◌, ◌⊗◌, ◌⊘◌, ratio}

unfoldable pub cells_usable : ℕ → Bool
cells_usable cells = nat_le 1 cells && nat_le cells 103

-- ---- triangles: two for each cell, the faces one after the other

abbrev pub cube_vertex : ℕ → ℕ → ℕ → ℕ → ℕ
cube_vertex cells face y x = face * ((cells + 1) * (cells + 1)) + (y * (cells + 1) + x)

-- with a, b in row y and c, d in the next: a d c, then a b d
abbrev pub cube_cell : ℕ → ℕ → ℕ → ℕ → List ℕ
cube_cell cells face y x =
    cube_vertex cells face y x ∷ cube_vertex cells face (y + 1) (x + 1) ∷ cube_vertex cells face (y + 1) x
    ∷ cube_vertex cells face y x ∷ cube_vertex cells face y (x + 1) ∷ cube_vertex cells face (y + 1) (x + 1) ∷ []

unfoldable pub cube_row : ℕ → ℕ → ℕ → List ℕ
cube_row cells face y = each (cube_cell cells face y) cells

unfoldable pub cube_face : ℕ → ℕ → List ℕ
cube_face cells face = each (cube_row cells face) cells

unfoldable pub cube_triangles : ℕ → List ℕ
cube_triangles cells = each (cube_face cells) 6

-- 9, or the triangles
unfoldable pub cube_numbers : ℕ → Verdict (List ℕ)
cube_numbers cells = cond (cells_usable cells) (accepted (cube_triangles cells)) (declined 9)

-- ---- vertices

abbrev pub f_1 : Float
f_1 = from_bits binary32 0xbf80_0000

-- for each face the directions of its centre, of image-right and of image-up, three floats each
unfoldable pub face_table : List Float
face_table =
    f1 ∷ f0 ∷ f0 ∷ f0 ∷ f0 ∷ f1 ∷ f0 ∷ f1 ∷ f0
    ∷ f_1 ∷ f0 ∷ f0 ∷ f0 ∷ f0 ∷ f_1 ∷ f0 ∷ f1 ∷ f0
    ∷ f0 ∷ f1 ∷ f0 ∷ f_1 ∷ f0 ∷ f0 ∷ f0 ∷ f0 ∷ f_1
    ∷ f0 ∷ f_1 ∷ f0 ∷ f_1 ∷ f0 ∷ f0 ∷ f0 ∷ f0 ∷ f1
    ∷ f0 ∷ f0 ∷ f_1 ∷ f1 ∷ f0 ∷ f0 ∷ f0 ∷ f1 ∷ f0
    ∷ f0 ∷ f0 ∷ f1 ∷ f_1 ∷ f0 ∷ f0 ∷ f0 ∷ f1 ∷ f0 ∷ []

abbrev pub centre : ℕ → ℕ → Float
centre face axis = slice_index_or face_table (face * 9 + axis) nan

abbrev pub right : ℕ → ℕ → Float
right face axis = slice_index_or face_table (face * 9 + 3 + axis) nan

abbrev pub up : ℕ → ℕ → Float
up face axis = slice_index_or face_table (face * 9 + 6 + axis) nan

-- where the face's picture lies in the frame, a grid of 3 columns and 2 rows, with the padding's share cut off on each
-- side; v runs upward
abbrev pub u₀ : ℕ → Float → Float
u₀ face share = (nearest (face % 3) ⊕ share) ⊘ f3

abbrev pub u₁ : ℕ → Float → Float
u₁ face share = (nearest (face % 3) ⊕ f1 ⊖ share) ⊘ f3

abbrev pub v₀ : ℕ → Float → Float
v₀ face share = (f2 ⊖ nearest (face / 3) ⊖ f1 ⊕ share) ⊘ f2

abbrev pub v₁ : ℕ → Float → Float
v₁ face share = (f2 ⊖ nearest (face / 3) ⊖ share) ⊘ f2

-- from the middle of the face out to its edges
abbrev pub outward : ℕ → ℕ → Float
outward i cells = f2 ⊗ ratio i cells ⊖ f1

abbrev pub position : ℕ → Float → ℕ → ℕ → ℕ → ℕ → Float
position cells radius face y x axis =
    radius ⊗ (centre face axis ⊕ right face axis ⊗ outward x cells ⊕ up face axis ⊗ outward y cells)

-- x, y, z, u, v as bit patterns
unfoldable pub cube_point : ℕ → Float → Float → ℕ → ℕ → ℕ → List ℕ
cube_point cells radius share face y x =
    bits_of (position cells radius face y x 0)
    ∷ bits_of (position cells radius face y x 1)
    ∷ bits_of (position cells radius face y x 2)
    ∷ bits_of (u₀ face share ⊕ (u₁ face share ⊖ u₀ face share) ⊗ ratio x cells)
    ∷ bits_of (v₀ face share ⊕ (v₁ face share ⊖ v₀ face share) ⊗ ratio y cells) ∷ []

unfoldable pub point_row : ℕ → Float → Float → ℕ → ℕ → List ℕ
point_row cells radius share face y = each (cube_point cells radius share face y) (cells + 1)

unfoldable pub point_face : ℕ → Float → Float → ℕ → List ℕ
point_face cells radius share face = each (point_row cells radius share face) (cells + 1)

unfoldable pub cube_points : ℕ → Float → Float → List ℕ
cube_points cells radius share = each (point_face cells radius share) 6

-- a share of the face: not NaN, at least 0 and below one half; -0.0 counts as 0
unfoldable pub share_usable : Float → Bool
share_usable x = le f0 x && lt x f½

-- 9, then 11, or the vertices
unfoldable pub cube_floats : ℕ → Float → Float → Verdict (List ℕ)
cube_floats cells radius share =
    cond (cells_usable cells)
    (cond (finite radius && share_usable share) (accepted (cube_points cells radius share)) (declined 11))
    (declined 9)
