-- What the contracts of the cube map's private functions cite: a cell's numbers by its first corner, the codes and the
-- floats of a face, and a point and a row of points made of them. No promise of a public call leans on these.
use Rattle.std.specs.Prelude.{◌≡◌, ℕ, ◌+◌, ◌*◌, ◌<◌, List, [], ◌∷◌, ℤ, pos, slice_index_or, Float}
use Rattle.std.specs.Float.{nan, binary32}
use Rattle.std.specs.Float.Ieee.{of_int}
use Rattle.std.specs.Int.{w8}
use Rattle.std.proofs.Common.{to_z, of_z}
use Rattle.bits.specs.Float.{bits_of}
use Rattle.payload.specs.Fill.{each}
use Rattle.payload.specs.Float.{f1, f2, ◌⊕◌, ◌⊖◌, ◌⊗◌, ratio}
use Rattle.payload.specs.Cube.{face_table, centre, right, up, u₀, u₁, v₀, v₁}
use Rattle.payload.specs.declared.cube.Axis.{Axis}
use Rattle.payload.specs.declared.cube.Face.{Face}

-- with a and b = a + 1 in one row, c = a + stride and d = c + 1 in the next: a d c, then a b d
abbrev pub cell_of : ℕ → ℕ → List ℕ
cell_of a stride = a ∷ (a + stride + 1) ∷ (a + stride) ∷ a ∷ (a + 1) ∷ (a + stride + 1) ∷ []

-- the float that a cast makes of a code
abbrev pub float_of : ℤ → Float
float_of z = of_int binary32 (to_z w8 (of_z w8 z))

-- nine codes that make the floats of a face
abbrev pub Makes : List ℤ → ℕ → Type 0
Makes codes face =
    (k : ℕ) → k < 9 → float_of (slice_index_or codes k (pos 0)) ≡ slice_index_or face_table (face * 9 + k) nan

abbrev pub axis_of : ℕ → ℕ → Axis
axis_of face axis = record { centre = centre face axis; right = right face axis; up = up face axis }

unfoldable pub face_of : ℕ → Float → Face
face_of face share =
    record {
      x = axis_of face 0;
      y = axis_of face 1;
      z = axis_of face 2;
      u0 = u₀ face share;
      u1 = u₁ face share;
      v0 = v₀ face share;
      v1 = v₁ face share;
    }

abbrev pub along : Float → Axis → Float → Float → ℕ
along radius axis a b = bits_of (radius ⊗ (axis.centre ⊕ axis.right ⊗ a ⊕ axis.up ⊗ b))

abbrev pub between : Float → Float → Float → ℕ
between low high s = bits_of (low ⊕ (high ⊖ low) ⊗ s)

unfoldable pub point_of : Float → Face → Float → Float → List ℕ
point_of radius face s t =
    along radius face.x (f2 ⊗ s ⊖ f1) (f2 ⊗ t ⊖ f1)
    ∷ along radius face.y (f2 ⊗ s ⊖ f1) (f2 ⊗ t ⊖ f1)
    ∷ along radius face.z (f2 ⊗ s ⊖ f1) (f2 ⊗ t ⊖ f1)
    ∷ between face.u0 face.u1 s
    ∷ between face.v0 face.v1 t ∷ []

abbrev pub point_at : ℕ → Float → Face → ℕ → ℕ → List ℕ
point_at cells radius face y x = point_of radius face (ratio x cells) (ratio y cells)

unfoldable pub row_of : ℕ → Float → Face → ℕ → List ℕ
row_of cells radius face y = each (point_at cells radius face y) (cells + 1)
