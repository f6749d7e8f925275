-- m8 of document 01, with the refusals on either side of the grids. The proof is in proofs/CubeMarked.antt.
use Rattle.std.specs.Prelude.{◌≡◌, [], ◌∷◌, length, take, Float}
use Rattle.bits.specs.Verdict.{accepted, declined}
use Rattle.payload.specs.Float.{f0, f1}
use Rattle.payload.specs.Cube.{cube_triangles, cube_numbers, cube_points, cube_floats}

pub record CubeMarked : Type 0 where
  -- cells 1: 36 numbers
  pub numbers : cube_numbers 1 ≡ accepted (cube_triangles 1)
  pub count : length (cube_triangles 1) ≡ 36
  pub first_numbers : take 6 (cube_triangles 1) ≡ 0 ∷ 3 ∷ 2 ∷ 0 ∷ 1 ∷ 3 ∷ []
  -- radius 1, share 0: the first point is 1, -1, -1, 0, 0.5
  pub floats : cube_floats 1 f1 f0 ≡ accepted (cube_points 1 f1 f0)
  pub first_point : take 5 (cube_points 1 f1 f0)
      ≡ 0x3f80_0000 ∷ 0xbf80_0000 ∷ 0xbf80_0000 ∷ 0x0000_0000 ∷ 0x3f00_0000 ∷ []
  pub refused_0 : cube_numbers 0 ≡ declined 9
  pub refused_104 : cube_numbers 104 ≡ declined 9
  pub refused_floats_0 : (radius share : Float) → cube_floats 0 radius share ≡ declined 9
  pub refused_floats_104 : (radius share : Float) → cube_floats 104 radius share ≡ declined 9
