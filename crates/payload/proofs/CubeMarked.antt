-- m8, by computation. Assumes nothing.
use Rattle.std.proofs.Common.{refl}
use lib.Ieee.{of_bits, to_bits, of_int, add, sub, mul, div, le, lt}
use Rattle.payload.specs.Fill.{each}
use Rattle.payload.specs.Cube.{cells_usable, cube_row, cube_face, cube_triangles, cube_numbers, face_table, share_usable, cube_point, point_row, point_face, cube_points, cube_floats}
use Rattle.payload.specs.CubeMarked.{CubeMarked}

pub cube_marked : CubeMarked
unfolding each cells_usable cube_row cube_face cube_triangles cube_numbers face_table share_usable cube_point point_row point_face cube_points cube_floats of_bits to_bits of_int add sub mul div le lt
cube_marked =
    record {
      numbers = refl;
      count = refl;
      first_numbers = refl;
      floats = refl;
      first_point = refl;
      refused_0 = refl;
      refused_104 = refl;
      refused_floats_0 = λ radius share. refl;
      refused_floats_104 = λ radius share. refl;
    }
