-- m6 and m7, by computation. Assumes nothing.
use Rattle.std.proofs.Common.{refl}
use lib.Ieee.{of_bits, add, eq, lt, le}
use Rattle.payload.specs.Fill.{each}
use Rattle.payload.specs.Crop.{side_usable, usable}
use Rattle.payload.specs.Sphere.{grid_usable, grid_cell, grid_row, grid_triangles, sphere_numbers}
use Rattle.payload.specs.SphereMarked.{SphereMarked}

pub marked : SphereMarked
unfolding sphere_numbers grid_usable usable side_usable grid_triangles grid_row grid_cell each of_bits add eq lt le
marked = record { m6 = refl; m7_square = refl; m7_square_over = refl; m7_wide = refl; m7_wide_over = refl }
