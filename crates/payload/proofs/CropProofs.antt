-- m4 and m5, and that the whole sphere is usable, by computation. Assumes nothing.
use Rattle.std.proofs.Common.{◌≡◌, true, refl}
use lib.Ieee.{add, sum, div, round, units, odd, size, span, climb, of_int, of_bits, of_fields, lt, le, eq}
use lib.Count.{count_trailing_zeros}
use Rattle.payload.specs.Crop.{usable, side_usable, full}
use Rattle.payload.specs.Equi.{crop_of}
use Rattle.payload.specs.CropMarked.{CropMarked}

pub crop_marked : CropMarked
unfolding usable side_usable crop_of add sum div round units odd size span climb of_int of_bits of_fields lt le eq count_trailing_zeros
crop_marked = record { m4 = refl; m4_refused = refl; m5 = refl; m5_refused = refl }

pub full-usable : usable full ≡ true
unfolding usable side_usable of_bits add eq lt le
full-usable = refl
