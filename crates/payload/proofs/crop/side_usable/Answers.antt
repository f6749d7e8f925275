-- `side_usable` meets its contract: the two comparisons say that x is finite. Assumes nothing.
use Rattle.std.proofs.Common.{◌≡◌, true, false, ◌&&◌, refl}
use lib.Ieee.{Float, nan, inf, fin, of_bits, le, lt}
use Rattle.payload.specs.Float.{f0, f1}
use Rattle.payload.specs.Crop.{side_usable}
use Rattle.payload.proofs.crop.side_usable.Goals as goal

is_finite : (x : Float) → (le f0 x && lt x f1) ≡ side_usable x
unfolding side_usable le lt of_bits
is_finite nan = refl
is_finite (inf true) = refl
is_finite (inf false) = refl
is_finite (fin s m e) = refl

pub returns : goal.returns
returns c = is_finite c.args.x
