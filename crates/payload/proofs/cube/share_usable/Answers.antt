-- `share_usable` meets its contract. Assumes nothing.
use Rattle.std.proofs.Common.{refl}
use Rattle.payload.specs.Cube.{share_usable}
use Rattle.payload.proofs.cube.share_usable.Goals as goal

pub returns : goal.returns
unfolding share_usable
returns c = refl
