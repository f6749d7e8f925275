-- `Bounds::is_usable` meets its contract. Assumes nothing.
use Rattle.payload.specs.Crop.{usable}
use Rattle.payload.proofs.crop.Bounds.is_usable.Goals as goal

pub returns : goal.returns
unfolding usable
returns c = cc
