-- `scale` meets its contract. Assumes nothing.
use Rattle.bits.proofs.floats.scale.Goals as goal

pub returns : goal.returns
returns c = cc
