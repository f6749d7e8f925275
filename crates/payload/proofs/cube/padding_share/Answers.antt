-- `padding_share` meets its contract. Assumes nothing.
use Rattle.payload.proofs.cube.padding_share.Goals as goal

pub returns : goal.returns
returns c = cc
