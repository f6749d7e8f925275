-- `point_of` meets its contract. Assumes nothing.
use Rattle.payload.specs.InternalCube.{point_of}
use Rattle.payload.proofs.cube.point_of.Goals as goal

pub returns : goal.returns
unfolding point_of
returns c = cc
