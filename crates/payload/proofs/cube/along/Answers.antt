-- `along` meets its contract: the operations in the order of the definition. Assumes nothing.
use Rattle.payload.proofs.cube.along.Goals as goal

pub returns : goal.returns
returns c = c.float_bits.ensures
