-- `lengths_fit` meets its contract. Assumes nothing.
use Rattle.std.proofs.Common.{refl}
use Rattle.payload.specs.InternalWriting.{lengths_fit}
use Rattle.payload.proofs.mesh.judge.lengths_fit.Goals as goal

pub returns : goal.returns
unfolding lengths_fit
returns c = refl
