-- `counts_fit` meets its contract. Assumes nothing.
use Rattle.std.proofs.Common.{refl}
use Rattle.payload.specs.InternalWriting.{counts_fit}
use Rattle.payload.proofs.mesh.judge.counts_fit.Goals as goal

pub returns : goal.returns
unfolding counts_fit
returns c = refl
