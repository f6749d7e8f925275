-- `word_is_finite` meets its contract. Assumes nothing.
use Rattle.std.proofs.Common.{sym}
use Rattle.payload.proofs.PoolLaws.{finite_bits}
use Rattle.payload.proofs.mesh.fields.word_is_finite.Goals as goal

pub returns : goal.returns
returns c = sym (finite_bits c.args.word)
