-- `run_bits` meets its contract. Assumes nothing.
use Rattle.payload.proofs.RowLaws.{run_most}
use Rattle.payload.proofs.mesh.head.run_bits.Goals as goal

pub returns-clause-most : goal.returns-clause-most
returns-clause-most c = run_most c.args.count c.args.limit c.bit_width.result c.requires.1 c.bit_width.ensures
