-- `Cells::numbers` meets its contract. Assumes nothing.
use Rattle.std.proofs.Common.{sym}
use Rattle.payload.proofs.CubeLaws.{length_triangles}
use Rattle.payload.proofs.cube.Cells.numbers.Goals as goal

pub returns : goal.returns
returns c = sym (length_triangles c.args.self.n)
