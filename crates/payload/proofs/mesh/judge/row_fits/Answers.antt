-- `row_fits` meets its contract. Assumes nothing.
use Rattle.payload.proofs.RowLaws.{row_tested}
use Rattle.payload.proofs.mesh.judge.row_fits.Goals as goal

pub returns : goal.returns
returns c = let a = c.args in row_tested a.texture a.mode a.count a.left
