-- `Cells::new` meets its contract. Assumes nothing.
use Rattle.std.proofs.Common.{refl, arith}
use Rattle.payload.proofs.CubeLaws.{usable_no}
use Rattle.payload.proofs.cube.Cells.new.Goals as goal

pub returns-then-n-lt1 : goal.returns-then-n-lt1
returns-then-n-lt1 c = (refl, usable_no c.args.n (λ p q. omega arith))
