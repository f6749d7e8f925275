-- `is_usable` meets its contract. Assumes nothing.
use native.Mathlib.Omega.{arith}
use Rattle.display.proofs.ShownSumLaws.{usable_long, usable_sum, usable_none}
use Rattle.display.proofs.shown.Shown.is_usable.Goals as goal

pub returns-then-self-gt64 : goal.returns-then-self-gt64
returns-then-self-gt64 c = usable_long c.args.records.now c.args.self.now (omega arith)

pub returns-in-Ok : goal.returns-in-Ok
returns-in-Ok c =
    usable_sum c.args.records.now c.args.self.now (omega arith) _ (rw c.numbers.ensures at c.in-Ok.ensures)

pub returns-in-Err : goal.returns-in-Err
returns-in-Err c =
    usable_none c.args.records.now c.args.self.now (omega arith) _ (rw c.numbers.ensures at c.in-Err.ensures)
