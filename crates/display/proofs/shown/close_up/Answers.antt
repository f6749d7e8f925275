-- `close_up` meets its contract. Assumes nothing.
use native.Mathlib.Omega.{arith}
use Rattle.display.proofs.ClosingLaws.{closing_none, closing_next, closing_all}
use Rattle.display.proofs.shown.close_up.Goals as goal

pub loop-from-init : goal.loop-from-init
loop-from-init c = closing_none c.args.entries.now c.args.place c.args.end (omega arith)

pub loop-from-preserved : goal.loop-from-preserved
loop-from-preserved c = closing_next c.loop-from.invariant (omega arith) (omega arith) _ (omega arith)

pub returns : goal.returns
returns c = closing_all c.loop-from.invariant (omega arith)
