-- `close_up` meets its contract. Assumes nothing.
use Prim.Native.Nat.{◌-◌}
use Rattle.display.proofs.ClosingLaws.{Closing}
use Rattle.display.proofs.shown.close_up.Given as goal

abbrev pub invariant-loop-from : goal.invariant-loop-from
invariant-loop-from l = Closing l.initial.entries l.place l.end l.entries l.from

abbrev pub decreases-loop-from : goal.decreases-loop-from
decreases-loop-from l = l.end - l.from
