-- `measure` meets its contract: what was judged and counted, with what is left. Assumes nothing.
use Prim.Native.Nat.{◌*◌}
use Rattle.display.proofs.JudgeLaws.{Judging}
use Rattle.display.proofs.triangulation.measure.Given as goal

abbrev pub invariant-loop-number : goal.invariant-loop-number
invariant-loop-number l = Judging l.records (5 * l.number) l.points l.numbers
