-- `fill` meets its contract: with what is left put too, all triangles are put. Assumes nothing.
use Prim.Native.Nat.{◌*◌}
use Rattle.display.proofs.PutLaws.{Putting}
use Rattle.display.proofs.triangulation.fill.Given as goal

abbrev pub invariant-loop-number : goal.invariant-loop-number
invariant-loop-number l = Putting l.records l.initial.out l.out l.to (5 * l.number)
