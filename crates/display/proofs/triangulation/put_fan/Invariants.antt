-- `put_fan` meets its contract: k triangles are put. Assumes nothing.
use Prim.Native.Nat.{◌+◌, ◌*◌}
use Rattle.display.proofs.LoopLaws.{Putting}
use Rattle.display.proofs.triangulation.put_fan.Given as goal

abbrev pub invariant-loop-k : goal.invariant-loop-k
invariant-loop-k l = Putting 2 l.first l.n l.initial.out l.at l.out (l.at + 3 * l.k) l.k
