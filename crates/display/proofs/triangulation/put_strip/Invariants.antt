-- `put_strip` meets its contract: the triangles of so many pairs are put. Assumes nothing.
use Prim.Native.Nat.{◌+◌, ◌*◌}
use Rattle.display.proofs.LoopLaws.{Putting}
use Rattle.display.proofs.triangulation.put_strip.Given as goal

abbrev pub invariant-loop-pair : goal.invariant-loop-pair
invariant-loop-pair l = Putting 1 l.first l.n l.initial.out l.at l.out (l.at + 6 * l.pair) (2 * l.pair)
