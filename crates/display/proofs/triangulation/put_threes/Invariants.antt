-- `put_threes` meets its contract: i numbers are put. Assumes nothing.
use Prim.Native.Nat.{◌+◌}
use Rattle.payload.proofs.FillLaws.{Filling}
use Rattle.display.specs.Internal.{point_after}
use Rattle.display.proofs.triangulation.put_threes.Given as goal

abbrev pub invariant-loop-i : goal.invariant-loop-i
invariant-loop-i l = Filling (point_after l.first) l.numbers l.initial.out l.at l.out (l.at + l.i) l.i
