-- `point_row` meets its contract: x points are put. Assumes nothing.
use Rattle.payload.specs.InternalCube.{point_at}
use Rattle.payload.proofs.FillLaws.{Placed}
use Rattle.payload.proofs.cube.point_row.Given as goal

abbrev pub invariant-loop-x : goal.invariant-loop-x
invariant-loop-x l = Placed (point_at l.cells.n l.radius l.face l.y) l.initial.out l.at l.out l.to l.x
