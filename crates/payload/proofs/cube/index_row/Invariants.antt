-- `index_row` meets its contract: x cells are put. Assumes nothing.
use Rattle.payload.specs.Cube.{cube_cell}
use Rattle.payload.proofs.FillLaws.{Placed}
use Rattle.payload.proofs.cube.index_row.Given as goal

abbrev pub invariant-loop-x : goal.invariant-loop-x
invariant-loop-x l = Placed (cube_cell l.fn.cells.n l.face l.y) l.initial.out l.at l.out l.to l.x
