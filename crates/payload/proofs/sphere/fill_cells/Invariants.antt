-- `fill_cells` meets its contract: i cells are put. Assumes nothing.
use Rattle.payload.specs.InternalSphere.{cell_on}
use Rattle.payload.proofs.FillLaws.{Placed}
use Rattle.payload.proofs.sphere.fill_cells.Given as goal

abbrev pub invariant-loop-i : goal.invariant-loop-i
invariant-loop-i l = Placed (cell_on l.a l.b l.c l.d) l.initial.out l.at l.out l.to l.i
