-- `fill_triangles` meets its contract: i triangles are put. Assumes nothing.
use Rattle.payload.specs.InternalSphere.{shifted}
use Rattle.payload.proofs.FillLaws.{Placed}
use Rattle.payload.proofs.sphere.fill_triangles.Given as goal

abbrev pub invariant-loop-i : goal.invariant-loop-i
invariant-loop-i l = Placed (shifted l.a l.b l.c) l.initial.out l.at l.out l.to l.i
