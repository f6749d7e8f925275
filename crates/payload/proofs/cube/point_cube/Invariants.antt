-- `point_cube` meets its contract: the points of so many faces are put. Assumes nothing.
use Rattle.payload.specs.Cube.{point_face}
use Rattle.payload.proofs.FillLaws.{Placed}
use Rattle.payload.proofs.FaceCodes.{FaceTable}
use Rattle.payload.proofs.cube.point_cube.Given as goal

abbrev pub invariant-loop-face : goal.invariant-loop-face
invariant-loop-face l =
    Placed (point_face l.cells.n l.radius l.share) l.initial.out 0 l.out l.to l.face × FaceTable l.faces
