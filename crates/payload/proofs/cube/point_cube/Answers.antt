-- `point_cube` meets its contract: the points of so many faces are put. Assumes nothing.
use Rattle.std.proofs.Common.{refl, arith}
use lib.Ieee.{of_bits, of_int}
use Rattle.payload.specs.Cube.{face_table, cube_points}
use Rattle.payload.proofs.FillLaws.{placed_none, placed_room, placed_more, placed_all}
use Rattle.payload.proofs.FaceCodes.{codes_make}
use Rattle.payload.proofs.cube.point_cube.Goals as goal

-- the codes of the source make the whole table of the definitions: computed
pub loop-face-init : goal.loop-face-init
unfolding face_table of_bits of_int
loop-face-init c = (placed_none, record { six = refl; shape = refl; same = refl })

pub point_face-to-requires-clause-made : goal.point_face-to-requires-clause-made
point_face-to-requires-clause-made c = codes_make c.loop-face.invariant.1 c.loop-face.face (omega arith)

pub point_face-to-requires-clause-room : goal.point_face-to-requires-clause-room
unfolding cube_points
point_face-to-requires-clause-room c = placed_room c.loop-face.invariant.0 6 refl (omega arith) (omega arith)

pub loop-face-preserved : goal.loop-face-preserved
loop-face-preserved c =
    let p = c.point_face-to.ensures in
    (placed_more c.loop-face.invariant.0 refl p.place p.floats, c.loop-face.invariant.1)

pub returns : goal.returns
unfolding cube_points
returns c = (placed_all c.loop-face.invariant.0 6 (omega arith)).items
