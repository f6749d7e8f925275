-- `scene_cbmp` meets its contract. Assumes nothing.
use Rattle.std.proofs.Common.{[], ◌∷◌}
use Rattle.payload.proofs.LentLaws.{refused}
use Rattle.scene.specs.Internal.{cbmp_plan}
use Rattle.scene.proofs.KindLaws.{cbmp_read_law, cbmp_declined}
use Rattle.scene.proofs.scene_cbmp.Goals as goal

pub returns-in-Err : goal.returns-in-Err
returns-in-Err c =
    let a = c.args in
    λ rs. refused (cbmp_plan a.payload.now a.cells a.radius a.face_width) (a.numbers.now ∷ a.floats.now ∷ rs ∷ []) _
    (cbmp_declined a.cells a.radius a.face_width a.payload.now _ c.in-Err.ensures)

pub returns-in-Ok : goal.returns-in-Ok
returns-in-Ok c =
    let a = c.args in
    rw (← cbmp_read_law a.cells a.radius a.face_width a.payload.now _ c.in-Ok.ensures, ← c.face_share-share.ensures)
    c.draw_cube.ensures
