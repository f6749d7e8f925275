-- `scene_equi` meets its contract. Assumes nothing.
use Rattle.std.proofs.Common.{[], ◌∷◌, sym, ap, ◌∙◌}
use Rattle.bits.specs.Verdict.{declined}
use Rattle.payload.proofs.LentLaws.{refused}
use Rattle.scene.specs.Internal.{equi_plan}
use Rattle.scene.proofs.KindLaws.{equi_read_law, equi_declined}
use Rattle.scene.proofs.scene_equi.Goals as goal

pub returns-in-Err : goal.returns-in-Err
returns-in-Err c =
    let a = c.args in
    λ rs. refused (equi_plan a.payload.now a.rings a.sectors) (a.numbers.now ∷ a.floats.now ∷ rs ∷ []) _
    (equi_declined a.rings a.sectors a.payload.now _ c.in-Err.ensures
    ∙ ap (λ i. declined i) (sym c.equi_refusal.ensures))

pub returns-in-Ok : goal.returns-in-Ok
returns-in-Ok c =
    let a = c.args in
    rw (← equi_read_law a.rings a.sectors a.payload.now _ _ c.in-Ok.ensures) c.draw_sphere.ensures
