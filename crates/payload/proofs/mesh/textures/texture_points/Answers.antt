-- `texture_points` meets its contract: the payload's own refusal, or the answer for a list that was read. Assumes
-- nothing.
use Rattle.std.proofs.Common.{ap, ◌∙◌}
use Rattle.bits.specs.Verdict.{mapped}
use Rattle.bits.proofs.SaysLaws.{passed_on}
use Rattle.payload.specs.Textures.{list_textures, textures_found}
use Rattle.payload.proofs.LentLaws.{told_declined, told_same}
use Rattle.payload.proofs.TurnLaws.{listed, not_listed}
use Rattle.payload.proofs.mesh.textures.texture_points.Goals as goal

pub returns-in_err-measure_meshes : goal.returns-in_err-measure_meshes
unfolding textures_found
returns-in_err-measure_meshes c =
    let a = c.args in
    let r = told_declined 2 (textures_found a.payload.now) a.out.now _
    (ap (mapped list_textures) (not_listed a.payload.now _ c.in_err-measure_meshes.ensures)) in
    record { answer = passed_on _ _ _ _ c.from_residual.ensures.1 ∙ r.0; buffers = r.1 }

pub fill_textures-requires : goal.fill_textures-requires
fill_textures-requires c =
    let told = listed c.args.payload.now _ c.in_ok-measure_meshes.ensures in (told.short, told.read)

pub returns : goal.returns
unfolding textures_found
returns c =
    let a = c.args in
    let told = listed a.payload.now _ c.in_ok-measure_meshes.ensures in
    let r = told_same 2 (textures_found a.payload.now) a.out.now _ _ _ (ap (mapped list_textures) told.is)
    (c.fill_textures.ensures.answer, c.fill_textures.ensures.buffers) in
    record { answer = r.0; buffers = r.1 }
