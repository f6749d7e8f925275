-- `find_submesh` meets its contract: the payload's own refusal, or what is found in a list that was read. Assumes
-- nothing.
use Rattle.std.proofs.Common.{◌∙◌}
use Rattle.bits.proofs.SaysLaws.{passed}
use Rattle.payload.proofs.TurnLaws.{listed}
use Rattle.payload.proofs.StandingLaws.{found_declined, found_listed}
use Rattle.payload.proofs.mesh.find.find_submesh.Goals as goal

pub returns-in_err-measure_meshes : goal.returns-in_err-measure_meshes
returns-in_err-measure_meshes c =
    passed _ _ _ c.from_residual.ensures.1
    ∙ found_declined c.args.payload.now c.args.number _ c.in_err-measure_meshes.ensures

pub find_in-requires : goal.find_in-requires
find_in-requires c =
    let told = listed c.args.payload.now _ c.in_ok-measure_meshes.ensures in (told.short, told.read)

pub returns : goal.returns
returns c =
    c.find_in.ensures ∙ found_listed _ _ (listed c.args.payload.now _ c.in_ok-measure_meshes.ensures)
