-- `count_textures` meets its contract. The invariant: the submeshes of the meshes that are not left are in the table. Assumes nothing.
use Rattle.std.proofs.Common.{◌≡◌, ℕ, ◌+◌, ◌<◌, ◌≤◌, List, [], length, ap, ◌∙◌, arith}
use Rattle.payload.specs.MeshRead.{read_meshes}
use Rattle.payload.specs.Internal.{WasRead, value_or, meshes_from}
use Rattle.payload.specs.Records.{point_sum}
use Rattle.payload.specs.InternalTextures.{list_weights}
use Rattle.payload.proofs.StepLaws.{read_value}
use Rattle.payload.proofs.MeshTheorems.{any_read, any_was}
use Rattle.payload.proofs.MeasureLaws.{list_fits}
use Rattle.payload.proofs.TextureLaws.{first_mesh, list-weights-sum}
use Rattle.payload.proofs.TallyLaws.{adding_all, adding_room, adding_on}
use Rattle.payload.proofs.mesh.textures.Table.count_textures.Goals as goal

-- all points together fit a word
fits : (s : List ℕ) → length s ≤ 67108864 → WasRead (read_meshes s)
    → 0 + point_sum (list_weights (meshes_from s 0)) < 4294967296
fits s h r =
    let v = read_value (read_meshes s) r in
    let e : meshes_from s 0 ≡ v.0 = ap (value_or []) (any_read s v.0 v.1) in
    rw e (omega (arith, list-weights-sum v.0, (list_fits s v.0 v.1).1))

pub invariant_of-mesh-items : goal.invariant_of-mesh-items
invariant_of-mesh-items c = record { short = c.requires.0; read = any_was _ c.requires.1 }

pub add_mesh-requires : goal.add_mesh-requires
add_mesh-requires c =
    adding_room c.loop-mesh.invariant _ _ (ap list_weights c.in-Some.ensures.steps.is ∙ first_mesh _ _)
    (record { before = []; tally = c.requires.2; fits = fits _ c.requires.0 c.requires.1 })

pub loop-mesh-preserved : goal.loop-mesh-preserved
loop-mesh-preserved c =
    adding_on c.loop-mesh.invariant _ _ (ap list_weights c.in-Some.ensures.steps.is ∙ first_mesh _ _) c.add_mesh.ensures

pub returns : goal.returns
unfolding list_weights
returns c =
    adding_all c.loop-mesh.invariant (ap list_weights c.in-None.ensures.steps) [] c.requires.2 (fits _ c.requires.0 c.requires.1)
