-- `add_submeshes` meets its contract. The invariant: of all submeshes those that are not left were added. Assumes nothing.
use Rattle.payload.proofs.TextureLaws.{taken_weights}
use Rattle.payload.proofs.TallyLaws.{adding_room, adding_on}
use Rattle.payload.proofs.mesh.textures.Table.add_submeshes.Goals as goal

pub add-requires : goal.add-requires
add-requires c =
    let T = c.in-Some.ensures.steps in
    (T.byte, T.run.points, adding_room c.loop-submesh.invariant _ _ (taken_weights T) c.requires)

pub loop-submesh-preserved : goal.loop-submesh-preserved
loop-submesh-preserved c =
    adding_on c.loop-submesh.invariant _ _ (taken_weights c.in-Some.ensures.steps) c.add.ensures
