-- `add_mesh` meets its contract: the submeshes that its head tells of are the mesh's. Assumes nothing.
use Rattle.std.proofs.Common.{◌≡◌, [], ◌∷◌, sym, ap, ◌∙◌}
use Rattle.payload.specs.Internal.{submeshes_of, mesh_read}
use Rattle.payload.specs.InternalTextures.{weights, list_weights}
use Rattle.payload.proofs.HeadLaws.{head_known}
use Rattle.payload.proofs.TextureLaws.{one_mesh_lem}
use Rattle.payload.proofs.mesh.textures.Table.add_mesh.Goals as goal

pub add_submeshes-requires : goal.add_submeshes-requires
add_submeshes-requires c =
    let K = head_known _ _ c.args.mesh.short c.args.mesh.read c.mesh_head.ensures in
    let are : list_weights (mesh_read c.args.mesh.s.now ∷ []) ≡ weights (submeshes_of c.args.mesh.s.now c.mesh_head.result.submeshes) = one_mesh_lem (mesh_read c.args.mesh.s.now) ∙ ap weights (sym K.are) in
    rw (← are) c.requires

pub returns : goal.returns
returns c =
    let K = head_known _ _ c.args.mesh.short c.args.mesh.read c.mesh_head.ensures in
    let are : list_weights (mesh_read c.args.mesh.s.now ∷ []) ≡ weights (submeshes_of c.args.mesh.s.now c.mesh_head.result.submeshes) = one_mesh_lem (mesh_read c.args.mesh.s.now) ∙ ap weights (sym K.are) in rw are c.add_submeshes.ensures

pub invariant_of-submeshes : goal.invariant_of-submeshes
invariant_of-submeshes c = record { there = (head_known _ _ c.args.mesh.short c.args.mesh.read c.mesh_head.ensures).submeshes }
