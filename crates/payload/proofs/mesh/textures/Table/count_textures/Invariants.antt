-- `count_textures` meets its contract. The invariant: the submeshes of the meshes that are not left are in the table. Assumes nothing.
use Rattle.payload.specs.Internal.{meshes_from}
use Rattle.payload.specs.InternalMeshes.{meshes_in}
use Rattle.payload.specs.InternalTextures.{list_weights}
use Rattle.payload.proofs.TallyLaws.{Adding}
use Rattle.payload.proofs.mesh.textures.Table.count_textures.Given as goal

abbrev pub invariant-loop-mesh : goal.invariant-loop-mesh
invariant-loop-mesh l =
    Adding (list_weights (meshes_from l.s 0)) (list_weights (meshes_in l.mesh-iterator)) l.initial.self l.self
