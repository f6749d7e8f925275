-- `add_submeshes` meets its contract. The invariant: of all submeshes those that are not left were added. Assumes nothing.
use Rattle.payload.specs.InternalWalk.{submeshes_in}
use Rattle.payload.specs.InternalTextures.{weights}
use Rattle.payload.proofs.TallyLaws.{Adding}
use Rattle.payload.proofs.mesh.textures.Table.add_submeshes.Given as goal

abbrev pub invariant-loop-submesh : goal.invariant-loop-submesh
invariant-loop-submesh l =
    Adding (weights (submeshes_in l.fn.submeshes)) (weights (submeshes_in l.submesh-iterator)) l.initial.self l.self
