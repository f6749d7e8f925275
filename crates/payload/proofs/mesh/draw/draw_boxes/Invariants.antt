-- `draw_boxes` meets its contract. The invariant: storing the meshes that are left gives the same as storing all at first. Assumes nothing.
use Rattle.payload.specs.Internal.{meshes_from}
use Rattle.payload.specs.InternalMeshes.{meshes_in}
use Rattle.payload.proofs.DrawLaws.{MeshesLeft}
use Rattle.payload.proofs.mesh.draw.draw_boxes.Given as goal

abbrev pub invariant-loop-mesh : goal.invariant-loop-mesh
invariant-loop-mesh l =
    MeshesLeft (meshes_from l.s 0) l.initial.numbers l.initial.words l.numbers l.words (meshes_in l.mesh-iterator) l.to
