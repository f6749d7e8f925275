-- `draw_boxes` meets its contract. The invariant: storing the meshes that are left gives the same as storing all at first. Assumes nothing.
use Rattle.payload.proofs.MeshTheorems.{any_was}
use Rattle.payload.proofs.DrawLaws.{meshes_end, meshes_room, meshes_on}
use Rattle.payload.proofs.mesh.draw.draw_boxes.Goals as goal

pub invariant_of-mesh-items : goal.invariant_of-mesh-items
invariant_of-mesh-items c = record { short = c.requires.s_len_bound.0; read = any_was _ c.requires.s_len_bound.1 }

pub draw_mesh-to-requires : goal.draw_mesh-to-requires
draw_mesh-to-requires c = meshes_room c.loop-mesh.invariant c.in-Some.ensures.steps.is

pub loop-mesh-preserved : goal.loop-mesh-preserved
loop-mesh-preserved c =
    let u = c.draw_mesh-to in
    meshes_on c.loop-mesh.invariant c.in-Some.ensures.steps.is _ _ u.result u.auto.numbers u.auto.words u.ensures.numbers u.ensures.floats u.ensures.places

pub returns-clause-numbers : goal.returns-clause-numbers
returns-clause-numbers c = (meshes_end c.loop-mesh.invariant c.in-None.ensures.steps).0

pub returns-clause-floats : goal.returns-clause-floats
returns-clause-floats c = (meshes_end c.loop-mesh.invariant c.in-None.ensures.steps).1
