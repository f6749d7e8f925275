-- `record_boxes` meets its contract. The invariant: storing the records that are left gives the same as storing all at first. Assumes nothing.
use Rattle.std.proofs.Common.{ap, ◌∙◌}
use Rattle.payload.specs.MeshDrawing.{first_eye}
use Rattle.payload.proofs.MeshTheorems.{any_was}
use Rattle.payload.proofs.RecordLaws.{records-start, records_end, records_room, records_on_mesh}
use Rattle.payload.proofs.mesh.records.record_boxes.Goals as goal

pub invariant_of-mesh-items : goal.invariant_of-mesh-items
invariant_of-mesh-items c = record { short = c.requires.0; read = any_was _ c.requires.1 }

pub loop-mesh-init : goal.loop-mesh-init
loop-mesh-init c =
    rw c.into_iter-mesh-iterator.ensures.into_iter_gives
    (records-start c.args.s.now c.args.records.now _ (c.first_eye.ensures ∙ ap first_eye c.requires.3) c.requires.0 c.requires.1 c.requires.2)

pub record_mesh-to-requires : goal.record_mesh-to-requires
record_mesh-to-requires c = records_room c.loop-mesh.invariant c.in-Some.ensures.steps.is

pub loop-mesh-preserved : goal.loop-mesh-preserved
loop-mesh-preserved c =
    let u = c.record_mesh-to in
    records_on_mesh c.loop-mesh.invariant c.in-Some.ensures.steps.is _ u.result u.auto.records u.ensures.records u.ensures.place

pub returns : goal.returns
returns c = records_end c.loop-mesh.invariant c.in-None.ensures.steps
