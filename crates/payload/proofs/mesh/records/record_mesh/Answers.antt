-- `record_mesh` meets its contract. Assumes nothing.
use Rattle.std.proofs.Common.{length}
use Rattle.payload.proofs.HeadLaws.{head_known}
use Rattle.payload.proofs.RecordLaws.{record_room, record_placed, mesh_recorded}
use Rattle.payload.proofs.mesh.records.record_mesh.Goals as goal

pub fill_records-first-requires : goal.fill_records-first-requires
fill_records-first-requires c =
    let K = head_known _ _ c.args.mesh.short c.args.mesh.read c.mesh_head-h.ensures in
    let r = record_room K c.args.to (length c.args.records.now) c.requires in
    record { left_in_bounds = r.0; all_bound = r.1 }

pub returns : goal.returns
returns c =
    let K = head_known _ _ c.args.mesh.short c.args.mesh.read c.mesh_head-h.ensures in
    record { place = record_placed K c.args.to c.fill_records-first.result c.fill_records-first.ensures.first; records = mesh_recorded K c.args.to _ _ c.fill_records-first.ensures.records }

pub invariant_of-submeshes : goal.invariant_of-submeshes
invariant_of-submeshes c = record { there = (head_known _ _ c.args.mesh.short c.args.mesh.read c.mesh_head-h.ensures).submeshes }
