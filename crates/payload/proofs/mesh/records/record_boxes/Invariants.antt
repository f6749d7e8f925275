-- `record_boxes` meets its contract. The invariant: storing the records that are left gives the same as storing all at first. Assumes nothing.
use Rattle.payload.specs.Internal.{meshes_from}
use Rattle.payload.specs.InternalMeshes.{meshes_in}
use Rattle.payload.proofs.RecordLaws.{RecordsLeft}
use Rattle.payload.proofs.mesh.records.record_boxes.Given as goal

abbrev pub invariant-loop-mesh : goal.invariant-loop-mesh
invariant-loop-mesh l = RecordsLeft (meshes_from l.s 0) l.initial.records l.records (meshes_in l.mesh-iterator) l.to
