-- `put_submesh` meets its contract: four parts, one after the other. Assumes nothing.
use Rattle.std.proofs.Common.{arith}
use Rattle.payload.specs.MeshWrite.{submesh_fields}
use Rattle.payload.proofs.WriterLaws.{first_ready, on_first, on_last, on_start}
use Rattle.payload.proofs.mesh.write.BitWriter.put_submesh.Goals as goal

pub overflow_cast-points : goal.overflow_cast-points
unfolding submesh_fields
overflow_cast-points c = record { fits = c.requires.ready.fits.1.1.0 }

pub put-requires : goal.put-requires
unfolding submesh_fields
put-requires c = record { ready = first_ready _ _ c.requires.ready; width_bound = omega arith }

pub put-requires-2 : goal.put-requires-2
unfolding submesh_fields
put-requires-2 c =
    let w = on_first _ _ (on_start c.requires.ready) c.put.ensures in
    record { ready = first_ready _ _ w.0; width_bound = omega arith }

pub put-requires-3 : goal.put-requires-3
unfolding submesh_fields
put-requires-3 c =
    let w = on_first _ _ (on_first _ _ (on_start c.requires.ready) c.put.ensures) c.put-2.ensures in
    record { ready = first_ready _ _ w.0; width_bound = omega arith }

pub put_run-requires : goal.put_run-requires
unfolding submesh_fields
put_run-requires c =
    let w = on_first _ _ (on_first _ _ (on_first _ _ (on_start c.requires.ready) c.put.ensures) c.put-2.ensures)
    c.put-3.ensures in
    record { ready = w.0; width_bound = (c.requires.width_bound, omega arith) }

pub returns : goal.returns
unfolding submesh_fields
returns c =
    on_last (on_first _ _ (on_first _ _ (on_first _ _ (on_start c.requires.ready) c.put.ensures) c.put-2.ensures)
    c.put-3.ensures) c.put_run.ensures
