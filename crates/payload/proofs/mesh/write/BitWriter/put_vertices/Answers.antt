-- `put_vertices` meets its contract: four parts, one after the other. Assumes nothing.
use Rattle.std.proofs.Common.{arith}
use Rattle.payload.specs.MeshWrite.{vertex_fields}
use Rattle.payload.proofs.RowLaws.{width_fits}
use Rattle.payload.proofs.WriterLaws.{first_ready, head_ready, on_first, on_last, on_start, on_step}
use Rattle.payload.proofs.mesh.write.BitWriter.put_vertices.Goals as goal

pub put-requires : goal.put-requires
unfolding vertex_fields
put-requires c = record { ready = first_ready _ _ c.requires.ready; width_bound = omega arith }

pub put_words-requires : goal.put_words-requires
unfolding vertex_fields
put_words-requires c = let w = on_first _ _ (on_start c.requires.ready) c.put.ensures in head_ready _ _ w.0

pub overflow_cast-coordinates : goal.overflow_cast-coordinates
unfolding vertex_fields
overflow_cast-coordinates c =
    let w = on_step _ _ (on_first _ _ (on_start c.requires.ready) c.put.ensures) c.put_words.ensures in
    record { fits = w.0.fits.0 }

pub put-requires-2 : goal.put-requires-2
unfolding vertex_fields
put-requires-2 c =
    let w = on_step _ _ (on_first _ _ (on_start c.requires.ready) c.put.ensures) c.put_words.ensures in
    record { ready = first_ready _ _ w.0; width_bound = omega arith }

pub put_run-requires : goal.put_run-requires
unfolding vertex_fields
put_run-requires c =
    let w = on_first _ _ (on_step _ _ (on_first _ _ (on_start c.requires.ready) c.put.ensures) c.put_words.ensures)
    c.put-2.ensures in
    let wide = width_fits _ (omega (arith, c.requires.pool_len_bound)) in
    record { ready = rw c.bit_width.ensures w.0; width_bound = (rw c.bit_width.ensures wide, omega arith) }

pub returns : goal.returns
unfolding vertex_fields
returns c =
    let w = on_first _ _ (on_step _ _ (on_first _ _ (on_start c.requires.ready) c.put.ensures) c.put_words.ensures)
    c.put-2.ensures in
    on_last w (rw c.bit_width.ensures at c.put_run.ensures)
