-- `put_submesh_list` meets its contract: three parts, one after the other. Assumes nothing.
use Rattle.std.proofs.Common.{arith}
use Rattle.payload.proofs.RowLaws.{rows_count, width_fits}
use Rattle.payload.proofs.WriterLaws.{first_ready, on_first, on_last, on_start}
use Rattle.payload.proofs.mesh.write.BitWriter.put_submesh_list.Goals as goal

pub put-requires : goal.put-requires
put-requires c = record { ready = first_ready _ _ c.requires.ready; width_bound = omega (arith, c.requires.ready.few) }

pub overflow_cast-rows : goal.overflow_cast-rows
overflow_cast-rows c =
    record {
      fits = rw (← rows_count c.args.rows.now c.args.points.now c.requires.points_value)
          c.requires.ready.fits.1.0;
    }

pub put-requires-2 : goal.put-requires-2
put-requires-2 c =
    let w = on_first _ _ (on_start c.requires.ready) c.put.ensures in
    record {
      ready = rw (← rows_count c.args.rows.now c.args.points.now c.requires.points_value) (first_ready _ _ w.0);
      width_bound = omega arith;
    }

pub put_submeshes-requires : goal.put_submeshes-requires
put_submeshes-requires c =
    let n = rows_count c.args.rows.now c.args.points.now c.requires.points_value in
    let w = on_first _ _ (on_first _ _ (on_start c.requires.ready) c.put.ensures) (rw (← n) at c.put-2.ensures) in
    record {
      ready = rw c.bit_width.ensures w.0;
      width_bound = rw c.bit_width.ensures (width_fits _ c.requires.m_bound);
      points_value = c.requires.points_value;
    }

pub returns : goal.returns
returns c =
    let n = rows_count c.args.rows.now c.args.points.now c.requires.points_value in
    let w = on_first _ _ (on_first _ _ (on_start c.requires.ready) c.put.ensures) (rw (← n) at c.put-2.ensures) in
    on_last w (rw c.bit_width.ensures at c.put_submeshes.ensures)
