-- `write_mesh` meets its contract. Assumes nothing.
use Rattle.std.proofs.Common.{ℕ, ◌≤◌, length, sym, ap, ◌∙◌, subst, div-one}
use lib.Seq.{sets}
use Rattle.bits.proofs.VerdictLaws.{mapped_declined, mapped_value}
use Rattle.payload.specs.MeshWrite.{mesh_written, tables_mesh}
use Rattle.payload.proofs.BoxLaws.{box_length}
use Rattle.payload.proofs.LentLaws.{told_declined, told_filled, told_needs}
use Rattle.payload.proofs.JudgeLaws.{written_value}
use Rattle.payload.proofs.mesh.write.write_mesh.Goals as goal

pub returns-in-Err : goal.returns-in-Err
returns-in-Err c =
    let a = c.args in
    let written = mesh_written a.pool.now a.coordinates.now a.submeshes.now a.points.now in
    let r = told_declined 1 written a.out.now _ (mapped_declined length written _ c.in-Err.ensures) in
    record { answer = r.0; buffers = r.1 }

pub returns-then-out-n : goal.returns-then-out-n
returns-then-out-n c =
    let a = c.args in
    let written = mesh_written a.pool.now a.coordinates.now a.submeshes.now a.points.now in
    let v = mapped_value length written _ c.in-Ok.ensures in
    let r = told_needs 1 written a.out.now v.0 _ v.1 (sym v.2) c.if-out-n.true in
    record { answer = r.0; buffers = r.1 }

pub put_box-requires : goal.put_box-requires
put_box-requires c =
    let a = c.args in
    let v = mapped_value length (mesh_written a.pool.now a.coordinates.now a.submeshes.now a.points.now) _
    c.in-Ok.ensures in
    let w = written_value a.pool.now a.coordinates.now a.submeshes.now a.points.now v.0 v.1 in
    record {
      points_value = w.0;
      size_value = sym v.2 ∙ ap length w.1
          ∙ box_length (tables_mesh a.pool.now a.coordinates.now a.submeshes.now a.points.now);
      size_in_bounds = c.if-out-n.false;
    }

pub returns-else-out-n : goal.returns-else-out-n
returns-else-out-n c =
    let a = c.args in
    let written = mesh_written a.pool.now a.coordinates.now a.submeshes.now a.points.now in
    let v = mapped_value length written _ c.in-Ok.ensures in
    let w = written_value a.pool.now a.coordinates.now a.submeshes.now a.points.now v.0 v.1 in
    let fits = subst (λ (k : ℕ). k ≤ length a.out.now) (sym v.2) c.if-out-n.false in
    let r = told_filled 1 written a.out.now v.0 _ _ v.1 (sym v.2 ∙ sym (div-one (length v.0))) fits
    (c.put_box.ensures ∙ ap (sets a.out.now 0) (sym w.1)) in
    record { answer = r.0; buffers = r.1 }
