-- `put_box` meets its contract: the parts of a box, one after the other. Assumes nothing.
use Rattle.std.proofs.Common.{List, ℕ, ◌≡◌, ◌≤◌, length, true, ◌∙◌, arith}
use Rattle.payload.specs.Laws.{Words32}
use Rattle.payload.specs.MeshWrite.{box_size, is_mesh, tables_mesh}
use Rattle.payload.proofs.JudgeLaws.{told}
use Rattle.payload.proofs.PutBoxLaws.{CanPut, after_all, after_header, after_vertices, at_start, box_is, end_at_most}
use Rattle.payload.proofs.WriterLaws.{first_ready, head_ready, on_first}
use Rattle.payload.proofs.mesh.write.put_box.Goals as goal

-- what the clauses and the words' type say
can : {pool coordinates rows points out : List ℕ} {size : ℕ} → is_mesh pool coordinates rows points ≡ true
    → size ≡ box_size (tables_mesh pool coordinates rows points) → size ≤ length out → Words32 pool
    → CanPut pool coordinates rows points out size
can e n r w = record { mesh = e; size_is = n; room = r; words = w }

pub overflow_cast-size : goal.overflow_cast-size
overflow_cast-size c = omega (arith, c.requires.size_value, (told _ _ _ _ c.requires.points_value).size)

pub put-requires : goal.put-requires
put-requires c =
    let q = c.requires in
    let b = can q.points_value q.size_value q.size_in_bounds (λ k. (c.type_inv.pool k).fits) in
    record { ready = first_ready _ _ (at_start b).0; width_bound = omega arith }

pub put-requires-2 : goal.put-requires-2
put-requires-2 c =
    let q = c.requires in
    let b = can q.points_value q.size_value q.size_in_bounds (λ k. (c.type_inv.pool k).fits) in
    record { ready = first_ready _ _ (on_first _ _ (at_start b) c.put.ensures).0; width_bound = omega arith }

pub put_vertices-requires : goal.put_vertices-requires
put_vertices-requires c =
    let q = c.requires in
    let b = can q.points_value q.size_value q.size_in_bounds (λ k. (c.type_inv.pool k).fits) in
    record {
      ready = head_ready _ _ (after_header b c.put.ensures c.put-2.ensures).0;
      pool_len_bound = (told _ _ _ _ q.points_value).pool_most;
    }

pub put_submesh_list-requires : goal.put_submesh_list-requires
put_submesh_list-requires c =
    let q = c.requires in
    let b = can q.points_value q.size_value q.size_in_bounds (λ k. (c.type_inv.pool k).fits) in
    let t = told _ _ _ _ q.points_value in
    record {
      ready = (after_vertices b (after_header b c.put.ensures c.put-2.ensures) c.put_vertices.ensures).0;
      m_bound = t.vertex_most;
      points_value = t.rows_fit;
    }

pub finish-requires : goal.finish-requires
finish-requires c =
    let q = c.requires in
    let b = can q.points_value q.size_value q.size_in_bounds (λ k. (c.type_inv.pool k).fits) in
    let v = after_vertices b (after_header b c.put.ensures c.put-2.ensures) c.put_vertices.ensures in
    let w = after_all b v c.put_submesh_list.ensures in
    (w.0, end_at_most b w)

pub returns : goal.returns
returns c =
    let q = c.requires in
    let b = can q.points_value q.size_value q.size_in_bounds (λ k. (c.type_inv.pool k).fits) in
    let v = after_vertices b (after_header b c.put.ensures c.put-2.ensures) c.put_vertices.ensures in
    c.finish.ensures ∙ box_is b (after_all b v c.put_submesh_list.ensures)
