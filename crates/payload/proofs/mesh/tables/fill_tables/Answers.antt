-- `fill_tables` meets its contract: what each table holds is a part of the mesh that was read. Assumes nothing.
use Rattle.std.proofs.Common.{List, length, sym, ap, arith}
use Rattle.payload.specs.Mesh.{Submesh}
use Rattle.payload.specs.Internal.{mesh_read}
use Rattle.payload.specs.Tables.{submesh_rows, all_points}
use Rattle.payload.proofs.HeadLaws.{head_known}
use Rattle.payload.proofs.TableLaws.{stored_same, pool_known, rows_length}
use Rattle.payload.proofs.mesh.tables.fill_tables.Goals as goal

pub fill_pool-requires : goal.fill_pool-requires
fill_pool-requires c =
    let K = head_known _ _ c.requires.0 c.requires.1 c.mesh_head-h.ensures in
    let pool = pool_known _ c.requires.1 _ c.mesh_head-h.ensures.pool in
    let q = c.requires in
    (q.0, omega (arith, K.head), omega (arith, pool.1, q.2))

pub fill_vertices-requires : goal.fill_vertices-requires
fill_vertices-requires c =
    let K = head_known _ _ c.requires.0 c.requires.1 c.mesh_head-h.ensures in
    record { vertices_there = K.vertices; count_in_bounds = omega (arith, K.fives, c.requires.3) }

pub fill_rows-requires : goal.fill_rows-requires
fill_rows-requires c =
    let K = head_known _ _ c.requires.0 c.requires.1 c.mesh_head-h.ensures in
    record { left_in_bounds = omega (arith, K.count, rows_length (mesh_read c.args.s.now).submeshes, c.requires.4) }

pub fill_points-requires : goal.fill_points-requires
fill_points-requires c =
    let K = head_known _ _ c.requires.0 c.requires.1 c.mesh_head-h.ensures in
    record { all_in_bounds = omega (arith, ap (λ (l : List Submesh). length (all_points l)) K.are, c.requires.5) }

pub returns : goal.returns
returns c =
    let K = head_known _ _ c.requires.0 c.requires.1 c.mesh_head-h.ensures in
    let pool = pool_known _ c.requires.1 _ c.mesh_head-h.ensures.pool in
    let a = c.args in
    record {
      pool = stored_same a.pool.now _ _ _ c.fill_pool.ensures (sym pool.0);
      coordinates = stored_same a.coordinates.now _ _ _ c.fill_vertices.ensures.numbers K.numbers;
      submeshes = stored_same a.submeshes.now _ _ _ c.fill_rows.ensures.rows (ap submesh_rows K.are);
      points = stored_same a.points.now _ _ _ c.fill_points.ensures.points (ap all_points K.are);
    }

pub invariant_of-walk : goal.invariant_of-walk
invariant_of-walk c = record { there = (head_known _ _ c.requires.0 c.requires.1 c.mesh_head-h.ensures).submeshes }
