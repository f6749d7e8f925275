-- `fill_records` meets its contract. The invariant: storing the records of the submeshes that are left gives the same as storing all at first. Assumes nothing.
use Rattle.std.proofs.Common.{◌≡◌, ℕ, ◌+◌, ◌*◌, ◌<◌, ◌≤◌, List, length}
use lib.Seq.{sets}
use Rattle.payload.specs.MeshDrawing.{submesh_records, point_count}
use Rattle.payload.specs.InternalWalk.{submeshes_in}
use Rattle.payload.specs.declared.mesh.submeshes.SubmeshWalk.{SubmeshWalk}
use Rattle.payload.proofs.mesh.records.fill_records.Given as goal

pub record Inv (mesh : ℕ) (all : List ℕ) (end : ℕ) (records₀ records : List ℕ) (left : SubmeshWalk) (first at : ℕ) : Type 0 where
  pub same : all ≡ sets records at (submesh_records mesh first (submeshes_in left))
  pub points : end ≡ first + point_count (submeshes_in left)
  pub below : end < 4294967296
  pub room : at + 5 * left.rest.left ≤ length records
  pub long : length records ≡ length records₀

abbrev pub invariant-loop-submesh : goal.invariant-loop-submesh
invariant-loop-submesh l =
    Inv l.eye (sets l.initial.records l.initial.at (submesh_records l.eye l.initial.first (submeshes_in l.fn.submeshes)))
    (l.initial.first + point_count (submeshes_in l.fn.submeshes)) l.initial.records l.records l.submesh-iterator l.first l.at
