-- `fill_rows` meets its contract: what is left of the rows goes to what is left of the buffer. Assumes nothing.
use Rattle.std.proofs.Common.{◌≡◌, ℕ, ◌+◌, ◌*◌, ◌≤◌, List, length}
use lib.Seq.{sets}
use Rattle.payload.specs.Tables.{submesh_rows}
use Rattle.payload.specs.InternalWalk.{submeshes_in}
use Rattle.payload.specs.declared.mesh.submeshes.SubmeshWalk.{SubmeshWalk}
use Rattle.payload.proofs.mesh.tables.fill_rows.Given as goal

pub record Inv (all left : SubmeshWalk) (out₀ out : List ℕ) (at : ℕ) : Type 0 where
  pub same : sets out₀ 0 (submesh_rows (submeshes_in all)) ≡ sets out at (submesh_rows (submeshes_in left))
  pub room : at + 3 * left.rest.left ≤ length out
  pub long : length out ≡ length out₀

abbrev pub invariant-loop-submesh : goal.invariant-loop-submesh
invariant-loop-submesh l = Inv l.fn.submeshes l.submesh-iterator l.initial.out l.out l.at
