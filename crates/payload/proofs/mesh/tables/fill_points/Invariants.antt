-- `fill_points` meets its contract: what is left of the points goes to what is left of the buffer. Assumes nothing.
use Rattle.std.proofs.Common.{◌≡◌, ℕ, ◌+◌, ◌≤◌, List, length}
use lib.Seq.{sets}
use Rattle.payload.specs.Tables.{all_points}
use Rattle.payload.specs.InternalWalk.{submeshes_in}
use Rattle.payload.specs.declared.mesh.submeshes.SubmeshWalk.{SubmeshWalk}
use Rattle.payload.proofs.mesh.tables.fill_points.Given as goal

pub record Inv (all left : SubmeshWalk) (out₀ out : List ℕ) (at : ℕ) : Type 0 where
  pub body : left.s.now ≡ all.s.now
  pub same : sets out₀ 0 (all_points (submeshes_in all)) ≡ sets out at (all_points (submeshes_in left))
  pub room : at + length (all_points (submeshes_in left)) ≤ length out
  pub long : length out ≡ length out₀

abbrev pub invariant-loop-submesh : goal.invariant-loop-submesh
invariant-loop-submesh l = Inv l.fn.submeshes l.submesh-iterator l.initial.out l.out l.at
