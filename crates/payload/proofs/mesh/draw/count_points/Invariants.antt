-- `count_points` meets its contract. The invariant: the points that were counted and those that are left are all. Assumes nothing.
use Rattle.std.proofs.Common.{◌≡◌, ◌+◌}
use Rattle.payload.specs.MeshDrawing.{point_count}
use Rattle.payload.specs.InternalWalk.{submeshes_in}
use Rattle.payload.proofs.mesh.draw.count_points.Given as goal

abbrev pub invariant-loop-submesh : goal.invariant-loop-submesh
invariant-loop-submesh l = point_count (submeshes_in l.fn.submeshes) ≡ l.points + point_count (submeshes_in l.submesh-iterator)
