-- `draw_points` meets its contract: storing the words of the points that are left gives what storing all at first
-- gives. Assumes nothing.
use Rattle.std.proofs.Common.{◌≡◌, ◌+◌, ◌*◌, drop}
use lib.Seq.{sets}
use Rattle.payload.specs.InternalPoints.{vertex_words}
use Rattle.payload.proofs.mesh.vertices.Vertices.draw_points.Given as goal

abbrev pub invariant-loop-vertex : goal.invariant-loop-vertex
invariant-loop-vertex l =
    record {
      place : l.to ≡ l.at + 5 * l.vertex-index;
      same : sets l.initial.words l.at (vertex_words l.self l.points)
          ≡ sets l.words l.to (vertex_words l.self (drop l.vertex-index l.points));
    }
