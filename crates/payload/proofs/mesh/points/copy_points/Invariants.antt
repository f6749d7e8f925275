-- `copy_points` meets its contract: storing the words of the points that are left gives what storing all at first
-- gives. Assumes nothing.
use Rattle.std.proofs.Common.{◌≡◌, ◌+◌, ◌*◌}
use lib.Seq.{sets}
use Rattle.payload.specs.MeshDrawing.{run_words}
use Rattle.payload.specs.Internal.{word_in}
use Rattle.payload.proofs.ExpandedLaws.{Copying}
use Rattle.payload.proofs.mesh.points.copy_points.Given as goal

abbrev pub invariant-loop-vertex : goal.invariant-loop-vertex
invariant-loop-vertex l =
    record {
      place : l.to ≡ l.at + 5 * l.vertex-index;
      copied : Copying l.initial.words
          (sets l.initial.words l.at (run_words (word_in l.initial.words) l.expanded l.points))
          l.words l.points l.expanded l.vertex-index l.to;
    }
