-- `draw_run` meets its contract: storing the words of the points that are left gives what storing all at first
-- gives. Assumes nothing.
use Rattle.std.proofs.Common.{◌≡◌, ◌+◌, ◌*◌, [], ◌∷◌}
use lib.Seq.{sets}
use Rattle.bits.specs.Number.{width_of}
use Rattle.bits.specs.Run.{read_run}
use Rattle.payload.specs.MeshDrawing.{run_words}
use Rattle.payload.specs.Internal.{run_numbers, word_at, ExpandedFrom}
use Rattle.payload.proofs.PointLaws.{RunLeft}
use Rattle.payload.proofs.mesh.points.draw_run.Given as goal

abbrev pub invariant-loop-left : goal.invariant-loop-left
invariant-loop-left l =
    record {
      points : RunLeft l.s (width_of l.limit) l.limit l.numbers l.base l.initial.words
          (sets l.initial.words l.at
          (run_words (word_at l.s l.numbers) l.base
          (run_numbers (read_run l.s (width_of l.limit) l.limit l.initial.left l.initial.bit (0 ∷ [])))))
          l.words l.bit l.last.0 l.left l.to;
      expanded : ExpandedFrom l.to l.s l.numbers l.base (5 * l.limit) l.words l.expanded;
      place : l.to + 5 * l.left ≡ l.at + 5 * l.initial.left;
    }

abbrev pub decreases-loop-left : goal.decreases-loop-left
decreases-loop-left l = l.left
