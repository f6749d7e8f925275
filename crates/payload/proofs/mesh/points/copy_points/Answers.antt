-- `copy_points` meets its contract: storing the words of the points that are left gives what storing all at first
-- gives. Assumes nothing.
use Rattle.std.proofs.Common.{refl, sym, ◌∙◌, arith}
use Rattle.payload.specs.Internal.{word_in}
use Rattle.payload.proofs.PointLaws.{points_end}
use Rattle.payload.proofs.ExpandedLaws.{copying_on}
use Rattle.payload.proofs.mesh.points.copy_points.Goals as goal

pub loop-vertex-preserved : goal.loop-vertex-preserved
loop-vertex-preserved c =
    let l = c.loop-vertex in
    record {
      place = omega (arith, l.invariant.place);
      copied = copying_on l.invariant.copied _ _ c.loop-vertex-test.true refl
          (omega (arith, c.requires.points_bound, l.invariant.place)) c.copy_point.ensures;
    }

pub returns : goal.returns
returns c =
    let a = c.args in
    let l = c.loop-vertex in
    record {
      floats = points_end (word_in a.words.now) a.expanded a.points.now l.vertex-index l.words _
          c.loop-vertex-test.false ∙ sym l.invariant.copied.same;
    }
