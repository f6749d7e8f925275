-- `draw_points` meets its contract: storing the words of the points that are left gives what storing all at first
-- gives. Assumes nothing.
use Rattle.std.proofs.Common.{refl, sym, ◌∙◌, arith}
use Rattle.payload.specs.Internal.{word_at}
use Rattle.payload.proofs.PointLaws.{points_end, points_first}
use Rattle.payload.proofs.mesh.vertices.Vertices.draw_points.Goals as goal

pub loop-vertex-preserved : goal.loop-vertex-preserved
loop-vertex-preserved c =
    let v = c.args.self.now in
    let l = c.loop-vertex in
    record {
      place = omega (arith, l.invariant.place);
      same = l.invariant.same
          ∙ points_first (word_at v.s.now v.numbers.now) v.base c.args.points.now l.vertex-index l.words _ _ _
          c.loop-vertex-test.true refl c.draw_point.ensures;
    }

pub returns : goal.returns
returns c =
    let v = c.args.self.now in
    let l = c.loop-vertex in
    record {
      floats = points_end (word_at v.s.now v.numbers.now) v.base c.args.points.now l.vertex-index l.words _
          c.loop-vertex-test.false ∙ sym l.invariant.same;
    }
