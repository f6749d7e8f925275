-- `fill_points` meets its contract: what is left of the points goes to what is left of the buffer. Assumes nothing.
use Rattle.std.proofs.Common.{sym, ap, ◌∙◌, arith}
use lib.Seq.{sets}
use Rattle.payload.proofs.TableLaws.{points_none, points_stored, points_split}
use Rattle.payload.proofs.mesh.tables.fill_points.Goals as goal

pub fill_run-requires-clause-count_in_bounds : goal.fill_run-requires-clause-count_in_bounds
fill_run-requires-clause-count_in_bounds c = omega (arith, c.loop-submesh.invariant.room, points_split c.in-Some.ensures.steps)

pub loop-submesh-preserved : goal.loop-submesh-preserved
loop-submesh-preserved c =
    let u = c.fill_run in
    let l = c.loop-submesh in
    let T = c.in-Some.ensures.steps in
    record {
      body = T.body ∙ l.invariant.body;
      same = l.invariant.same ∙ points_stored T l.out _ l.at (rw l.invariant.body u.ensures.points);
      room = omega (arith, u.auto.out, l.invariant.room, points_split T);
      long = u.auto.out ∙ l.invariant.long;
    }

pub returns : goal.returns
returns c =
    let l = c.loop-submesh in record { points = sym (l.invariant.same ∙ ap (sets l.out l.at) (points_none _ c.in-None.ensures.steps)) }
