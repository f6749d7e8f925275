-- `fill_records` meets its contract. The invariant: storing the records of the submeshes that are left gives the same as storing all at first. Assumes nothing.
use Rattle.std.proofs.Common.{sym, ap, ◌∙◌, arith}
use lib.Seq.{sets}
use Rattle.payload.proofs.TurnLaws.{taken_points}
use Rattle.payload.proofs.RecordLaws.{records-none, record_stored}
use Rattle.payload.proofs.mesh.records.fill_records.Goals as goal

pub loop-submesh-preserved : goal.loop-submesh-preserved
loop-submesh-preserved c =
    let l = c.loop-submesh in
    let T = c.in-Some.ensures.steps in
    let u = c.put_record in
    record {
      same = l.invariant.same ∙ record_stored T _ l.first l.records _ l.at u.ensures;
      points = l.invariant.points ∙ omega (arith, taken_points T);
      below = l.invariant.below;
      room = omega (arith, u.auto, l.invariant.room, T.left);
      long = u.auto.out ∙ l.invariant.long;
    }

pub returns-clause-records : goal.returns-clause-records
returns-clause-records c =
    let l = c.loop-submesh in sym (l.invariant.same ∙ ap (sets l.records l.at) (records-none _ l.first _ c.in-None.ensures.steps))
