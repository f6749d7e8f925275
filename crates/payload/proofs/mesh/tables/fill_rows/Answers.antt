-- `fill_rows` meets its contract: what is left of the rows goes to what is left of the buffer. Assumes nothing.
use Rattle.std.proofs.Common.{sym, ap, ◌∙◌, arith}
use lib.Seq.{sets}
use Rattle.payload.proofs.TableLaws.{rows_none, row_stored}
use Rattle.payload.proofs.mesh.tables.fill_rows.Goals as goal

pub loop-submesh-preserved : goal.loop-submesh-preserved
loop-submesh-preserved c =
    let l = c.loop-submesh in
    let T = c.in-Some.ensures.steps in
    let u = c.put_row in
    record {
      same = l.invariant.same ∙ row_stored T l.out _ l.at u.ensures;
      room = omega (arith, u.auto, T.left, l.invariant.room);
      long = u.auto.out ∙ l.invariant.long;
    }

pub returns : goal.returns
returns c =
    let l = c.loop-submesh in record { rows = sym (l.invariant.same ∙ ap (sets l.out l.at) (rows_none _ c.in-None.ensures.steps)) }
