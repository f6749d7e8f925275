-- `fill` meets its contract: with what is left put too, all triangles are put. Assumes nothing.
use native.Mathlib.Omega.{arith}
use Rattle.display.proofs.PutLaws.{putting_points, putting_room, putting_on, putting_end}
use Rattle.display.proofs.triangulation.fill.Goals as goal

pub put_record-to-requires : goal.put_record-to-requires
put_record-to-requires c =
    let p = c.loop-number.invariant in
    let r = c.record_at in
    (putting_points p (omega arith) r.result r.ensures, putting_room p (omega arith) r.result r.ensures c.requires.1)

pub loop-number-preserved : goal.loop-number-preserved
loop-number-preserved c =
    let r = c.record_at in
    let e = c.put_record-to.ensures in
    putting_on c.loop-number.invariant (omega arith) r.result r.ensures _ _ e.place e.numbers _ (omega arith)

pub returns : goal.returns
returns c = putting_end c.loop-number.invariant (omega arith)
