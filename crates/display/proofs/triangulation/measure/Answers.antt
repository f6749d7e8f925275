-- `measure` meets its contract: what was judged and counted, with what is left. Assumes nothing.
use mathlib.Core.Path.{sym}
use native.Mathlib.Omega.{arith}
use Rattle.display.proofs.JudgeLaws.{judging_bad, judging_many, judging_on, judging_end, made_torn}
use Rattle.display.proofs.triangulation.measure.Goals as goal

pub returns-then-n-ne0 : goal.returns-then-n-ne0
returns-then-n-ne0 c = sym (rw (made_torn _ c.if-n-ne0.true))

pub returns-then-not-record_usable : goal.returns-then-not-record_usable
returns-then-not-record_usable c =
    judging_bad c.loop-number.invariant (omega arith) _ c.record_at-submesh.ensures (cc)

pub returns-then-points-submesh : goal.returns-then-points-submesh
returns-then-points-submesh c =
    judging_many c.loop-number.invariant (omega arith) _ c.record_at-submesh.ensures (omega arith)

pub loop-number-preserved : goal.loop-number-preserved
loop-number-preserved c =
    let r = c.record_at-submesh in
    rw c.triangle_count.ensures
    (judging_on c.loop-number.invariant (omega arith) r.result r.ensures (cc) (omega arith) _ (omega arith))

pub returns : goal.returns
returns c = judging_end c.loop-number.invariant (omega arith)
