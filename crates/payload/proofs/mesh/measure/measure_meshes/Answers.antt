-- `measure_meshes` meets its contract: the totals of a list are its size. Assumes nothing.
use Rattle.std.proofs.Common.{sym, ◌∙◌, arith}
use Rattle.bits.proofs.SaysLaws.{passed}
use Rattle.bits.proofs.VerdictLaws.{limited_yes, limited_no}
use Rattle.payload.proofs.MeasureLaws.{measured_says_law, measured_room}
use Rattle.payload.proofs.mesh.measure.measure_meshes.Goals as goal

pub returns-then-payload-gt67108864 : goal.returns-then-payload-gt67108864
returns-then-payload-gt67108864 c = sym (limited_no c.args.payload.now _ c.if-payload-gt67108864.true)

pub returns-in_err-t : goal.returns-in_err-t
returns-in_err-t c =
    let s = c.args.payload.now in
    passed _ _ _ c.from_residual.ensures.1
    ∙ measured_says_law s _ c.in_err-t.ensures ∙ sym (limited_yes s _ (omega arith))

pub overflow_mul-result : goal.overflow_mul-result
overflow_mul-result c = omega (arith, measured_room c.args.payload.now _ c.in_ok-t.ensures)

pub overflow_mul-result-2 : goal.overflow_mul-result-2
overflow_mul-result-2 c = omega (arith, measured_room c.args.payload.now _ c.in_ok-t.ensures)

pub returns : goal.returns
returns c =
    let s = c.args.payload.now in
    measured_says_law s _ c.in_ok-t.ensures ∙ sym (limited_yes s _ (omega arith))
