-- `add_body` meets its contract: what is counted fits the bytes, so no sum wraps. Assumes nothing.
use Rattle.std.proofs.Common.{◌∙◌, arith}
use Rattle.bits.proofs.SaysLaws.{passed}
use Rattle.payload.proofs.MeasureLaws.{body_bits, body_added}
use Rattle.payload.proofs.mesh.measure.add_body.Goals as goal

pub returns-in_err-size : goal.returns-in_err-size
returns-in_err-size c =
    let a = c.args in
    passed _ _ _ c.from_residual.ensures.1 ∙ body_added a.s.now a.t _ c.in_err-size.ensures

pub returns : goal.returns
returns c = let a = c.args in body_added a.s.now a.t _ c.in_ok-size.ensures

pub overflow_add-result-4 : goal.overflow_add-result-4
overflow_add-result-4 c = omega (arith, body_bits c.args.s.now _ _ _ c.in_ok-size.ensures)
