-- `sum_fields` meets its contract, field by field. Assumes nothing.
use Rattle.std.proofs.Common.{ℕ, ◌+◌, ◌-◌, ◌%◌, ◌^◌, sym, ap, ◌∙◌, arith}
use Rattle.bits.specs.Verdict.{mapped}
use Rattle.bits.proofs.SaysLaws.{passed}
use Rattle.bits.proofs.VerdictLaws.{width_yes, width_no}
use Rattle.capi.specs.Answer.{one}
use Rattle.capi.specs.Total.{wrapped}
use Rattle.capi.proofs.Totals.{total, total_on, total_refused, total_done}
use Rattle.capi.proofs.fields.sum_fields.Goals as goal

pub returns-then-width-gt32 : goal.returns-then-width-gt32
returns-then-width-gt32 c = ap (mapped wrapped) (sym (width_no _ _ c.if-width-gt32.true))

pub returns-in_err-value : goal.returns-in_err-value
returns-in_err-value c =
    let s = c.args.s.now in
    let w = c.args.width in
    let l = c.loop in
    let left = c.args.count - l.counter in
    let e = l.invariant ∙ total_refused s w left l.here.bit l.sum (omega arith) _ (sym c.in_err-value.ensures) in
    passed one _ _ c.from_residual.ensures.1 ∙ sym e ∙ ap (mapped wrapped) (sym (width_yes _ _ c.if-width-gt32.false))

pub loop-preserved : goal.loop-preserved
loop-preserved c =
    let s = c.args.s.now in
    let w = c.args.width in
    let l = c.loop in
    let left = c.args.count - l.counter in
    let v = c.in_ok-value in
    l.invariant
    ∙ total_on s w left l.here.bit l.sum (omega arith) v.value v.next.bit (sym v.ensures)
    ∙ ap (λ (n : ℕ). total s w n v.next.bit ((l.sum + v.value) % 2 ^ 64)) (omega arith)

pub returns : goal.returns
returns c =
    let l = c.loop in
    let left = c.args.count - l.counter in
    let e = l.invariant
    ∙ total_done c.args.s.now c.args.width left l.here.bit l.sum l.auto.sum-fits.fits (omega arith) in
    sym e ∙ ap (mapped wrapped) (sym (width_yes _ _ c.if-width-gt32.false))
