-- `measure_list` meets its contract. The invariant: the answer from here on, with what is counted, is the whole answer, and what is counted fits the bytes before. Assumes nothing.
use Rattle.std.proofs.Common.{sym, refl, ap, ◌∙◌, arith}
use Rattle.bits.specs.Verdict.{declined, mapped}
use Rattle.bits.proofs.SaysLaws.{passed}
use Rattle.payload.specs.Internal.{totals_of}
use Rattle.payload.proofs.BoxReadLaws.{more_end, more_declined, header_value}
use Rattle.payload.proofs.MeasureLaws.{more_after, room_on, measure_refused, measure_declined, measure_on, measure_room}
use Rattle.payload.proofs.mesh.measure.measure_list.Goals as goal

pub loop-fourcc-init : goal.loop-fourcc-init
loop-fourcc-init c = (refl, record { few = omega arith; bits = omega arith })

pub returns-in-ListEnd : goal.returns-in-ListEnd
returns-in-ListEnd c =
    let l = c.loop-fourcc in
    sym (l.invariant.0 ∙ ap (mapped (totals_of l.t)) (more_end c.args.s.now (more_after l.t) l.at (sym c.in-ListEnd.ensures)))

pub returns-in-BadSize : goal.returns-in-BadSize
returns-in-BadSize c =
    let l = c.loop-fourcc in
    sym (l.invariant.0 ∙ ap (mapped (totals_of l.t)) (more_declined c.args.s.now (more_after l.t) l.at 6 (sym c.in-BadSize.ensures)))

pub add_box-requires : goal.add_box-requires
add_box-requires c =
    let found = sym c.in-Header.ensures in
    let l = c.loop-fourcc in
    let h = header_value c.args.s.now l.at _ _ _ found in
    (omega arith, omega (arith, h.0.least, h.2, h.3), omega (arith, h.0.most, h.3), room_on l.t l.at _ (omega (arith, h.2)) l.invariant.1)

pub returns-in_err-t-in-Header : goal.returns-in_err-t-in-Header
returns-in_err-t-in-Header c =
    let found = sym c.in-Header.ensures in
    let l = c.loop-fourcc in
    passed _ _ _ c.from_residual.ensures.1
    ∙ sym (l.invariant.0 ∙ measure_declined c.args.s.now l.at _ _ _ l.t found _ c.in_err-t-in-Header.ensures)

pub loop-fourcc-smaller : goal.loop-fourcc-smaller
loop-fourcc-smaller c =
    let found = sym c.in-Header.ensures in
    let h = header_value c.args.s.now c.loop-fourcc.at _ _ _ found in
    omega (arith, h.0.least, h.0.most, h.3)

pub loop-fourcc-preserved : goal.loop-fourcc-preserved
loop-fourcc-preserved c =
    let found = sym c.in-Header.ensures in
    let s = c.args.s.now in
    let l = c.loop-fourcc in
    let e = c.in_ok-t-in-Header.ensures in
    (l.invariant.0 ∙ measure_on s l.at _ _ _ l.t found _ e, measure_room s l.at _ _ _ l.t found _ e l.invariant.1)

pub returns-in-Refused : goal.returns-in-Refused
returns-in-Refused c =
    let l = c.loop-fourcc in
    ap declined c.refused_box.ensures
    ∙ sym (l.invariant.0
    ∙ measure_refused c.args.s.now l.at _ _ l.t
    (sym c.in-Refused.ensures))
