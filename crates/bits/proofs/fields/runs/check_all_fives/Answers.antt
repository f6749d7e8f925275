-- `check_all_fives` meets its contract. The invariant: the answer from here on is the whole answer. Assumes nothing.
use Rattle.std.proofs.Common.{◌≡◌, ◌+◌, ◌-◌, ◌*◌, sym, ◌∙◌, arith}
use Rattle.bits.specs.Internal.{five}
use Rattle.bits.proofs.RunLaws.{five-to}
use Rattle.bits.proofs.JudgedLaws.{next_group, field_none, five_on, five_out}
use Rattle.bits.proofs.fields.runs.check_all_fives.Goals as goal

pub returns-then-not-all_below : goal.returns-then-not-all_below
returns-then-not-all_below c =
    let a = c.args in
    let l = c.loop in
    let g = next_group 5 (5 * a.run.count) l.counter a.width l.bit (omega arith) l.invariant.inside in record {
      answer = sym
          (l.invariant.same
          ∙ five_out a.s.now a.width a.run.limit _ l.bit l.v _ (omega arith) (omega arith) (omega arith) g.0.whole
          (five-to c.five_inside.ensures c.move_five-next.ensures) (sym c.all_below.ensures ∙ c.if-not-all_below.true));
    }

pub loop-preserved : goal.loop-preserved
loop-preserved c =
    let a = c.args in
    let l = c.loop in
    let g = next_group 5 (5 * a.run.count) l.counter a.width l.bit (omega arith) l.invariant.inside in
    let z : 5 * a.run.count - 5 * l.counter - 5 ≡ 5 * a.run.count - 5 * (l.counter + 1) = omega arith in record {
      same =
          l.invariant.same
          ∙ five_on a.s.now a.width a.run.limit _ l.bit l.v _ (omega arith) (omega arith) (omega arith) g.0.whole
          (five-to c.five_inside.ensures c.move_five-next.ensures) (sym c.all_below.ensures ∙ c.if-not-all_below.false)
          ∙ rw (z, c.low_five-v.ensures);
      inside = g.1;
    }

pub returns : goal.returns
returns c =
    let a = c.args in
    let l = c.loop in
    record { answer = sym (l.invariant.same ∙ field_none a.s.now a.width a.run.limit _ l.bit (five l.v) (omega arith)) }
