-- `check_turns` meets its contract. The invariant: the answer from here on is the whole answer. Assumes nothing.
use Rattle.std.proofs.Common.{◌≡◌, ◌+◌, ◌-◌, not, nat_eq, sym, ap, ◌∙◌, arith}
use Rattle.bits.specs.Number.{stepped_to}
use Rattle.bits.specs.Internal.{others}
use Rattle.bits.proofs.JudgedLaws.{field_none, field_short, field_out, field_on}
use Rattle.bits.proofs.fields.runs.check_turns.Goals as goal

pub returns-then-end-bit : goal.returns-then-end-bit
returns-then-end-bit g c =
    let a = c.args in
    let l = c.loop in record {
      answer = sym (l.invariant ∙ field_short a.s.now a.width a.limit _ l.bit _ (omega arith) (omega arith));
    }

pub returns-then-end-bit-2 : goal.returns-then-end-bit-2
returns-then-end-bit-2 g c =
    let a = c.args in
    let l = c.loop in record {
      answer = sym (l.invariant ∙ field_short a.s.now a.width a.limit _ l.bit _ (omega arith) (omega arith));
    }

pub returns-then-limit-number : goal.returns-then-limit-number
returns-then-limit-number g c =
    let a = c.args in
    let l = c.loop in
    let k = c.stepped-number.ensures ∙ ap (stepped_to l.v.a) c.one_known.ensures in record {
      answer = sym
          (l.invariant
          ∙ field_out a.s.now a.width a.limit _ l.bit l.v.a _ c.stepped-number.result (omega arith) (omega arith) k
          c.if-limit-number.true);
    }

pub loop-preserved : goal.loop-preserved
loop-preserved g c =
    let a = c.args in
    let l = c.loop in
    let k = c.stepped-number.ensures ∙ ap (stepped_to l.v.a) c.one_known.ensures in
    let z : a.count - l.counter - 1 ≡ a.count - (l.counter + 1) = omega arith in
    rw (← z, c.turned-v.ensures)
    (l.invariant
    ∙ field_on a.s.now a.width a.limit c.requires.1 (omega arith) _ l.bit l.v.a (others (not (nat_eq g.row.ALONE 0)) l.v) c.stepped-number.result (omega arith) (omega arith) k c.if-limit-number.false)

pub returns : goal.returns
returns g c =
    let a = c.args in
    let l = c.loop in record {
      answer = sym (l.invariant ∙ field_none a.s.now a.width a.limit _ l.bit _ (omega arith));
    }
