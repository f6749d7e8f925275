-- `check_pairs` meets its contract. The invariant: the answer from here on is the whole answer. Assumes nothing.
use Rattle.std.proofs.Common.{◌≡◌, ◌+◌, ◌-◌, ◌*◌, [], ◌∷◌, sym, ap, ◌∙◌, arith}
use Rattle.bits.specs.Number.{stepped_to}
use Rattle.bits.proofs.JudgedLaws.{next_group, field_none, field_out, two_out, two_on}
use Rattle.bits.proofs.fields.runs.check_pairs.Goals as goal

pub returns-then-limit-a : goal.returns-then-limit-a
returns-then-limit-a c =
    let a = c.args in
    let l = c.loop in
    let g = next_group 2 a.run.count l.counter a.width l.bit (omega arith) l.invariant.inside in record {
      answer = sym
          (l.invariant.same
          ∙ field_out a.s.now a.width a.run.limit _ l.bit l.last [] c.stepped-a.result (omega arith) (omega (arith, g.0.whole))
          (c.stepped-a.ensures ∙ ap (stepped_to l.last) c.two_inside-f.ensures.0) c.if-limit-a.true);
    }

pub returns-then-limit-b : goal.returns-then-limit-b
returns-then-limit-b c =
    let a = c.args in
    let l = c.loop in
    let g = next_group 2 a.run.count l.counter a.width l.bit (omega arith) l.invariant.inside in
    let ea = c.stepped-a.ensures ∙ ap (stepped_to l.last) c.two_inside-f.ensures.0 in
    let eb = c.stepped-b.ensures ∙ ap (stepped_to c.stepped-a.result) c.two_inside-f.ensures.1 in record {
      answer = sym
          (l.invariant.same
          ∙ two_out a.s.now a.width a.run.limit _ l.bit l.last _ _ (omega arith) (omega arith) (omega arith) g.0.whole ea
          c.if-limit-a.false eb c.if-limit-b.true);
    }

pub loop-preserved : goal.loop-preserved
loop-preserved c =
    let a = c.args in
    let l = c.loop in
    let g = next_group 2 a.run.count l.counter a.width l.bit (omega arith) l.invariant.inside in
    let ea = c.stepped-a.ensures ∙ ap (stepped_to l.last) c.two_inside-f.ensures.0 in
    let eb = c.stepped-b.ensures ∙ ap (stepped_to c.stepped-a.result) c.two_inside-f.ensures.1 in
    let z : a.run.count - 2 * l.counter - 2 ≡ a.run.count - 2 * (l.counter + 1) = omega arith in record {
      same =
          l.invariant.same
          ∙ two_on a.s.now a.width a.run.limit _ l.bit l.last _ _ (omega arith) (omega arith) (omega arith) g.0.whole ea
          c.if-limit-a.false eb c.if-limit-b.false
          ∙ rw z;
      inside = g.1;
    }

pub returns : goal.returns
returns c =
    let a = c.args in
    let l = c.loop in
    record { answer = sym (l.invariant.same ∙ field_none a.s.now a.width a.run.limit _ l.bit (l.last ∷ []) (omega arith)) }
