-- `check_inside` meets its contract: the first field of an odd number of them, and then pairs. Assumes nothing.
use Rattle.std.proofs.Common.{◌≡◌, ℕ, ◌+◌, ◌-◌, ◌*◌, ◌%◌, List, [], sym, ap, ◌∙◌, arith}
use Rattle.bits.specs.Number.{stepped_to}
use Rattle.bits.specs.Internal.{Inside}
use Rattle.bits.proofs.JudgedLaws.{group_inside, field_out, field_on}
use Rattle.bits.proofs.fields.runs.check_inside.Goals as goal

-- the first of an odd number of fields, and those after it, lie inside
first-inside : {s : List ℕ} (n w p : ℕ) → (n % 2 ≡ 0 → ⊥) → Inside s p (n * w) → Inside s p w × Inside s (p + w) ((n - 1) * w)
first-inside n w p o h =
    let g = group_inside 1 n w p (omega arith) h in
    let z : 1 * w ≡ w = omega arith in
    rw z at g

pub check_pairs-requires : goal.check_pairs-requires
check_pairs-requires c = record { inside = c.requires.inside; width_bound = (c.requires.width_bound, c.if-run-eq0.true) }

pub returns-then-run-eq0 : goal.returns-then-run-eq0
returns-then-run-eq0 c = record { answer = c.check_pairs.ensures.answer }

pub one_inside-requires : goal.one_inside-requires
one_inside-requires c = record { inside = (first-inside c.args.run.count c.args.width c.args.run.bit c.if-run-eq0.false c.requires.inside).0; width_bound = omega (arith, c.requires.width_bound) }

pub returns-then-run-first : goal.returns-then-run-first
returns-then-run-first c =
    let a = c.args in
    let h = (first-inside a.run.count a.width a.run.bit c.if-run-eq0.false c.requires.inside).0 in record {
      answer = sym
          (field_out a.s.now a.width a.run.limit a.run.count a.run.bit 0 [] c.stepped-first.result (omega (arith, c.if-run-eq0.false)) h.whole
          (c.stepped-first.ensures ∙ ap (stepped_to 0) c.one_inside.ensures) c.if-run-first.true);
    }

pub check_pairs-requires-2 : goal.check_pairs-requires-2
check_pairs-requires-2 c =
    let a = c.args in record { inside = (first-inside a.run.count a.width a.run.bit c.if-run-eq0.false c.requires.inside).1; width_bound = (c.requires.width_bound, omega (arith, c.if-run-eq0.false)) }

pub returns : goal.returns
returns c =
    let a = c.args in
    let h = (first-inside a.run.count a.width a.run.bit c.if-run-eq0.false c.requires.inside).0 in record {
      answer = c.check_pairs-2.ensures.answer
          ∙ sym
          (field_on a.s.now a.width a.run.limit (omega (arith, c.requires.width_bound)) (omega arith) a.run.count a.run.bit 0 [] c.stepped-first.result (omega (arith, c.if-run-eq0.false)) h.whole
          (c.stepped-first.ensures ∙ ap (stepped_to 0) c.one_inside.ensures) c.if-run-first.false);
    }
