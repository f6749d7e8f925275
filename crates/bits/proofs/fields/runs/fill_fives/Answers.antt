-- `fill_fives` meets its contract, where the run is there and where it is not. Assumes nothing.
use Rattle.std.proofs.Common.{length, sym, ◌∙◌}
use Rattle.bits.proofs.ThereLaws.{there_inside, fives_uneven, fives_not, fives_yes}
use Rattle.bits.proofs.fields.runs.fill_fives.Goals as goal

pub returns-then-out-ne0 : goal.returns-then-out-ne0
returns-then-out-ne0 c =
    let a = c.args in let r = fives_uneven a.s.now a.bit a.width a.out.now c.if-out-ne0.true in record { answer = r.0; numbers = r.1 }

pub returns-then-not-run_there : goal.returns-then-not-run_there
returns-then-not-run_there c =
    let a = c.args in let r = fives_not a.s.now a.bit a.width a.out.now c.if-out-ne0.false (sym c.run_there.ensures ∙ c.if-not-run_there.true) in record { answer = r.0; numbers = r.1 }

pub fill_all_fives-requires : goal.fill_all_fives-requires
fill_all_fives-requires c =
    let a = c.args in
    let t = there_inside a.s.now a.bit a.width (length a.out.now) (sym c.run_there.ensures ∙ c.if-not-run_there.false) in record { inside = t.0; le_width = (t.1, t.2, c.if-out-ne0.false) }

pub returns : goal.returns
returns c =
    let a = c.args in
    let t = fives_yes a.s.now a.bit a.width a.out.now c.if-out-ne0.false (sym c.run_there.ensures ∙ c.if-not-run_there.false) in record { answer = t.0; numbers = c.fill_all_fives.ensures.numbers ∙ t.1 }
