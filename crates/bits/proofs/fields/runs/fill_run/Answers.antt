-- `fill_run` meets its contract, where the run is there and where it is not. Assumes nothing.
use Rattle.std.proofs.Common.{[], ◌∷◌, length, sym, ◌∙◌}
use Rattle.bits.proofs.ThereLaws.{there_inside, filled_not, filled_yes}
use Rattle.bits.proofs.fields.runs.fill_run.Goals as goal

pub returns-then-not-run_there : goal.returns-then-not-run_there
returns-then-not-run_there c =
    let a = c.args in
    let e = sym c.run_there.ensures ∙ c.if-not-run_there.true in record { answer = sym e; numbers = filled_not a.s.now a.bit a.width (a.from ∷ []) a.out.now e }

pub fill_pairs-requires : goal.fill_pairs-requires
fill_pairs-requires c =
    let a = c.args in
    let t = there_inside a.s.now a.bit a.width (length a.out.now) (sym c.run_there.ensures ∙ c.if-not-run_there.false) in record { inside = t.0; le_width = (t.1, t.2) }

pub returns : goal.returns
returns c =
    let a = c.args in
    let e = sym c.run_there.ensures ∙ c.if-not-run_there.false in record { answer = sym e; numbers = c.fill_pairs.ensures.numbers ∙ filled_yes a.s.now a.bit a.width (a.from ∷ []) a.out.now e }
