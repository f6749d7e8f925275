-- `check_fives` meets its contract: the fields are all there, or they are taken one by one. Assumes nothing.
use Rattle.std.proofs.Common.{◌*◌, sym, ◌∙◌, arith}
use Rattle.bits.specs.Number.{width_of}
use Rattle.bits.specs.Run.{zeros}
use Rattle.bits.proofs.ThereLaws.{there_inside}
use Rattle.bits.proofs.JudgedLaws.{run_too_long, run_said, width_most}
use Rattle.bits.proofs.fields.runs.check_fives.Goals as goal

pub returns-then-s-gt67108864 : goal.returns-then-s-gt67108864
returns-then-s-gt67108864 c = let a = c.args in record { answer = run_too_long a.s.now (width_of a.run.limit) a.run.limit (5 * a.run.count) a.run.bit (zeros 5) c.if-s-gt67108864.true }

pub check_all_fives-requires : goal.check_all_fives-requires
check_all_fives-requires c =
    let a = c.args in
    let t = there_inside a.s.now a.run.bit c.bit_width-width.result (5 * a.run.count) (sym c.run_there.ensures ∙ c.if-run_there.true) in record { inside = t.0; width_bound = t.2 }

pub returns-then-run_there : goal.returns-then-run_there
returns-then-run_there c =
    let a = c.args in record { answer = run_said a.s.now (width_of a.run.limit) a.run.limit (5 * a.run.count) a.run.bit (zeros 5) (omega arith) _ _ c.bit_width-width.ensures c.check_all_fives.ensures.answer }

pub check_turns-requires : goal.check_turns-requires
check_turns-requires c =
    let a = c.args in
    let w = width_most a.run.limit (omega arith) in
    (omega arith, omega (arith, c.bit_width-width.ensures))

pub returns : goal.returns
returns c =
    let a = c.args in record { answer = run_said a.s.now (width_of a.run.limit) a.run.limit (5 * a.run.count) a.run.bit (zeros 5) (omega arith) _ _ c.bit_width-width.ensures c.check_turns.ensures.answer }
