-- `run_on` meets its contract. Assumes nothing.
use Rattle.std.proofs.Common.{sym, ap, ◌∙◌, arith}
use Rattle.bits.specs.Verdict.{accepted}
use Rattle.bits.proofs.NumberLaws.{stepped_in, stepped_out}
use Rattle.bits.proofs.numbers.run_on.Goals as goal

pub returns-then-limit-next : goal.returns-then-limit-next
returns-then-limit-next c =
    let a = c.args in
    let e = c.stepped-next.ensures in
    sym (stepped_out a.last a.field a.limit (omega arith))

pub returns : goal.returns
returns c =
    let a = c.args in
    let e = c.stepped-next.ensures in
    ap accepted e ∙ sym (stepped_in a.last a.field a.limit (omega arith) (omega arith) (omega arith))
