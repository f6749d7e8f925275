-- `number` meets its contract, variant by variant. Assumes nothing.
use Rattle.std.proofs.Common.{sym, ap, ◌∙◌, arith}
use Rattle.bits.specs.Verdict.{declined}
use Rattle.payload.specs.Count.{counted_says}
use Rattle.viewer.proofs.NumberLaws.{number_declined, number_large, number_count}
use Rattle.viewer.proofs.number.Goals as goal

pub returns-in-Ok : goal.returns-in-Ok
returns-in-Ok c = number_count (counted_says c.args.answer) _ (ap counted_says c.in-Ok.is) (omega arith)

pub returns-in-Ok-2 : goal.returns-in-Ok-2
returns-in-Ok-2 c = number_large (counted_says c.args.answer) c.in-Ok.n (ap counted_says c.in-Ok.is) (omega arith)

pub returns-in-Err : goal.returns-in-Err
returns-in-Err c =
    number_declined (counted_says c.args.answer) _ (omega arith)
    (ap counted_says c.in-Err.is ∙ ap declined (sym c.number.ensures))
