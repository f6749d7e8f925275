-- `next_number` meets its contract: the number stays below the limit, as is required. Assumes nothing.
use Rattle.std.proofs.Common.{sym, arith}
use Rattle.bits.proofs.NumberLaws.{ran_moves}
use Rattle.payload.proofs.StepLaws.{not-read}
use Rattle.alignment.proofs.walk.next_number.Goals as goal

pub overflow_cast-result : goal.overflow_cast-result
overflow_cast-result c =
    let a = c.args in
    record { fits = omega (arith, (ran_moves a.last a.field a.limit _ (sym c.in-Ok.ensures)).1) }

pub returns-in-Err : goal.returns-in-Err
returns-in-Err c = absurd (not-read _ _ (sym c.in-Err.ensures) c.requires)
