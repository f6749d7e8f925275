-- What the digits so far say of the whole.
use Rattle.std.proofs.Common.{◌∙◌, arith}
use Rattle.replay.proofs.TextLaws.{no_digits, digit_turn, no_digit, no_room, digits_end}
use Rattle.replay.proofs.text.hex_number.Goals as goal

pub returns-then-is_empty : goal.returns-then-is_empty
returns-then-is_empty c = no_digits c.args.s.now (grind arith)

pub returns-in_err-d : goal.returns-in_err-d
returns-in_err-d c =
    c.from_residual.ensures ∙ no_digit _ _ _ c.loop-b-test.true c.loop-b.invariant c.in_err-d.ensures.value

pub returns-in_err-v : goal.returns-in_err-v
returns-in_err-v c =
    c.from_residual-in_err-v.ensures
    ∙ no_room _ _ _ c.loop-b-test.true c.loop-b.invariant _ c.in_ok-d.ensures.value (omega arith)

pub overflow_add-v : goal.overflow_add-v
overflow_add-v c = omega (arith, c.in_ok-v.ensures, c.in_ok-d.ensures.bound)

pub loop-b-preserved : goal.loop-b-preserved
loop-b-preserved c =
    rw c.in_ok-v.ensures.1
    (digit_turn _ _ _ c.loop-b-test.true c.loop-b.invariant _ c.in_ok-d.ensures.value
    (omega (arith, c.in_ok-v.ensures)))

pub returns : goal.returns
returns c = digits_end _ _ _ (omega arith) (grind arith) c.loop-b.invariant
