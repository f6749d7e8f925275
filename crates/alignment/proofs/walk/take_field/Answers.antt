-- `take_field` meets its contract: the field is there, and its number is below the limit, as is required. Assumes
-- nothing.
use Rattle.std.proofs.Common.{sym}
use Rattle.alignment.proofs.WalkLaws.{step_by, step_number, step_field}
use Rattle.alignment.proofs.walk.take_field.Goals as goal

pub next_number-requires : goal.next_number-requires
next_number-requires c =
    step_number c.args.s.now c.args.width c.args.limit c.args.v _ (sym c.in-Ok.ensures) c.requires.goes

pub returns-in-Ok : goal.returns-in-Ok
returns-in-Ok c =
    let a = c.args in
    sym (step_by a.s.now a.width a.limit a.v _ _ (sym c.in-Ok.ensures) (sym c.next_number.ensures))

pub returns-in-Err : goal.returns-in-Err
returns-in-Err c =
    absurd (step_field c.args.s.now c.args.width c.args.limit c.args.v _ c.in-Err.ensures c.requires.goes)
