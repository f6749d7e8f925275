-- `hide` meets its contract: a test that fails decides, and else the rest has closed up. Assumes nothing.
use native.Mathlib.Omega.{arith}
use Rattle.display.specs.ShownRules.{hiding}
use Rattle.display.proofs.ShownCallLaws.{known, refused_call}
use Rattle.display.proofs.ShownCallLaws.{hide_unusable, not_shown, hide_total, hide_done}
use Rattle.display.proofs.shown.hide.Goals as goal

pub returns-in-Err : goal.returns-in-Err
returns-in-Err c =
    let a = c.args in
    refused_call a.records.now a.shown (hiding a.number) _ _ c.refuse.ensures
    (hide_unusable a.records.now a.shown a.number _ c.in-Err.ensures)

pub returns-then-count-place : goal.returns-then-count-place
returns-then-count-place c =
    let a = c.args in
    refused_call a.records.now a.shown (hiding a.number) _ _ c.refuse-then-count-place.ensures
    (not_shown a.records.now a.shown a.number c.in-Ok.ensures (omega arith) (omega arith))

pub close_up-requires : goal.close_up-requires
close_up-requires c =
    let a = c.args in
    (omega arith, (known a.records.now a.shown a.number _ c.in-Ok.ensures).usable.few, omega arith)

pub points_of-requires : goal.points_of-requires
points_of-requires c = let a = c.args in (known a.records.now a.shown a.number _ c.in-Ok.ensures).there

pub overflow_sub-left : goal.overflow_sub-left
overflow_sub-left c =
    let a = c.args in
    omega (arith, hide_total a.records.now a.shown a.number c.in-Ok.ensures (omega arith) (omega arith))

pub returns : goal.returns
returns c =
    let a = c.args in
    hide_done a.records.now a.shown a.number c.in-Ok.ensures (omega arith) (omega arith) _ c.close_up.ensures
    _ (omega arith)
