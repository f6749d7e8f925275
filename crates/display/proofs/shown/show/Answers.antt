-- `show` meets its contract: a test that fails decides, and else the number stands at the end. Assumes nothing.
use native.Mathlib.Omega.{arith}
use Rattle.display.specs.ShownRules.{showing}
use Rattle.display.specs.ShownKept.{shown_numbers}
use Rattle.display.proofs.NumberedRecordLaws.{points_small}
use Rattle.display.proofs.ShownListLaws.{points_most}
use Rattle.display.proofs.ShownCallLaws.{known, refused_call, counted}
use Rattle.display.proofs.ShownCallLaws.{show_unusable, shown_already, full, show_done}
use Rattle.display.proofs.shown.show.Goals as goal

pub returns-in-Err : goal.returns-in-Err
returns-in-Err c =
    let a = c.args in
    refused_call a.records.now a.shown (showing a.number) _ _ c.refuse.ensures
    (show_unusable a.records.now a.shown a.number _ c.in-Err.ensures)

pub returns-then-place-count : goal.returns-then-place-count
returns-then-place-count c =
    let a = c.args in
    refused_call a.records.now a.shown (showing a.number) _ _ c.refuse-then-place-count.ensures
    (shown_already a.records.now a.shown a.number c.in-Ok.ensures (omega arith) (omega arith))

pub returns-then-count-ge64 : goal.returns-then-count-ge64
returns-then-count-ge64 c =
    let a = c.args in
    refused_call a.records.now a.shown (showing a.number) _ _ c.refuse-then-count-ge64.ensures
    (full a.records.now a.shown a.number c.in-Ok.ensures (omega arith) (omega arith) (omega arith))

pub points_of-requires : goal.points_of-requires
points_of-requires c = let a = c.args in (known a.records.now a.shown a.number _ c.in-Ok.ensures).there

pub overflow_add-total : goal.overflow_add-total
overflow_add-total c =
    let a = c.args in
    let u = (known a.records.now a.shown a.number _ c.in-Ok.ensures).usable in
    let m = points_most a.records.now (points_small a.records.now (λ k. (c.type_inv.records k).fits)) (shown_numbers a.shown) in
    record { fits = omega (arith, u.few, u.total, m, counted a.records.now a.shown a.number c.in-Ok.ensures (omega arith)) }

pub returns : goal.returns
returns c =
    let a = c.args in
    show_done a.records.now a.shown a.number c.in-Ok.ensures (omega arith) (omega arith) (omega arith) _ (omega arith)
