-- `Patch::new` meets its contract. Assumes nothing.
use Rattle.std.proofs.Common.{sym, ◌∙◌}
use Rattle.bits.proofs.SaysLaws.{passed}
use Rattle.payload.proofs.SphereLaws.{numbers_no, numbers_crop, numbers_yes}
use Rattle.payload.proofs.grid.Patch.new.Goals as goal

pub returns-in_err-grid-clause-numbers : goal.returns-in_err-grid-clause-numbers
returns-in_err-grid-clause-numbers c =
    let a = c.args in
    passed _ _ _ c.from_residual.ensures.1 ∙ numbers_no a.rings a.sectors a.bounds _ c.in_err-grid.ensures

pub returns-then-not-is_usable-clause-numbers : goal.returns-then-not-is_usable-clause-numbers
returns-then-not-is_usable-clause-numbers c =
    let a = c.args in
    let g = c.in_ok-grid in
    let h = sym c.is_usable.ensures ∙ c.if-not-is_usable.true in
    numbers_crop a.rings a.sectors a.bounds _ _ g.ensures g.grid.usable h

pub returns-clause-numbers : goal.returns-clause-numbers
returns-clause-numbers c =
    let a = c.args in
    let g = c.in_ok-grid in
    let h = sym c.is_usable.ensures ∙ c.if-not-is_usable.false in
    numbers_yes a.rings a.sectors a.bounds _ _ g.ensures g.grid.usable h
