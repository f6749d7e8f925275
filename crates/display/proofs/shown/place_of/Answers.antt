-- `place_of` meets its contract: the first index that passes, or the length. Assumes nothing.
use mathlib.Core.Path.{◌≡◌, sym, ◌∙◌}
use Rattle.std.proofs.Common.{rules, tests}
use Rattle.std.proofs.lemmas.Iterator.{YieldsList-from_slice, IsFirst-from_position}
use Rattle.display.proofs.ShownListLaws.{place_first}
use Rattle.display.proofs.shown.place_of.Goals as goal

pub returns : goal.returns
returns c =
    let a = c.args in
    c.unwrap_or.ensures
    ∙ sym (place_first a.number a.list.now _
    (IsFirst-from_position _ _ _ (λ m. m ≡ a.number) (λ m. m ≡ a.number → ⊥) c.position.ensures.ran
    (YieldsList-from_slice a.list.now (cc)) (λ x q k. search (rules, tests)) (λ x q k. search (rules, tests))))
