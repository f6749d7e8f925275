-- `all_in_range` meets its contract: a fold over the numbers. Assumes nothing.
use Rattle.std.proofs.Common.{◌&&◌, ltb, true, ◌∙◌, rules}
use Rattle.std.proofs.lemmas.Iterator.{YieldsList-from_slice}
use Rattle.std.proofs.lemmas.Iterator.Consumers.{fold_from_yields_List}
use borrow.Author.Tests.{tests}
use Rattle.payload.proofs.JudgeLaws.{all_folded}
use Rattle.display.proofs.shares.all_in_range.Goals as goal

pub returns : goal.returns
returns c =
    let a = c.args in
    fold_from_yields_List _ (λ b x. b && ltb x 1000000) true _ c.fold.ensures.ran (YieldsList-from_slice a.numbers.now cc)
    (λ b x r q k. search (rules, tests))
    ∙ all_folded (λ x. ltb x 1000000) a.numbers.now
