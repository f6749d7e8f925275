-- `all_finite` meets its contract: a fold over the words. Assumes nothing.
use Rattle.std.proofs.Common.{◌&&◌, true, ◌∙◌, rules}
use Rattle.std.proofs.lemmas.Iterator.{YieldsList-from_slice}
use Rattle.std.proofs.lemmas.Iterator.Consumers.{fold_from_yields_List}
use Rattle.payload.specs.Float.{finite_word}
use Rattle.payload.proofs.JudgeLaws.{all_folded}
use Rattle.payload.proofs.mesh.judge.all_finite.Goals as goal

pub returns : goal.returns
returns c =
    let a = c.args in
    fold_from_yields_List _ (λ b x. b && finite_word x) true _ c.fold.ensures.ran
    (YieldsList-from_slice a.words.now cc) (λ b x r q k. search rules)
    ∙ all_folded finite_word a.words.now
