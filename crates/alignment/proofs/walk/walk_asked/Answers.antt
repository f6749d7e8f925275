-- `walk_asked` meets its contract: the chains are empty at first, and then all questions are in them. Assumes nothing.
use mathlib.Core.Path.{refl}
use Rattle.alignment.proofs.ChainLaws.{stretched, chained_none}
use Rattle.alignment.proofs.walk.walk_asked.Goals as goal

pub chain_questions-requires : goal.chain_questions-requires
chain_questions-requires c =
    let a = c.args in (
      stretched a.asked.now a.run.count c.requires.2 c.requires.1 c.requires.0.few,
      chained_none _ _ _ _ refl refl refl,
    )
