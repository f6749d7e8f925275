-- `unmet` meets its contract: the count so far, and what is left. Assumes nothing.
use native.Mathlib.Omega.{arith}
use Rattle.display.proofs.LevelLaws.{unmet_first, unmet_end}
use Rattle.display.proofs.shares.unmet.Goals as goal
use Rattle.display.proofs.shares.unmet.Goals.{then-level-wish, else-level-wish}

pub loop-wish-init : goal.loop-wish-init
loop-wish-init c = (omega arith, omega arith)

pub loop-wish-preserved : goal.loop-wish-preserved
loop-wish-preserved c =
    let a = c.args in
    let l = c.loop-wish in
    elim c.if-level-wish.branch [
      | then-level-wish w ↦ (omega arith, omega (arith, unmet_first a.level a.wishes.now l.wish-index (omega arith)))
      | else-level-wish w ↦ (omega arith, omega (arith, unmet_first a.level a.wishes.now l.wish-index (omega arith)))
    ]

pub returns : goal.returns
returns c =
    let a = c.args in
    let l = c.loop-wish in
    omega (arith, unmet_end a.level a.wishes.now l.wish-index (omega arith))
