-- `lowest` meets its contract: the lowest so far, and what is left. Assumes nothing.
use native.Mathlib.Omega.{arith}
use Rattle.display.proofs.LevelLaws.{lowest_first, lowest_past, lowest_end, lowest_most}
use Rattle.display.proofs.shares.lowest.Goals as goal
use Rattle.display.proofs.shares.lowest.Goals.{then-level-wish, else-level-wish}

pub loop-wish-init : goal.loop-wish-init
loop-wish-init c = (omega arith, omega (arith, lowest_most c.args.level c.args.wishes.now))

pub loop-wish-preserved : goal.loop-wish-preserved
loop-wish-preserved c =
    let a = c.args in
    let l = c.loop-wish in
    elim c.if-level-wish.branch [
      | then-level-wish w ↦ (omega arith, omega (arith, lowest_first a.level a.wishes.now l.wish-index (omega arith) (omega arith)))
      | else-level-wish w ↦ (omega arith, omega (arith, lowest_past a.level a.wishes.now l.wish-index (omega arith) (omega arith)))
    ]

pub returns : goal.returns
returns c =
    let a = c.args in
    let l = c.loop-wish in
    omega (arith, lowest_end a.level a.wishes.now l.wish-index (omega arith))
