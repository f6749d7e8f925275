-- `chain_questions` meets its contract. The invariant: the first i questions are chained. Assumes nothing.
use native.Mathlib.Omega.{arith}
use Rattle.alignment.proofs.ChainLaws.{asked_low, chained_on}
use Rattle.alignment.proofs.questions.chain_questions.Goals as goal

pub bounds-lasts-stretch : goal.bounds-lasts-stretch
bounds-lasts-stretch c = asked_low c.requires.0 c.loop-i.i (omega arith)

pub bounds-lasts-stretch-in-loop-i : goal.bounds-lasts-stretch-in-loop-i
bounds-lasts-stretch-in-loop-i c = asked_low c.requires.0 c.loop-i.i (omega arith)

pub loop-i-preserved : goal.loop-i-preserved
loop-i-preserved c =
    chained_on c.loop-i.invariant (asked_low c.requires.0 c.loop-i.i (omega arith)) (omega (arith, c.requires.0.few))
