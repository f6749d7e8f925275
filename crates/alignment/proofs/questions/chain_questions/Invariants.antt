-- `chain_questions` meets its contract. The invariant: the first i questions are chained. Assumes nothing.
use Rattle.alignment.specs.Internal.{ChainedTo}
use Rattle.alignment.proofs.questions.chain_questions.Given as goal

abbrev pub invariant-loop-i : goal.invariant-loop-i
invariant-loop-i l = ChainedTo l.asked l.width l.i l.lasts l.earlier
