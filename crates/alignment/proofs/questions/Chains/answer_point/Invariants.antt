-- `answer_point` meets its contract. The invariant: the chain is followed up to a place, and of the questions from
-- there on all are answered, and the least after the point is known. Assumes nothing.
use Prim.Native.Nat.{◌/◌}
use Rattle.alignment.specs.Internal.{Filled}
use Rattle.alignment.proofs.ChainLaws.{On}
use Rattle.alignment.proofs.ChainLaws.{Least}
use Rattle.alignment.proofs.questions.Chains.answer_point.Given as goal

abbrev pub invariant-loop-place : goal.invariant-loop-place
invariant-loop-place l =
    On l.self.asked.now l.self.width (l.point / l.self.width) l.place
    × Filled l.self.asked.now l.place l.point l.vertex l.initial.out l.out
    × Least l.self.asked.now l.self.width l.point l.place l.next

abbrev pub decreases-loop-place : goal.decreases-loop-place
decreases-loop-place l = l.place
