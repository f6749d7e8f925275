-- `walk_chained` meets its contract: see proofs/GoingLaws.antt. Assumes nothing.
use mathlib.Core.Path.{◌≡◌}
use Rattle.alignment.proofs.GoingLaws.{Going}
use Rattle.alignment.proofs.walk.walk_chained.Given as goal

abbrev pub invariant-loop : goal.invariant-loop
invariant-loop l = (l.v.taken ≡ l.counter) × Going l.s l.run l.chains.asked.now l.initial.out l.out l.v l.next
