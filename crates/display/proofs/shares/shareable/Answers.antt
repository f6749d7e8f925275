-- `shareable` meets its contract. Assumes nothing.
use native.Mathlib.Omega.{arith}
use Rattle.std.proofs.lemmas.Bool.Decides.{nat_tests}
use Rattle.display.specs.Turns.{shareable}
use Rattle.display.proofs.shares.shareable.Goals as goal

pub returns-then-points-lt1000000 : goal.returns-then-points-lt1000000
unfolding shareable
returns-then-points-lt1000000 c = grind (arith, nat_tests)

pub returns-else-points-lt1000000 : goal.returns-else-points-lt1000000
unfolding shareable
returns-else-points-lt1000000 c = grind (arith, nat_tests)
