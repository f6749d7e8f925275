-- `is_unusable` meets its contract. Assumes nothing.
use Rattle.payload.proofs.FloatTests.{finite_is}
use Rattle.payload.proofs.view.is_unusable.Goals as goal

pub returns-then-not-is_finite : goal.returns-then-not-is_finite
returns-then-not-is_finite c = rw (← finite_is c.args.x, ← c.is_finite.ensures.value, c.if-not-is_finite.true)

pub returns-else-not-is_finite : goal.returns-else-not-is_finite
returns-else-not-is_finite c = rw (← finite_is c.args.x, ← c.is_finite.ensures.value, c.if-not-is_finite.false)
