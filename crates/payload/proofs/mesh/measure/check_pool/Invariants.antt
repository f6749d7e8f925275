-- `check_pool` meets its contract: each turn is a word more. Assumes nothing.
use Rattle.std.proofs.Common.{◌≡◌, ◌+◌, ◌-◌, ◌*◌}
use Rattle.payload.proofs.PoolLaws.{pool_from}
use Rattle.payload.proofs.mesh.measure.check_pool.Given as goal

-- what is left to be said
abbrev pub invariant-loop-i : goal.invariant-loop-i
invariant-loop-i l = pool_from l.s l.n 32 ≡ pool_from l.s (l.n - l.i) (32 * l.i + 32)
