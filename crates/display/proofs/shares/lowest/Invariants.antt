-- `lowest` meets its contract: the lowest so far, and what is left. Assumes nothing.
use mathlib.Core.Path.{◌≡◌}
use Prim.Native.Nat.{min, ◌≤◌}
use lib.ListN.{drop}
use Rattle.display.specs.InternalLevels.{lowest_above}
use Rattle.display.proofs.shares.lowest.Given as goal

abbrev pub invariant-loop-wish : goal.invariant-loop-wish
invariant-loop-wish l =
    (l.low ≤ 1000000)
    × (lowest_above l.level l.wishes ≡ min l.low (lowest_above l.level (drop l.wish-index l.wishes)))
