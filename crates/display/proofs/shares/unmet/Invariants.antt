-- `unmet` meets its contract: the count so far, and what is left. Assumes nothing.
use mathlib.Core.Path.{◌≡◌}
use Prim.Native.Nat.{◌+◌, ◌≤◌}
use lib.ListN.{drop}
use Rattle.display.specs.InternalLevels.{unmet_at}
use Rattle.display.proofs.shares.unmet.Given as goal

abbrev pub invariant-loop-wish : goal.invariant-loop-wish
invariant-loop-wish l =
    (l.count ≤ l.wish-index) × (unmet_at l.level l.wishes ≡ l.count + unmet_at l.level (drop l.wish-index l.wishes))
