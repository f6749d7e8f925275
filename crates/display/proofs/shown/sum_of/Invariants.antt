-- `sum_of` meets its contract: the sum so far, and what is left. Assumes nothing.
use mathlib.Core.Path.{◌≡◌}
use Prim.Native.Nat.{◌*◌, ◌≤◌}
use lib.ListN.{drop}
use Rattle.display.specs.InternalShown.{summed_from}
use Rattle.display.proofs.shown.sum_of.Given as goal

abbrev pub invariant-loop-i : goal.invariant-loop-i
invariant-loop-i l =
    (l.total ≤ l.i * 4294967296)
    × (summed_from l.records 0 l.list ≡ summed_from l.records l.total (drop l.i l.list))
