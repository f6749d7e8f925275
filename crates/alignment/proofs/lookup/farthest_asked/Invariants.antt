-- `farthest_asked` meets its contract: the farthest so far, and what is left. Assumes nothing.
use mathlib.Core.Path.{◌≡◌}
use Prim.Native.Nat.{max}
use lib.ListN.{drop}
use Rattle.alignment.specs.LookUp.{farthest}
use Rattle.alignment.proofs.lookup.farthest_asked.Given as goal

abbrev pub invariant-loop-k : goal.invariant-loop-k
invariant-loop-k l = farthest l.asked ≡ max l.far (farthest (drop l.k-index l.asked))
