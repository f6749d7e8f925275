-- `deal` meets its contract: what is still to be put makes the buffer what it is to be. Assumes nothing.
use mathlib.Core.Path.{◌≡◌}
use Prim.Native.Nat.{◌≤◌}
use lib.Seq.{sets}
use Rattle.display.proofs.LevelLaws.{rest}
use Rattle.display.proofs.shares.deal.Given as goal

abbrev pub invariant-loop-i : goal.invariant-loop-i
invariant-loop-i l =
    (l.left ≤ l.points)
    × (sets l.shares l.i (rest l.height l.left l.wishes l.i) ≡ sets l.initial.shares 0 (rest l.height l.points l.wishes 0))
