-- `put_each` meets its contract: i pieces are put. Assumes nothing.
use Rattle.std.proofs.Common.{ℕ, ◌+◌, ◌≤◌, List, length}
use Rattle.payload.specs.Fill.{each}
use Rattle.payload.specs.InternalFill.{Puts}
use Rattle.payload.proofs.FillLaws.{Placed}
use Rattle.payload.proofs.put_each.Given as goal

abbrev pub invariant-loop-i : goal.invariant-loop-i
invariant-loop-i g l =
    (f : ℕ → List _) → l.at + length (each f l.n) ≤ length l.initial.out → Puts (goal.F-post g) l.step f l.n
    → Placed f l.initial.out l.at l.out l.to l.i
