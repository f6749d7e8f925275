-- The bytes so far with the pairs that are left are the whole.
use Rattle.std.proofs.Common.{◌≡◌, ◌*◌, ◌++◌, take, drop}
use Rattle.std.specs.Prelude.{option_map}
use Rattle.replay.specs.Text.{pairs_of}
use Rattle.replay.proofs.text.store.Given as goal

abbrev pub invariant-loop-i : goal.invariant-loop-i
invariant-loop-i l =
    option_map (λ bytes. take l.i l.out ++ bytes) (pairs_of (drop (2 * l.i) l.s)) ≡ pairs_of l.s
