-- The value so far with the digits that are left is the whole.
use Rattle.std.proofs.Common.{◌≡◌, drop}
use Rattle.replay.specs.Text.{hex_from}
use Rattle.replay.proofs.text.hex_number.Given as goal

abbrev pub invariant-loop-b : goal.invariant-loop-b
invariant-loop-b l = hex_from l.v (drop l.b-index l.s) ≡ hex_from 0 l.s
