-- `first_bytes` meets its contract: x is the field of the first i bytes. Assumes nothing.
use Rattle.std.proofs.Common.{◌≡◌, ◌*◌, ◌^◌, ◌<◌}
use Rattle.bits.specs.Field.{field, whole_bytes}
use Rattle.bits.proofs.fields.first_bytes.Given as goal

abbrev pub invariant-loop-i : goal.invariant-loop-i
invariant-loop-i l = (l.x ≡ field l.s 0 (8 * l.i)) × (l.x < 2 ^ 40) × (l.x ≡ whole_bytes l.s 0 l.i)
