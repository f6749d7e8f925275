-- `low_bits` meets its contract. Assumes nothing.
use Rattle.std.proofs.Common.{ℕ, ◌*◌, ◌%◌, ◌^◌, ◌<◌, ◌≤◌, ap, lt_of_lt_of_le, mod-lt, arith, pow_pos, pow_mono}
use Rattle.bits.proofs.FieldLaws.{one_shifted}
use Rattle.bits.proofs.fields.low_bits.Goals as goal

-- what is left of a number after the mask
masked-lt : (y w : ℕ) → w ≤ 32 → y % (1 * 2 ^ w % 2 ^ 64) < 2 ^ 32
masked-lt y w h = rw (one_shifted w h) (lt_of_lt_of_le (mod-lt y (pow_pos w)) (pow_mono h))

pub nonzero_rem-result : goal.nonzero_rem-result
nonzero_rem-result c = rw (one_shifted c.args.w (omega arith)) (pow_pos c.args.w)

pub overflow_cast-result-2 : goal.overflow_cast-result-2
overflow_cast-result-2 c = record { fits = masked-lt _ c.args.w (omega arith) }

pub returns : goal.returns
returns c = ap (λ (m : ℕ). c.args.x % m) (one_shifted c.args.w (omega arith))
