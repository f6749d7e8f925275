-- `bit_width` meets its contract: the leading zeros of 2 * c - 1 leave the least width. Assumes nothing.
use Rattle.std.proofs.Common.{◌≡◌, ℕ, ◌-◌, ◌*◌, ◌^◌, ◌<◌, ◌≤◌, ◌∙◌, arith}
use lib.Count.{count_leading_zeros, leading_le, leading_length}
use Rattle.bits.specs.Number.{width_of}
use Rattle.bits.proofs.NumberLaws.{width_is, width_least}
use Rattle.bits.proofs.numbers.bit_width.Goals as goal

none : (c : ℕ) → c ≡ 0 → 0 ≡ width_of c
none c e = let h : width_of c ≤ 0 = width_least c 0 (omega arith) in omega arith

some : (c x : ℕ) → 0 < c → c < 2 ^ 32 → x ≡ 2 * c - 1 → 64 - count_leading_zeros 64 x ≡ width_of c
some c x pos h q =
    let s = leading_length 64 x (omega arith) in
    let e : 64 - count_leading_zeros 64 x ≡ s.0 = omega (arith, s.1) in
    e ∙ width_is c s.0 (omega (arith, s.2)) (omega (arith, s.3))

pub returns-then-count-eq0 : goal.returns-then-count-eq0
returns-then-count-eq0 c = none c.args.count c.if-count-eq0.true

pub overflow_sub-result-2 : goal.overflow_sub-result-2
overflow_sub-result-2 c = leading_le 64 _

pub returns : goal.returns
returns c = some c.args.count _ (omega arith) (omega arith) (omega arith)
