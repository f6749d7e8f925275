-- `joined_of` meets its contract. Assumes nothing.
use Rattle.std.proofs.Common.{◌≡◌, ℕ, ◌+◌, ◌-◌, ◌*◌, ◌/◌, ◌%◌, ◌^◌, ◌<◌, ◌≤◌, ap, ◌∙◌, subst, ap₂, lt_of_lt_of_le, mod-lt, arith, pow_pos, pow_mono, shl_exact, shr_lt}
use Rattle.bits.proofs.FieldLaws.{one_shifted}
use Rattle.bits.proofs.PutLaws.{cat_lt}
use Rattle.bits.proofs.put.joined_of.Goals as goal

module _ (f o w v : ℕ) (byte : f < 256) (off : o < 8) (width : w ≤ 32) where
  kept-lt : f / 2 ^ (8 - o) < 2 ^ o
  kept-lt = let e : 8 ≡ o + (8 - o) = omega arith in shr_lt o (8 - o) (subst (λ (k : ℕ). f < 2 ^ k) e byte)

  -- the bits kept and the low bits of the value, as the program joins them
  both : f / 2 ^ (8 - o) * 2 ^ w % 2 ^ 64 + v % (1 * 2 ^ w % 2 ^ 64) ≡ f / 2 ^ (8 - o) * 2 ^ w + v % 2 ^ w
  both = ap₂ (λ (x y : ℕ). x + v % y) (shl_exact o w 64 kept-lt (omega arith)) (one_shifted w width)

  both-lt : f / 2 ^ (8 - o) * 2 ^ w + v % 2 ^ w < 2 ^ (o + w)
  both-lt = cat_lt o w kept-lt (mod-lt v (pow_pos w))

  shifted : (k : ℕ) → k ≡ (o + w + 7) / 8 * 8 - o - w → (f / 2 ^ (8 - o) * 2 ^ w % 2 ^ 64 + v % (1 * 2 ^ w % 2 ^ 64)) * 2 ^ k % 2 ^ 64 ≡ (f / 2 ^ (8 - o) * 2 ^ w + v % 2 ^ w) * 2 ^ k
  shifted k e = ap (λ (x : ℕ). x * 2 ^ k % 2 ^ 64) both ∙ shl_exact (o + w) k 64 both-lt (omega arith)

pub nonzero_rem-low : goal.nonzero_rem-low
nonzero_rem-low c = rw (one_shifted c.args.width (omega arith)) (pow_pos c.args.width)

pub overflow_add-result : goal.overflow_add-result
overflow_add-result c =
    let a = c.args in
    let b = both a.first a.off a.width a.value (omega arith) (omega arith) (omega arith) in
    record { fits = rw b (lt_of_lt_of_le (both-lt a.first a.off a.width a.value (omega arith) (omega arith) (omega arith)) (pow_mono {j = 64} (omega arith))) }

pub returns : goal.returns
returns c =
    let a = c.args in
    let r : (a.off + a.width + 7) / 8 * 8 - a.off - a.width ≡ 8 * ((a.off + a.width + 7) / 8) - a.off - a.width = omega arith in
    shifted a.first a.off a.width a.value (omega arith) (omega arith) (omega arith) ((a.off + a.width + 7) / 8 * 8 - a.off - a.width) (omega arith)
    ∙ ap (λ (k : ℕ). (a.first / 2 ^ (8 - a.off) * 2 ^ a.width + a.value % 2 ^ a.width) * 2 ^ k) r
