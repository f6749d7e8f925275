-- `zigzag` meets its contract. Assumes nothing.
use Rattle.std.proofs.Common.{◌≡◌, ℕ, zero, suc, ◌/◌, ◌^◌, ◌<◌, ℤ, pos, negsuc, ◌-ℤ◌, sym, refl, ap, ◌∙◌, subst, zero-add, arith, to_z-of_z, w32, to_z}
use lib.Signed.{mag}
use mir.Facts.{to_z_pos}
use Rattle.bits.proofs.NumberLaws.{meaning_even, meaning_odd}
use Rattle.bits.proofs.numbers.zigzag.Goals as goal

-- -1 - k is -(k + 1)
down : (k : ℕ) → negsuc 0 -ℤ pos k ≡ negsuc k
down zero = refl
down (suc k) = ap (λ (x : ℕ). negsuc (suc x)) (zero-add k)

odd : (c : goal.Else-n-eq0) → negsuc 0 -ℤ to_z w32 (c.args.n / 2) ≡ negsuc (c.args.n / 2)
odd c = ap (λ (z : ℤ). negsuc 0 -ℤ z) (to_z_pos w32 {n = c.args.n / 2} (omega arith)) ∙ down (c.args.n / 2)

pub overflow_sub-result : goal.overflow_sub-result
overflow_sub-result c = record { sfits = subst (λ (z : ℤ). mag z < 2 ^ 31) (sym (odd c)) (omega arith) }

pub returns-then-n-eq0 : goal.returns-then-n-eq0
returns-then-n-eq0 c = to_z_pos w32 {n = c.args.n / 2} (omega arith) ∙ sym (meaning_even c.args.n (omega (arith, c.if-n-eq0.true)))

pub returns-else-n-eq0 : goal.returns-else-n-eq0
returns-else-n-eq0 c = to_z-of_z {w = w32} (overflow_sub-result c) ∙ odd c ∙ sym (meaning_odd c.args.n (omega (arith, c.if-n-eq0.false)))
