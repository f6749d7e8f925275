-- `stepped` meets its contract: an even field goes up, an odd one down, and around where that is below 0. Assumes nothing.
use Rattle.std.proofs.Common.{◌≡◌, ℕ, ◌+◌, ◌-◌, ◌/◌, ◌%◌, ◌^◌, ◌<◌, ◌≤◌, ◌⊎◌, sym, inl, inr, arith}
use Rattle.bits.specs.Number.{stepped_to}
use Rattle.bits.proofs.VerdictLaws.{le-or-lt}
use Rattle.bits.proofs.NumberLaws.{stepped_up, stepped_down, stepped_under}
use Rattle.bits.proofs.numbers.stepped.Goals as goal

odd : (last f : ℕ) → last < 2 ^ 32 → f < 2 ^ 32 → f % 2 ≡ 1
    → (last + (2 ^ 64 - (f / 2 + 1))) % 2 ^ 64 ≡ stepped_to last f
odd last f hl hf o = go (le-or-lt ((f + 1) / 2) last)
  where
    go : ((f + 1) / 2 ≤ last) ⊎ (last < (f + 1) / 2) → (last + (2 ^ 64 - (f / 2 + 1))) % 2 ^ 64 ≡ stepped_to last f
    go (inl g) = let t = stepped_down last f o g in omega arith
    go (inr g) = let t = stepped_under last f o g in omega arith

pub returns-then-field-eq0 : goal.returns-then-field-eq0
returns-then-field-eq0 c = let a = c.args in sym (stepped_up a.last a.field c.if-field-eq0.true)

pub returns : goal.returns
returns c = odd c.args.last c.args.field (omega arith) (omega arith) (omega (arith, c.if-field-eq0.false))
