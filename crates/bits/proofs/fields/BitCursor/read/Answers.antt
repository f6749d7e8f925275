-- `BitCursor::read` meets its contract: the field is the last of the bits before the next place. Assumes nothing.
use Rattle.std.proofs.Common.{◌≡◌, ℕ, ◌+◌, ◌-◌, ◌≤◌, List, sym, ap, ◌∙◌, ap₂, arith}
use Rattle.bits.specs.Verdict.{accepted}
use Rattle.bits.specs.Field.{field, room}
use Rattle.bits.specs.Read.{field_at}
use Rattle.bits.proofs.FieldLaws.{field-zero}
use Rattle.bits.proofs.ReadLaws.{one_wide, one_whole, one_short, taken_last}
use Rattle.bits.proofs.fields.BitCursor.read.Goals as goal

-- no bits
none : (s : List ℕ) (p w : ℕ) → w ≡ 0 → accepted (0, p) ≡ field_at s p w
none s p w e =
    let z : p ≡ p + 0 = omega arith in
    ap₂ (λ (v q : ℕ). accepted (v, q)) (sym (field-zero s p)) z
    ∙ sym (one_whole s p 0 (omega arith) (omega arith))
    ∙ ap (λ (k : ℕ). field_at s p k) (sym e)

whole : (s : List ℕ) (p w v : ℕ) → w ≤ 32 → w ≤ room s - p → v ≡ field s p w → accepted (v, p + w) ≡ field_at s p w
whole s p w v n h e = ap (λ (x : ℕ). accepted (x, p + w)) e ∙ sym (one_whole s p w n h)

pub returns-then-width-gt32 : goal.returns-then-width-gt32
returns-then-width-gt32 c = let a = c.args in sym (one_wide a.s.now a.self.bit a.width c.if-width-gt32.true)

pub returns-then-width-eq0 : goal.returns-then-width-eq0
returns-then-width-eq0 c = let a = c.args in none a.s.now a.self.bit a.width c.if-width-eq0.true

pub returns-then-bits_left-size : goal.returns-then-bits_left-size
returns-then-bits_left-size c = let a = c.args in sym (one_short a.s.now a.self.bit a.width (omega arith) (omega arith))

pub returns : goal.returns
returns c =
    let a = c.args in
    let s = a.s.now in
    let p = a.self.bit in
    let w = a.width in
    whole s p w _ (omega arith) (omega arith)
    (taken_last s p w (p + w) c.bits_before.result _ (omega arith) (omega arith) c.bits_before.ensures c.low_bits.ensures)
