-- `BitCursor::read_two` meets its contract: up to 16 bits both fields stand in the bits before the next place. Assumes nothing.
use Rattle.std.proofs.Common.{◌≡◌, ℕ, ◌+◌, ◌*◌, List, sym, refl, ap, ◌∙◌, arith}
use Rattle.bits.specs.Verdict.{accepted}
use Rattle.bits.specs.Read.{two_at}
use Rattle.bits.proofs.FieldLaws.{field-zero}
use Rattle.bits.proofs.ReadLaws.{two_wide, two_short, two_taken, taken, taken_last}
use Rattle.bits.proofs.fields.BitCursor.read_two.Goals as goal

-- no bits
none : (s : List ℕ) (p w : ℕ) → w ≡ 0 → accepted (0, 0, p) ≡ two_at s p w
none s p w e =
    two_taken s p 0 0 0 p (omega arith) (omega arith) (sym (field-zero s p)) (sym (field-zero s (p + 0))) (omega arith)
    ∙ ap (λ (k : ℕ). two_at s p k) (sym e)

pub returns-then-width-gt32 : goal.returns-then-width-gt32
returns-then-width-gt32 c = let a = c.args in sym (two_wide a.s.now a.self.bit a.width c.if-width-gt32.true)

pub returns-then-width-eq0 : goal.returns-then-width-eq0
returns-then-width-eq0 c = let a = c.args in none a.s.now a.self.bit a.width c.if-width-eq0.true

pub returns-then-bits_left-size : goal.returns-then-bits_left-size
returns-then-bits_left-size c = let a = c.args in sym (two_short a.s.now a.self.bit a.width (omega arith) (omega arith))

pub returns : goal.returns
returns c =
    let a = c.args in
    let s = a.s.now in
    let p = a.self.bit in
    let w = a.width in
    let x = c.bits_before.result in
    let e = c.bits_before.ensures in
    two_taken s p w _ _ _ (omega arith) (omega arith)
    (taken s p w w (p + 2 * w) x _ (omega arith) (omega arith) e c.two_of.ensures.0)
    (taken_last s (p + w) w (p + 2 * w) x _ (omega arith) (omega arith) e c.two_of.ensures.1)
    refl
