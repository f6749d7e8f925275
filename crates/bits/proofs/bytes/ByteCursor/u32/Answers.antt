-- `ByteCursor::u32` meets its contract. Assumes nothing.
use Rattle.std.proofs.Common.{◌≡◌, ℕ, ◌+◌, ◌*◌, ◌<◌, List, length, sym, ap, ◌∙◌, arith}
use Rattle.bits.specs.Verdict.{accepted, declined}
use Rattle.bits.specs.Field.{field}
use Rattle.bits.specs.Read.{number_at}
use Rattle.bits.proofs.VerdictLaws.{within_yes, within_no}
use Rattle.bits.proofs.FieldLaws.{field-word}
use Rattle.bits.proofs.bytes.ByteCursor.u32.Goals as goal

short : (s : List ℕ) (p : ℕ) → length s < p + 4 → declined 3 ≡ number_at 4 s p
short s p h = sym (within_no (p + 4) (length s) (field s (8 * p) 32, p + 4) (declined 3) h)

pub returns-then-n-lt4 : goal.returns-then-n-lt4
returns-then-n-lt4 c = let a = c.args in short a.s.now a.self.at (omega arith)

pub returns-then-n-at : goal.returns-then-n-at
returns-then-n-at c = let a = c.args in short a.s.now a.self.at (omega arith)

pub returns : goal.returns
returns c =
    let a = c.args in
    let s = a.s.now in
    let p = a.self.at in
    ap (λ (v : ℕ). accepted (v, p + 4)) (c.word_of-word.ensures ∙ sym (field-word s p (λ k. (c.type_inv.s k).fits)))
    ∙ sym (within_yes (p + 4) (length s) (field s (8 * p) 32, p + 4) (declined 3) (omega arith))
