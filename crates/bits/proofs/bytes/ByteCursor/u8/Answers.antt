-- `ByteCursor::u8` meets its contract. Assumes nothing.
use Rattle.std.proofs.Common.{ℕ, ◌+◌, ◌*◌, length, sym, ap, ◌∙◌, arith}
use Rattle.bits.specs.Verdict.{accepted, declined}
use Rattle.bits.specs.Field.{field}
use Rattle.bits.proofs.VerdictLaws.{within_yes, within_no}
use Rattle.bits.proofs.FieldLaws.{field-byte}
use Rattle.bits.proofs.bytes.ByteCursor.u8.Goals as goal

pub returns : goal.returns
returns c =
    let a = c.args in
    let s = a.s.now in
    let p = a.self.at in
    ap (λ (v : ℕ). accepted (v, p + 1)) (sym (field-byte s p (c.type_inv.s p).fits))
    ∙ sym (within_yes (p + 1) (length s) (field s (8 * p) 8, p + 1) (declined 3) (omega arith))

pub returns-then-s-at : goal.returns-then-s-at
returns-then-s-at c =
    let a = c.args in
    let s = a.s.now in
    let p = a.self.at in
    sym (within_no (p + 1) (length s) (field s (8 * p) 8, p + 1) (declined 3) (omega arith))
