-- `two_windows` meets its contract: each field is the last of the bits before its end. Assumes nothing.
use Rattle.std.proofs.Common.{◌+◌, arith}
use Rattle.bits.proofs.ReadLaws.{two_taken, taken_last}
use Rattle.bits.proofs.fields.two_windows.Goals as goal

pub returns : goal.returns
returns c =
    let a = c.args in
    let s = a.s.now in
    let p = a.bit in
    let w = a.width in
    two_taken s p w _ _ _ (omega arith) (omega arith)
    (taken_last s p w (p + w) c.bits_before.result _ (omega arith) (omega arith) c.bits_before.ensures c.low_bits.ensures)
    (taken_last s (p + w) w (p + w + w) c.bits_before-2.result _ (omega arith) (omega arith) c.bits_before-2.ensures c.low_bits-2.ensures)
    (omega arith)
