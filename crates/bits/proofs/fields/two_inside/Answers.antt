-- `two_inside` meets its contract: both fields stand in the bits before the end of the second. Assumes nothing.
use Rattle.std.proofs.Common.{◌+◌, ◌*◌, arith}
use Rattle.bits.proofs.ReadLaws.{taken, taken_last}
use Rattle.bits.proofs.fields.two_inside.Goals as goal

pub returns : goal.returns
returns c =
    let a = c.args in
    let s = a.s.now in
    let p = a.bit in
    let w = a.width in
    let x = c.five_before.result in
    let e = c.five_before.ensures in (
      taken s p w w (p + 2 * w) x _ (omega arith) (omega arith) e c.two_of.ensures.0,
      taken_last s (p + w) w (p + 2 * w) x _ (omega arith) (omega arith) e c.two_of.ensures.1,
    )
