-- `one_inside` meets its contract: the last of the bits before its end. Assumes nothing.
use Rattle.std.proofs.Common.{◌+◌, arith}
use Rattle.bits.proofs.ReadLaws.{taken_last}
use Rattle.bits.proofs.fields.one_inside.Goals as goal

pub returns : goal.returns
returns c =
    let a = c.args in
    taken_last a.s.now a.bit a.width (a.bit + a.width) c.five_before.result _ (omega arith) (omega arith) c.five_before.ensures c.low_bits.ensures
