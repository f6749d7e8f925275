-- `bits_before` meets its contract, at the front of the slice and after it. Assumes nothing.
use Rattle.std.proofs.Common.{arith}
use Rattle.bits.proofs.ReadLaws.{fewer_gathered}
use Rattle.bits.proofs.fields.bits_before.Goals as goal

pub returns : goal.returns
returns c =
    let a = c.args in
    fewer_gathered a.s.now a.q c.first_bytes.result _ _ (omega arith) c.first_bytes.ensures (omega arith) (omega arith)
