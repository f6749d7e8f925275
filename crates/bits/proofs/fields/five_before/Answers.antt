-- `five_before` meets its contract: five whole bytes without the bits after q. Assumes nothing.
use Rattle.std.proofs.Common.{arith}
use Rattle.bits.proofs.ReadLaws.{five-gathered}
use Rattle.bits.proofs.fields.five_before.Goals as goal

pub returns : goal.returns
returns c =
    let a = c.args in
    five-gathered a.s.now a.q c.five_of.result _ _ (omega arith) (λ k. (c.type_inv.s k).fits) c.five_of.ensures (omega arith) (omega arith)
