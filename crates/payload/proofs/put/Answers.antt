-- `put` meets its contract: the first i items are stored. Assumes nothing.
use Rattle.std.proofs.Common.{arith}
use Rattle.payload.proofs.FillLaws.{sets_next}
use Rattle.payload.proofs.put.Goals as goal

pub loop-i-preserved : goal.loop-i-preserved
loop-i-preserved g c =
    let a = c.args in
    let l = c.loop-i in
    sets_next a.items.now a.out.now l.out a.at l.i c.index-items-i.result (omega arith) c.index-items-i.is l.invariant
