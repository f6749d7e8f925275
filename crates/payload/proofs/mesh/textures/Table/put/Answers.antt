-- `put` meets its contract. The invariant: the words of the first i textures are stored. Assumes nothing.
use Rattle.std.proofs.Common.{arith, get_or-take}
use Rattle.payload.proofs.TallyLaws.{stored-none, stored_on}
use Rattle.payload.proofs.mesh.textures.Table.put.Goals as goal

pub loop-i-init : goal.loop-i-init
loop-i-init c = stored-none

pub loop-i-preserved : goal.loop-i-preserved
loop-i-preserved c =
    rw (get_or-take c.args.self.now.count c.args.self.now.order c.loop-i.i 0 (omega arith))
    (stored_on c.loop-i.invariant (omega arith) (omega (arith, c.requires.few, c.requires.long)))
