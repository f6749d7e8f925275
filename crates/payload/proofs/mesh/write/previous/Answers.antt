-- `previous` meets its contract. Assumes nothing.
use Rattle.payload.proofs.PutRunLaws.{before_later, before_start}
use Rattle.payload.proofs.mesh.write.previous.Goals as goal

pub returns-then-i-stride : goal.returns-then-i-stride
returns-then-i-stride c = let a = c.args in before_start a.stride a.i a.ns.now c.if-i-stride.true

pub returns : goal.returns
returns c = let a = c.args in before_later a.stride a.i a.ns.now c.if-i-stride.false
