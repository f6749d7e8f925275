-- `step_field` meets its contract, down and up. Assumes nothing.
use Rattle.std.proofs.Common.{arith}
use Rattle.payload.proofs.MeshWriteLaws.{step_complement, step_twice}
use Rattle.payload.proofs.mesh.write.step_field.Goals as goal

pub returns-then-complement-twice : goal.returns-then-complement-twice
returns-then-complement-twice c =
    step_complement c.args.last c.args.next _ (omega arith) (omega arith) (omega arith) (omega arith)
    c.if-complement-twice.true

pub returns-else-complement-twice : goal.returns-else-complement-twice
returns-else-complement-twice c =
    step_twice c.args.last c.args.next _ (omega arith) (omega arith) (omega arith) (omega arith)
    c.if-complement-twice.false
