-- `next` meets its contract: the fields of the first submesh stand where reading found them. Assumes nothing.
use Rattle.std.proofs.Common.{refl, arith}
use Rattle.payload.proofs.TurnLaws.{none_left, taken, head_inside, points_inside}
use Rattle.payload.proofs.mesh.submeshes.SubmeshWalkIterator.next.Goals as goal

pub returns-then-all-eq0-clause-steps : goal.returns-then-all-eq0-clause-steps
returns-then-all-eq0-clause-steps c = none_left _ c.args.self.now.rest (omega arith)

pub overflow_add-bit : goal.overflow_add-bit
overflow_add-bit c = omega (arith, head_inside c.args.self.now.there (omega arith))

pub one_field-count-requires : goal.one_field-count-requires
one_field-count-requires c = omega (arith, head_inside c.args.self.now.there (omega arith))

pub one_field-requires : goal.one_field-requires
one_field-requires c = omega (arith, head_inside c.args.self.now.there (omega arith))

pub overflow_add-bit-2 : goal.overflow_add-bit-2
overflow_add-bit-2 c = omega (arith, head_inside c.args.self.now.there (omega arith))

pub one_field-requires-2 : goal.one_field-requires-2
one_field-requires-2 c = omega (arith, head_inside c.args.self.now.there (omega arith))

pub overflow_add-submesh : goal.overflow_add-submesh
overflow_add-submesh c = omega (arith, head_inside c.args.self.now.there (omega arith))

pub overflow_add-self : goal.overflow_add-self
overflow_add-self c = omega (arith, head_inside c.args.self.now.there (omega arith))

pub overflow_add-self-2 : goal.overflow_add-self-2
overflow_add-self-2 c =
    omega (arith, points_inside _ _ c.args.self.now.there (omega arith) c.one_field-count.ensures c.bit_width-width.ensures)

pub invariant_of-self : goal.invariant_of-self
invariant_of-self c =
    let T = taken c.args.self.now.s.now c.args.self.now.rest c.one_field.result c.one_field-2.result c.one_field-count.result c.bit_width-width.result
    c.args.self.now.there (omega arith) c.one_field.ensures c.one_field-2.ensures c.one_field-count.ensures c.bit_width-width.ensures in
    record { there = T.there }

pub returns-clause-steps : goal.returns-clause-steps
returns-clause-steps c =
    let T = taken c.args.self.now.s.now c.args.self.now.rest c.one_field.result c.one_field-2.result c.one_field-count.result c.bit_width-width.result
    c.args.self.now.there (omega arith) c.one_field.ensures c.one_field-2.ensures c.one_field-count.ensures c.bit_width-width.ensures in
    record { is = T.is; byte = T.byte; run = T.run; count = T.count; place = refl; after = T.after; limit = refl; body = refl; vertices = refl; left = T.left }
