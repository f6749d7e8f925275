-- `next` meets its contract: the next mesh box holds the first of the meshes that are left. Assumes nothing.
use Rattle.std.proofs.Common.{refl, arith}
use Rattle.payload.proofs.NextLaws.{no_more, one_more, body_there}
use Rattle.payload.proofs.mesh.meshes.MeshWalkIterator.next.Goals as goal

pub returns-in_err-body-clause-steps : goal.returns-in_err-body-clause-steps
returns-in_err-body-clause-steps c =
    let w = c.args.self.now in rw c.from_residual.ensures (no_more w.s.now w.at w.read c.in_err-body.ensures)

pub invariant_of-self : goal.invariant_of-self
invariant_of-self c =
    let w = c.args.self.now in record { short = w.short; read = (one_more w.s.now w.at w.read c.in_ok-body.ensures).rest }

pub slice_bounds-result-count : goal.slice_bounds-result-count
slice_bounds-result-count c =
    let w = c.args.self.now in omega (arith, one_more w.s.now w.at w.read c.in_ok-body.ensures)

pub slice_bounds-result-start : goal.slice_bounds-result-start
slice_bounds-result-start c =
    let w = c.args.self.now in omega (arith, one_more w.s.now w.at w.read c.in_ok-body.ensures)

pub slice_bounds-result-end : goal.slice_bounds-result-end
slice_bounds-result-end c =
    let w = c.args.self.now in omega (arith, one_more w.s.now w.at w.read c.in_ok-body.ensures)

pub invariant_of-result : goal.invariant_of-result
invariant_of-result c =
    let w = c.args.self.now in
    let b = body_there (one_more w.s.now w.at w.read c.in_ok-body.ensures) w.short in record { short = b.0; read = b.1 }

pub returns-clause-steps : goal.returns-clause-steps
returns-clause-steps c =
    let w = c.args.self.now in
    let N = one_more w.s.now w.at w.read c.in_ok-body.ensures in
    record { is = N.is; there = c.in_ok-body.ensures; part = refl; list = refl; after = refl }

pub returns-clause-goes : goal.returns-clause-goes
returns-clause-goes c =
    let w = c.args.self.now in
    let N = one_more w.s.now w.at w.read c.in_ok-body.ensures in
    record { on = λ f. (tt, tt, omega (arith, N)); keeps = tt; rests = λ f. tt }
