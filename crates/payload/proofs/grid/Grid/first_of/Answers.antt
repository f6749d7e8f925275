-- `Grid::first_of` meets its contract. Assumes nothing.
use Rattle.std.proofs.Common.{arith}
use Rattle.payload.proofs.SphereLaws.{ring_fits}
use Rattle.payload.proofs.grid.Grid.first_of.Goals as goal

pub overflow_add-result : goal.overflow_add-result
overflow_add-result c =
    let g = c.args.self in
    omega (arith, ring_fits g.rings g.sectors c.args.ring g.usable c.requires)

pub overflow_mul-result : goal.overflow_mul-result
overflow_mul-result c =
    let g = c.args.self in
    omega (arith, ring_fits g.rings g.sectors c.args.ring g.usable c.requires)

pub overflow_cast-result : goal.overflow_cast-result
overflow_cast-result c =
    let g = c.args.self in
    omega (arith, ring_fits g.rings g.sectors c.args.ring g.usable c.requires)

pub returns-clause-fits : goal.returns-clause-fits
returns-clause-fits c =
    let g = c.args.self in
    omega (arith, ring_fits g.rings g.sectors c.args.ring g.usable c.requires)
