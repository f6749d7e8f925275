-- `Grid::vertices` meets its contract. Assumes nothing.
use Rattle.std.proofs.Common.{arith}
use Rattle.payload.proofs.SphereLaws.{usable_grid}
use Rattle.payload.proofs.grid.Grid.vertices.Goals as goal

pub overflow_mul-result : goal.overflow_mul-result
overflow_mul-result c = let g = c.args.self in omega (arith, usable_grid g.rings g.sectors g.usable)

pub returns-clause-few : goal.returns-clause-few
returns-clause-few c = let g = c.args.self in (usable_grid g.rings g.sectors g.usable).2
