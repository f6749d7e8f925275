-- `Patch::numbers` meets its contract: it is the length of the list. Assumes nothing.
use Rattle.std.proofs.Common.{sym, arith}
use Rattle.payload.proofs.SphereLaws.{usable_grid, cells_fit, poles_fit, triangles_length}
use Rattle.payload.proofs.grid.Patch.numbers.Goals as goal

pub overflow_mul-result-2 : goal.overflow_mul-result-2
overflow_mul-result-2 c = let g = c.args.self.grid in omega (arith, cells_fit g.rings g.sectors g.usable)

pub overflow_sub-result : goal.overflow_sub-result
overflow_sub-result c =
    let p = c.args.self in
    let u = usable_grid p.grid.rings p.grid.sectors p.grid.usable in
    poles_fit p.grid.sectors p.zenith p.nadir p.grid.rings (omega arith)

pub returns : goal.returns
returns c =
    let p = c.args.self in
    let u = usable_grid p.grid.rings p.grid.sectors p.grid.usable in
    sym (triangles_length p.grid.sectors p.zenith p.nadir p.grid.rings (omega arith))
