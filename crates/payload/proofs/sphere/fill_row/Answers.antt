-- `fill_row` meets its contract. Assumes nothing.
use Rattle.std.proofs.Common.{arith}
use Rattle.payload.proofs.SphereLaws.{usable_grid, row_zenith, row_nadir, row_whole}
use Rattle.payload.proofs.sphere.fill_row.Goals as goal

pub overflow_add-d : goal.overflow_add-d
overflow_add-d c =
    let g = c.args.patch.grid in
    omega (arith, usable_grid g.rings g.sectors g.usable)

pub fill_triangles-requires-clause-n_in_bounds : goal.fill_triangles-requires-clause-n_in_bounds
fill_triangles-requires-clause-n_in_bounds c =
    let p = c.args.patch in
    let g = p.grid in
    let u = usable_grid g.rings g.sectors g.usable in
    let row = row_zenith g.rings g.sectors c.args.ring p.zenith p.nadir _ c.first_of-a.ensures.number in
    let e = row c.if-patch-ring.true u.0 in
    rw e c.requires.ring_in_bounds

pub returns-then-patch-ring : goal.returns-then-patch-ring
returns-then-patch-ring c =
    let p = c.args.patch in
    let g = p.grid in
    let u = usable_grid g.rings g.sectors g.usable in
    let row = row_zenith g.rings g.sectors c.args.ring p.zenith p.nadir _ c.first_of-a.ensures.number in
    let e = row c.if-patch-ring.true u.0 in
    record { place = rw (← e) c.fill_triangles.ensures.place; numbers = rw (← e) c.fill_triangles.ensures.numbers }

pub fill_triangles-requires-then-patch-ring-2-clause-n_in_bounds
    : goal.fill_triangles-requires-then-patch-ring-2-clause-n_in_bounds
fill_triangles-requires-then-patch-ring-2-clause-n_in_bounds c =
    let p = c.args.patch in
    let g = p.grid in
    let row = row_nadir g.rings g.sectors c.args.ring p.zenith p.nadir _ c.first_of-a.ensures.number in
    let e = row c.if-patch-ring.false c.if-patch-ring-2.true in
    rw e c.requires.ring_in_bounds

pub returns-then-patch-ring-2 : goal.returns-then-patch-ring-2
returns-then-patch-ring-2 c =
    let p = c.args.patch in
    let g = p.grid in
    let row = row_nadir g.rings g.sectors c.args.ring p.zenith p.nadir _ c.first_of-a.ensures.number in
    let e = row c.if-patch-ring.false c.if-patch-ring-2.true in
    let put = c.fill_triangles-then-patch-ring-2.ensures in
    record { place = rw (← e) put.place; numbers = rw (← e) put.numbers }

pub fill_cells-requires-clause-n_in_bounds : goal.fill_cells-requires-clause-n_in_bounds
fill_cells-requires-clause-n_in_bounds c =
    let p = c.args.patch in
    let g = p.grid in
    let row = row_whole g.rings g.sectors c.args.ring p.zenith p.nadir _ c.first_of-a.ensures.number in
    let e = row c.if-patch-ring.false c.if-patch-ring-2.false in
    rw e c.requires.ring_in_bounds

pub returns : goal.returns
returns c =
    let p = c.args.patch in
    let g = p.grid in
    let row = row_whole g.rings g.sectors c.args.ring p.zenith p.nadir _ c.first_of-a.ensures.number in
    let e = row c.if-patch-ring.false c.if-patch-ring-2.false in
    record { place = rw (← e) c.fill_cells.ensures.place; numbers = rw (← e) c.fill_cells.ensures.numbers }
