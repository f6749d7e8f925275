-- `fill_uv_rows` meets its contract. Assumes nothing.
use Rattle.std.proofs.Common.{rules, arith}
use Rattle.payload.specs.Sphere.{uv_row, grid_uvs}
use Rattle.payload.proofs.SphereLaws.{sides_fit}
use Rattle.payload.proofs.sphere.fill_uv_rows.Goals as goal

pub overflow_add-grid : goal.overflow_add-grid
overflow_add-grid c = let g = c.args.grid in omega (arith, sides_fit g.rings g.sectors g.usable)

pub put_each-requires : goal.put_each-requires
unfolding grid_uvs
put_each-requires c =
    let row = uv_row c.args.grid.rings c.args.grid.sectors in
    record { may = (row, omega arith, λ i to m h r. search rules, λ i to w m r h k p. search rules) }

pub returns : goal.returns
unfolding grid_uvs
returns c =
    let row = uv_row c.args.grid.rings c.args.grid.sectors in
    let r = c.put_each.ensures.puts row (omega arith) (λ i to w m r h k p. search rules) in
    r.1
