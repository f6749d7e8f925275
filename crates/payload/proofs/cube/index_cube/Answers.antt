-- `index_cube` meets its contract. Assumes nothing.
use Rattle.std.proofs.Common.{rules, arith}
use Rattle.payload.specs.Cube.{cube_face, cube_triangles}
use Rattle.payload.proofs.cube.index_cube.Goals as goal

pub put_each-requires : goal.put_each-requires
unfolding cube_triangles
put_each-requires c =
    let a = c.args in
    record { may = (cube_face a.cells.n, omega arith, λ i to m h r. search rules, λ i to w m r h k p. search rules) }

pub returns : goal.returns
unfolding cube_triangles
returns c =
    let a = c.args in
    let r = c.put_each.ensures.puts (cube_face a.cells.n) (omega arith) (λ i to w m r h k p. search rules) in
    r.1
