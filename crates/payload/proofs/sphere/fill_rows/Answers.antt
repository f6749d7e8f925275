-- `fill_rows` meets its contract. Assumes nothing.
use Rattle.std.proofs.Common.{rules, arith}
use Rattle.payload.specs.Sphere.{grid_triangles}
use Rattle.payload.specs.InternalSphere.{patch_row}
use Rattle.payload.proofs.sphere.fill_rows.Goals as goal

pub put_each-requires : goal.put_each-requires
unfolding grid_triangles
put_each-requires c =
    let a = c.args in
    record { may = (patch_row a.patch, omega arith, λ i to m h r. search rules, λ i to w m r h k p. search rules) }

pub returns : goal.returns
unfolding grid_triangles
returns c =
    let a = c.args in
    let r = c.put_each.ensures.puts (patch_row a.patch) (omega arith) (λ i to w m r h k p. search rules) in
    r.1
