-- `index_face` meets its contract. Assumes nothing.
use Rattle.std.proofs.Common.{rules}
use Rattle.payload.specs.Cube.{cube_row, cube_face}
use Rattle.payload.proofs.cube.index_face.Goals as goal

pub put_each-requires : goal.put_each-requires
unfolding cube_face
put_each-requires c =
    let a = c.args in
    let row = cube_row a.cells.n a.face in
    record { may = (row, c.requires.room, λ i to m h r. search rules, λ i to w m r h k p. search rules) }

pub returns : goal.returns
unfolding cube_face
returns c =
    let a = c.args in
    let r = c.put_each.ensures.puts (cube_row a.cells.n a.face) (c.requires.room) (λ i to w m r h k p. search rules) in
    record { place = r.0; numbers = r.1 }
