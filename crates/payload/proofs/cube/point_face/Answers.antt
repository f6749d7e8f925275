-- `point_face` meets its contract. Assumes nothing.
use Rattle.std.proofs.Common.{ℕ, ◌+◌, rules}
use Rattle.payload.specs.Cube.{point_face}
use Rattle.payload.specs.InternalCube.{row_of}
use Rattle.payload.proofs.FillLaws.{each_same}
use Rattle.payload.proofs.CubeLaws.{row_of_lem}
use Rattle.payload.proofs.cube.point_face.Goals as goal

pub put_each-requires : goal.put_each-requires
unfolding point_face
put_each-requires c =
    let a = c.args in
    let row = row_of a.cells.n a.radius c.face_of-f.result in
    let made = λ (y : ℕ). row_of_lem _ a.cells.n a.radius a.share a.face y c.face_of-f.ensures in
    let e = each_same row _ made (a.cells.n + 1) in
    record { may = (row, rw e c.requires.room, λ i to m h r. search rules, λ i to w m r h k p. search rules) }

pub returns : goal.returns
unfolding point_face
returns c =
    let a = c.args in
    let row = row_of a.cells.n a.radius c.face_of-f.result in
    let made = λ (y : ℕ). row_of_lem _ a.cells.n a.radius a.share a.face y c.face_of-f.ensures in
    let e = each_same row _ made (a.cells.n + 1) in
    let r = c.put_each.ensures.puts row (rw e c.requires.room) (λ i to w m r h k p. search rules) in
    record { place = rw (← e) r.0; floats = rw (← e) r.1 }
