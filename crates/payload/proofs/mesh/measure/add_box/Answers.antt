-- `add_box` meets its contract: a mesh box's body is added, but a third one is refused, and another box is skipped.
-- Assumes nothing.
use Rattle.std.proofs.Common.{sym, ◌∙◌, arith}
use Rattle.payload.proofs.MeasureLaws.{box_skipped, box_third, box_counted}
use Rattle.payload.proofs.mesh.measure.add_box.Goals as goal

pub returns-then-fourcc-ne-MESH : goal.returns-then-fourcc-ne-MESH
returns-then-fourcc-ne-MESH c =
    let a = c.args in
    sym (box_skipped a.s.now a.fourcc a.body a.end a.t c.if-fourcc-ne-MESH.true)

pub returns-then-t-ge2 : goal.returns-then-t-ge2
returns-then-t-ge2 c =
    let a = c.args in
    sym (box_third a.s.now a.fourcc a.body a.end a.t c.if-fourcc-ne-MESH.false (omega arith))

pub returns : goal.returns
returns c =
    let a = c.args in
    c.add_body.ensures
    ∙ sym (box_counted a.s.now a.fourcc a.body a.end a.t c.if-fourcc-ne-MESH.false
    (omega arith))
