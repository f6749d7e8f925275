-- `index_row` meets its contract: x cells are put. Assumes nothing.
use Rattle.std.proofs.Common.{◌∙◌, arith}
use Rattle.payload.specs.Cube.{cube_row}
use Rattle.payload.proofs.FillLaws.{placed_none, placed_room, placed_more, placed_all}
use Rattle.payload.proofs.CubeLaws.{cell_of_lem}
use Rattle.payload.proofs.cube.index_row.Goals as goal

pub loop-x-init : goal.loop-x-init
loop-x-init c = placed_none

pub put-to-requires : goal.put-to-requires
unfolding cube_row
put-to-requires c =
    let a = c.args in
    let l = c.loop-x in
    let e = cell_of_lem a.cells.n a.face a.y l.x in
    placed_room l.invariant a.cells.n (c.cell_of.ensures ∙ e) (omega arith) c.requires.room

pub loop-x-preserved : goal.loop-x-preserved
loop-x-preserved c =
    let a = c.args in
    let l = c.loop-x in
    let e = cell_of_lem a.cells.n a.face a.y l.x in
    placed_more l.invariant (c.cell_of.ensures ∙ e) c.put-to.ensures.place c.put-to.ensures.stored

pub returns : goal.returns
unfolding cube_row
returns c =
    let r = placed_all c.loop-x.invariant c.args.cells.n (omega arith) in
    record { place = r.place; numbers = r.items }
