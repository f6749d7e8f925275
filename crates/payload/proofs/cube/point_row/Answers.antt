-- `point_row` meets its contract: x points are put. Assumes nothing.
use Rattle.std.proofs.Common.{◌≡◌, ℕ, ◌+◌, List, arith}
use lib.Ieee.{Float}
use Rattle.payload.specs.declared.cube.Face.{Face}
use Rattle.payload.specs.InternalCube.{point_of, row_of}
use Rattle.payload.proofs.FillLaws.{placed_none, placed_room, placed_more, placed_all}
use Rattle.payload.proofs.cube.point_row.Goals as goal

-- the point of these shares
made : (radius : Float) (face : Face) {p : List ℕ} {s s' t t' : Float}
    → p ≡ point_of radius face s t → s ≡ s' → t ≡ t' → p ≡ point_of radius face s' t'
made radius face e h k = cc

pub loop-x-init : goal.loop-x-init
loop-x-init c = placed_none

pub put-to-requires : goal.put-to-requires
unfolding row_of
put-to-requires c =
    let a = c.args in
    let e = made a.radius a.face c.point_of.ensures c.small_ratio.ensures c.small_ratio-t.ensures in
    placed_room c.loop-x.invariant (a.cells.n + 1) e (omega arith) c.requires.room

pub loop-x-preserved : goal.loop-x-preserved
loop-x-preserved c =
    let a = c.args in
    let e = made a.radius a.face c.point_of.ensures c.small_ratio.ensures c.small_ratio-t.ensures in
    placed_more c.loop-x.invariant e c.put-to.ensures.place c.put-to.ensures.stored

pub returns : goal.returns
unfolding row_of
returns c =
    let r = placed_all c.loop-x.invariant (c.args.cells.n + 1) (omega arith) in
    record { place = r.place; floats = r.items }
