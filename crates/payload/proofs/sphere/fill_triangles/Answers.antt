-- `fill_triangles` meets its contract: i triangles are put. Assumes nothing.
use Rattle.std.proofs.Common.{refl, arith}
use Rattle.payload.proofs.FillLaws.{placed_none, placed_room, placed_more}
use Rattle.payload.proofs.sphere.fill_triangles.Goals as goal

pub loop-i-init : goal.loop-i-init
loop-i-init c = placed_none

pub put-to-requires : goal.put-to-requires
put-to-requires c = placed_room c.loop-i.invariant c.args.n refl (omega arith) c.requires.n_in_bounds

pub loop-i-preserved : goal.loop-i-preserved
loop-i-preserved c = placed_more c.loop-i.invariant refl c.put-to.ensures.place c.put-to.ensures.stored
