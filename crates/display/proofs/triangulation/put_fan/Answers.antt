-- `put_fan` meets its contract: k triangles are put. Assumes nothing.
use mathlib.Core.Path.{refl}
use native.Mathlib.Omega.{arith}
use Rattle.payload.proofs.FillLaws.{filling_none}
use Rattle.display.proofs.LoopLaws.{room, put, filling_as, fan_is}
use Rattle.display.proofs.triangulation.put_fan.Goals as goal

pub loop-k-init : goal.loop-k-init
loop-k-init c = filling_as filling_none _ _ (omega arith) refl

pub put_triangle-requires : goal.put_triangle-requires
put_triangle-requires c = room 2 _ c.loop-k.invariant c.loop-k-test.true c.requires.n_in_bounds

pub loop-k-preserved : goal.loop-k-preserved
loop-k-preserved c =
    let l = c.loop-k in
    filling_as (put 2 _ l.invariant c.loop-k-test.true _ _ c.put_triangle.ensures (fan_is _ l.k)) _ _ (omega arith) refl
