-- `put_threes` meets its contract: i numbers are put. Assumes nothing.
use mathlib.Core.Path.{refl}
use Prim.Native.Nat.{◌+◌}
use native.Mathlib.Omega.{arith}
use Rattle.payload.proofs.FillLaws.{filling_none, filling_more}
use Rattle.display.proofs.LoopLaws.{filling_as}
use Rattle.display.proofs.triangulation.put_threes.Goals as goal

pub loop-i-init : goal.loop-i-init
loop-i-init c = filling_as filling_none _ _ (omega arith) refl

pub loop-i-preserved : goal.loop-i-preserved
loop-i-preserved c =
    let l = c.loop-i in
    filling_as (filling_more l.invariant _ (c.args.at + l.i + 1) c.loop-i-test.true refl refl) _ _ (omega arith) refl
