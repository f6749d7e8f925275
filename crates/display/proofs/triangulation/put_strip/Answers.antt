-- `put_strip` meets its contract: the triangles of so many pairs are put. Assumes nothing.
use Prim.Native.Nat.{◌+◌, ◌-◌, ◌*◌}
use native.Mathlib.Omega.{arith}
use Rattle.payload.proofs.FillLaws.{filling_none}
use Rattle.display.proofs.LoopLaws.{room, put, put_even, all, filling_as, odd_is}
use Rattle.display.proofs.triangulation.put_strip.Goals as goal

pub loop-pair-init : goal.loop-pair-init
loop-pair-init c = filling_as filling_none _ _ (omega arith) (omega arith)

pub put_triangle-requires : goal.put_triangle-requires
put_triangle-requires c = room 1 _ c.loop-pair.invariant (omega arith) c.requires.n_in_bounds

pub put_triangle-requires-in-loop-pair : goal.put_triangle-requires-in-loop-pair
put_triangle-requires-in-loop-pair c =
    room 1 _ (put_even _ c.loop-pair.invariant (omega arith) (omega arith) _ c.put_triangle.ensures) (omega arith) c.requires.n_in_bounds

pub loop-pair-preserved : goal.loop-pair-preserved
loop-pair-preserved c =
    let l = c.loop-pair in
    let q = put_even _ l.invariant (omega arith) (omega arith) _ c.put_triangle.ensures in
    filling_as (put 1 _ q (omega arith) _ _ c.put_triangle-in-loop-pair.ensures (odd_is _ (2 * l.pair) (omega arith))) _ _
    (omega arith) (omega arith)

pub put_triangle-requires-then-n-eq1 : goal.put_triangle-requires-then-n-eq1
put_triangle-requires-then-n-eq1 c = omega (arith, room 1 _ c.loop-pair.invariant (omega arith) c.requires.n_in_bounds)

pub returns-then-n-eq1 : goal.returns-then-n-eq1
returns-then-n-eq1 c =
    let a = c.args in
    let q = filling_as c.loop-pair.invariant (a.at + 3 * (a.n - 1)) (a.n - 1) (omega arith) (omega arith) in
    all 1 _ (put_even _ q (omega arith) (omega arith) _ c.put_triangle-then-n-eq1.ensures) (omega arith)
