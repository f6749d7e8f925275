-- `deal` meets its contract: what is still to be put makes the buffer what it is to be. Assumes nothing.
use mathlib.Core.Path.{◌≡◌}
use Prim.Native.Nat.{ℕ, ◌+◌, ◌-◌, min}
use native.Mathlib.Omega.{arith}
use lib.ListN.{get_or}
use Rattle.display.proofs.LevelLaws.{put_first, put_all}
use Rattle.display.proofs.shares.deal.Goals as goal
use Rattle.display.proofs.shares.deal.Goals.{then-wish-height, else-wish-height+then-left-gt0, else-wish-height+else-left-gt0}

-- the share that is put for a wish, and the points that are left after it
abbrev Dealt : ℕ → ℕ → ℕ → ℕ → ℕ → Type 0
Dealt height left wish share after =
    (share ≡ min wish height + min left (min 1 (wish - height))) × (after ≡ left - min left (min 1 (wish - height)))

pub loop-i-preserved : goal.loop-i-preserved
loop-i-preserved c =
    let a = c.args in
    let l = c.loop-i in
    let d = c.if-wish-height in
    let dealt : Dealt a.height l.left (get_or a.wishes.now l.i 0) d.share d.left =
    elim d.branch [
      | then-wish-height w ↦ (omega arith, omega arith)
      | else-wish-height+then-left-gt0 w ↦ (omega arith, omega arith)
      | else-wish-height+else-left-gt0 w ↦ (omega arith, omega arith)
    ] in
    (omega (arith, dealt.1), put_first a.height l.left a.wishes.now l.i (omega arith) _ _ dealt.0 dealt.1 _ _ l.invariant.1)

pub returns : goal.returns
returns c =
    let a = c.args in
    let l = c.loop-i in
    put_all a.height a.points l.left a.wishes.now a.shares.now l.shares l.i (omega arith) l.invariant.1
