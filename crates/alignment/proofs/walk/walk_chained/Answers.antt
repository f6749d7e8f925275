-- `walk_chained` meets its contract: see proofs/GoingLaws.antt. Assumes nothing.
use mathlib.Core.Path.{refl}
use native.Mathlib.Omega.{arith}
use Rattle.alignment.proofs.GoingLaws.{going_start, going_room, one_more, going_on, going_end}
use Rattle.alignment.proofs.walk.walk_chained.Goals as goal

pub loop-init : goal.loop-init
loop-init c = let a = c.args in (refl, going_start a.s.now a.run a.chains.now.asked.now a.out.now)

pub take_field-v-requires : goal.take_field-v-requires
take_field-v-requires c =
    rw c.bit_width-width.ensures (going_room c.loop.invariant.1 c.requires.0 (omega arith))

pub settle-next-requires : goal.settle-next-requires
settle-next-requires c =
    let G = c.loop.invariant.1 in
    let f = c.take_field-v in
    let e = rw c.bit_width-width.ensures at f.ensures in
    (omega (arith, one_more G (omega arith) f.result e), omega (arith, G.long))

pub loop-preserved : goal.loop-preserved
loop-preserved c =
    let G = c.loop.invariant.1 in
    let f = c.take_field-v in
    let e = rw c.bit_width-width.ensures at f.ensures in
    (omega (arith, one_more G (omega arith) f.result e), going_on G (omega arith) f.result e _ _ c.settle-next.ensures)

pub returns : goal.returns
returns c =
    let p = c.requires in
    let r = going_end c.loop.invariant.1 p.1 p.3 (omega arith) in
    record { state = r.0; numbers = r.1 }
