-- `put_each` meets its contract. Assumes nothing.
use Rattle.std.proofs.Common.{refl, arith}
use Rattle.payload.proofs.FillLaws.{placed_none, placed_room, placed_more, placed_all}
use Rattle.payload.proofs.put_each.Goals as goal

pub loop-i-init : goal.loop-i-init
loop-i-init g c = λ f h p. placed_none

pub step-to-requires : goal.step-to-requires
step-to-requires g c =
    let r = c.requires.may in
    let l = c.loop-i in
    r.2 _ _ _ (omega arith) (placed_room (l.invariant r.0 r.1 r.3) c.args.n refl (omega arith) r.1)

pub loop-i-preserved : goal.loop-i-preserved
loop-i-preserved g c = λ f h p.
    let l = c.loop-i in
    let i = l.invariant f h p in
    let k = p _ _ _ _ _ (omega arith) (placed_room i c.args.n refl (omega arith) h) c.step-to.ensures in
    placed_more i refl k.0 k.1

pub returns : goal.returns
returns g c = record {
  puts = λ f h p. let r = placed_all (c.loop-i.invariant f h p) c.args.n (omega arith) in (r.place, r.items);
}
