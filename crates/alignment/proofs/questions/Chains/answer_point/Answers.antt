-- `answer_point` meets its contract. The invariant: the chain is followed up to a place, and of the questions from
-- there on all are answered, and the least after the point is known. Assumes nothing.
use mathlib.Core.Path.{◌≡◌}
use native.Mathlib.Omega.{arith}
use Rattle.alignment.proofs.ChainLaws.{stretch_low, on_start, on_in, on_next, on_less}
use Rattle.alignment.proofs.ChainLaws.{filled_start, filled_on}
use Rattle.alignment.proofs.ChainLaws.{least_start, least_on, least_end}
use Rattle.alignment.proofs.questions.Chains.answer_point.Goals as goal

pub loop-place-init : goal.loop-place-init
loop-place-init c =
    let a = c.args in
    let C = a.self.now.chained in
    let p = c.requires.0 in
    (on_start C _ (stretch_low C.stretches a.point p), filled_start C a.point a.vertex a.out.now p, least_start C a.point p)

pub bounds-self-i : goal.bounds-self-i
bounds-self-i c = on_in c.args.self.now.chained c.loop-place.invariant.0 (omega arith)

pub put_where-requires : goal.put_where-requires
put_where-requires c =
    let i = c.loop-place.invariant in
    omega (arith, on_in c.args.self.now.chained i.0 (omega arith), i.1.long)

pub bounds-self-i-in-loop-place : goal.bounds-self-i-in-loop-place
bounds-self-i-in-loop-place c =
    let C = c.args.self.now.chained in omega (arith, on_in C c.loop-place.invariant.0 (omega arith), C.stretches.few)

pub loop-place-smaller : goal.loop-place-smaller
loop-place-smaller c = on_less c.args.self.now.chained c.loop-place.invariant.0 (omega arith)

pub loop-place-preserved : goal.loop-place-preserved
loop-place-preserved c =
    let a = c.args in
    let C = a.self.now.chained in
    let i = c.loop-place.invariant in (
      on_next C i.0 (omega arith),
      filled_on C a.point a.vertex a.out.now i.0 (omega arith) i.1 c.requires.1 _ c.put_where.ensures,
      rw c.nearer-next.ensures (least_on C a.point i.0 (omega arith) i.2),
    )

pub returns : goal.returns
returns c =
    let l = c.loop-place in
    let z : l.place ≡ 0 = omega arith in
    record { filled = rw z at l.invariant.1; ahead = least_end c.args.self.now.chained c.args.point (rw z at l.invariant.2) }
