-- `fill_pairs` meets its contract: storing the numbers that are left gives what storing all at first gives. Assumes nothing.
use Rattle.std.proofs.Common.{◌≡◌, ℕ, ◌+◌, ◌-◌, ◌*◌, List, [], ◌∷◌, length, sym, refl, ap, ◌∙◌, arith}
use lib.Seq.{sets}
use Rattle.bits.specs.Number.{stepped_to}
use Rattle.bits.specs.Run.{low16}
use Rattle.bits.proofs.JudgedLaws.{next_group}
use Rattle.bits.proofs.SummedLaws.{length_summed, summed_none, summed_one, summed_two, stored_on, stored_end}
use Rattle.bits.proofs.fields.runs.fill_pairs.Goals as goal

pub loop-i-preserved : goal.loop-i-preserved
loop-i-preserved c =
    let a = c.args in
    let l = c.loop-i in
    let n = length a.out.now in
    let x = c.low_half-a in
    let y = c.low_half-last in
    let u = c.put_two in
    let z : 2 * (l.i + 1) ≡ 2 * l.i + 2 = omega arith in
    let ex = x.ensures ∙ ap low16 (c.stepped.ensures ∙ ap (stepped_to l.last) c.two_inside-f.ensures.0) in
    let ey = y.ensures ∙ ap low16 (c.stepped-in-loop-i.ensures ∙ ap (stepped_to x.result) c.two_inside-f.ensures.1) in
    let k = summed_two a.s.now a.width (n - 2 * l.i) l.bit l.last x.result y.result (omega arith) ex ey in record {
      storing = rw z (stored_on l.invariant.storing (x.result ∷ y.result ∷ []) u.new.out (y.result ∷ []) 2
          (l.bit + 2 * a.width) refl (omega arith) k u.ensures u.auto.out);
      inside = (next_group 2 n l.i a.width l.bit (omega arith) l.invariant.inside).1;
    }

pub returns-then-n-eq1 : goal.returns-then-n-eq1
returns-then-n-eq1 c =
    let a = c.args in
    let l = c.loop-i in
    let s = a.s.now in
    let n = length a.out.now in
    let x = c.low_half.result in
    let p : n - 1 ≡ 2 * l.i = omega arith in
    let e = summed_one s a.width (n - 2 * l.i) l.bit l.last [] x (omega arith)
    (c.low_half.ensures ∙ ap low16 (c.stepped-then-n-eq1.ensures ∙ ap (stepped_to l.last) c.one_inside.ensures)) in
    let o = summed_none s a.width (n - 2 * l.i - 1) (l.bit + a.width) (x ∷ []) (omega arith) in record {
      numbers = rw p (ap (sets l.out (2 * l.i)) {x = x ∷ []} (sym (e ∙ ap (λ (t : List ℕ). x ∷ t) o))
          ∙ stored_end l.invariant.storing (length_summed s a.width n a.start (a.from ∷ [])));
    }

pub returns-else-n-eq1 : goal.returns-else-n-eq1
returns-else-n-eq1 c =
    let a = c.args in
    let l = c.loop-i in
    let s = a.s.now in
    let n = length a.out.now in
    let z = summed_none s a.width (n - 2 * l.i) l.bit (l.last ∷ []) (omega arith) in record {
      numbers = ap (sets l.out (2 * l.i)) (sym z) ∙ stored_end l.invariant.storing (length_summed s a.width n a.start (a.from ∷ []));
    }
