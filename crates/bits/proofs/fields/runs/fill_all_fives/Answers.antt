-- `fill_all_fives` meets its contract: storing the numbers that are left gives what storing all at first gives. Assumes nothing.
use Rattle.std.proofs.Common.{◌≡◌, ◌+◌, ◌-◌, ◌*◌, length, sym, refl, ap, ◌∙◌, arith}
use lib.Seq.{sets}
use Rattle.bits.specs.Run.{zeros}
use Rattle.bits.specs.Internal.{five}
use Rattle.bits.proofs.RunLaws.{five-to}
use Rattle.bits.proofs.JudgedLaws.{next_group}
use Rattle.bits.proofs.SummedLaws.{length_summed, summed_none, summed_kept, stored_on, stored_end}
use Rattle.bits.proofs.fields.runs.fill_all_fives.Goals as goal

pub loop-i-preserved : goal.loop-i-preserved
loop-i-preserved c =
    let a = c.args in
    let l = c.loop-i in
    let n = length a.out.now in
    let v = c.low_five-v in
    let u = c.put_five in
    let z : 5 * (l.i + 1) ≡ 5 * l.i + 5 = omega arith in
    let k = summed_kept a.s.now a.width (n - 5 * l.i) l.bit l.v c.move_five.result v.result (omega arith)
    (five-to c.five_inside.ensures c.move_five.ensures) v.ensures in record {
      storing = rw z (stored_on l.invariant.storing (five v.result) u.new.out (five v.result) 5 (l.bit + 5 * a.width) refl
          (omega arith) k u.ensures u.auto.out);
      inside = (next_group 5 n l.i a.width l.bit (omega arith) l.invariant.inside).1;
    }

pub returns : goal.returns
returns c =
    let a = c.args in
    let l = c.loop-i in
    let n = length a.out.now in
    let z = summed_none a.s.now a.width (n - 5 * l.i) l.bit (five l.v) (omega arith) in record {
      numbers = ap (sets l.out (5 * l.i)) (sym z) ∙ stored_end l.invariant.storing (length_summed a.s.now a.width n a.start (zeros 5));
    }
