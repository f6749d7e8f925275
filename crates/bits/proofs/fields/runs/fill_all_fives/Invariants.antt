-- `fill_all_fives` meets its contract: storing the numbers that are left gives what storing all at first gives. Assumes nothing.
use Rattle.std.proofs.Common.{◌-◌, ◌*◌}
use Rattle.bits.specs.Run.{zeros, summed}
use Rattle.bits.specs.Internal.{Inside, five}
use Rattle.bits.proofs.SummedLaws.{Storing}
use Rattle.bits.proofs.fields.runs.fill_all_fives.Given as goal

abbrev pub invariant-loop-i : goal.invariant-loop-i
invariant-loop-i l = record {
  storing : Storing l.s l.width l.initial.out (summed l.s l.width l.n l.start (zeros 5)) l.out l.n (5 * l.i) l.bit (five l.v);
  inside : Inside l.s l.bit ((l.n - 5 * l.i) * l.width);
}
