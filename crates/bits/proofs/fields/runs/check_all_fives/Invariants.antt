-- `check_all_fives` meets its contract. The invariant: the answer from here on is the whole answer. Assumes nothing.
use Rattle.std.proofs.Common.{◌≡◌, ◌-◌, ◌*◌}
use Rattle.bits.specs.Run.{zeros, read_run, judged}
use Rattle.bits.specs.Internal.{Inside, five}
use Rattle.bits.proofs.fields.runs.check_all_fives.Given as goal

abbrev pub invariant-loop : goal.invariant-loop
invariant-loop l = record {
  same :
      judged (read_run l.s l.width l.limit (5 * l.fn.run.count) l.fn.run.bit (zeros 5))
      ≡ judged (read_run l.s l.width l.limit (5 * l.fn.run.count - 5 * l.counter) l.bit (five l.v));
  inside : Inside l.s l.bit ((5 * l.fn.run.count - 5 * l.counter) * l.width);
}
