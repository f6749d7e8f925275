-- `check_pairs` meets its contract. The invariant: the answer from here on is the whole answer. Assumes nothing.
use Rattle.std.proofs.Common.{◌≡◌, ◌-◌, ◌*◌, [], ◌∷◌}
use Rattle.bits.specs.Run.{read_run, judged}
use Rattle.bits.specs.Internal.{Inside}
use Rattle.bits.proofs.fields.runs.check_pairs.Given as goal

abbrev pub invariant-loop : goal.invariant-loop
invariant-loop l = record {
  same :
      judged (read_run l.s l.width l.limit l.fn.run.count l.fn.run.bit (l.from ∷ []))
      ≡ judged (read_run l.s l.width l.limit (l.fn.run.count - 2 * l.counter) l.bit (l.last ∷ []));
  inside : Inside l.s l.bit ((l.fn.run.count - 2 * l.counter) * l.width);
}
