-- `check_turns` meets its contract. The invariant: the answer from here on is the whole answer. Assumes nothing.
use Rattle.std.proofs.Common.{◌≡◌, ◌-◌, not, nat_eq}
use Rattle.bits.specs.Run.{read_run, judged}
use Rattle.bits.specs.Internal.{turns, at_start}
use Rattle.bits.proofs.fields.runs.check_turns.Given as goal

abbrev pub invariant-loop : goal.invariant-loop
invariant-loop g l =
    judged (read_run l.s l.width l.limit l.count l.start (at_start (not (nat_eq g.row.ALONE 0))))
    ≡ judged (read_run l.s l.width l.limit (l.count - l.counter) l.bit (turns (not (nat_eq g.row.ALONE 0)) l.v))
