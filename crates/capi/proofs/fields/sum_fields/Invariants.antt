-- `sum_fields` meets its contract: the sum so far, joined with the total from here, is the total from the start.
-- Assumes nothing.
use Rattle.std.proofs.Common.{◌≡◌, ◌-◌}
use Rattle.bits.specs.Verdict.{mapped}
use Rattle.capi.specs.Total.{total_at, wrapped}
use Rattle.capi.proofs.Totals.{total}
use Rattle.capi.proofs.fields.sum_fields.Given as goal

abbrev pub invariant-loop : goal.invariant-loop
invariant-loop l =
    mapped wrapped (total_at l.s l.width l.count 0) ≡ total l.s l.width (l.count - l.counter) l.here.bit l.sum
