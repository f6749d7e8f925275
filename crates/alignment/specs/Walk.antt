-- The walk over the fields of a submesh's points: a run of one step.
use Rattle.std.specs.Prelude.{ℕ, zero, suc, ◌+◌, List}
use Rattle.bits.specs.Verdict.{Verdict, accepted, and_then, mapped}
use Rattle.bits.specs.Number.{ran_on, width_of}
use Rattle.bits.specs.Read.{field_at}
use Rattle.bits.specs.declared.fields.runs.Run.{Run}
use Rattle.alignment.specs.declared.walk.Walk.{Walk}

-- before the first field, which stands at bit p
abbrev pub start : ℕ → Walk
start p = record { bit = p; number = 0; taken = 0 }

-- one step: one field of width w is read, which takes the running number on, and the place goes past it; one field more
-- is taken. 16 where w is above 32, 3 where the field is not there, 8 where the number leaves the limit.
unfoldable pub step : List ℕ → ℕ → ℕ → Walk → Verdict Walk
step s w limit v =
    and_then (field_at s v.bit w) (λ f.
    mapped (λ next. record { bit = f.1; number = next; taken = v.taken + 1 }) (ran_on limit v.number f.0))

-- n steps from the start
unfoldable pub walk : List ℕ → ℕ → ℕ → ℕ → ℕ → Verdict Walk
walk s w limit p zero = accepted (start p)
walk s w limit p (suc n) = and_then (walk s w limit p n) (step s w limit)

-- over a run
abbrev pub walk_of : List ℕ → Run → ℕ → Verdict Walk
walk_of s run n = walk s (width_of run.limit) run.limit run.bit n
