-- The counts after a line.
use Rattle.std.specs.Prelude.{ℕ, ◌+◌, ◌%◌, ◌^◌, slice_index_or, slice_set}
use Rattle.replay.specs.declared.tally.Counts.{Counts}
use Rattle.replay.specs.declared.tally.Tally.{Tally}
use Rattle.replay.specs.declared.line.Judgement.{Judgement}
use Rattle.replay.specs.declared.line.Judgement.TheVariants as W

abbrev pub one_more : ℕ → ℕ
one_more n = (n + 1) % 2 ^ 64

-- the counts of a call
abbrev pub counts_of : Tally → ℕ → Counts
counts_of t call = slice_index_or t.calls call (record { same = 0; different = 0 })

-- a line that was the same or different is counted at its call, one that could not be read apart, and a comment not
unfoldable pub noted : Judgement → Tally → Tally
noted W.Comment t = t
noted W.Unreadable t = record t { unreadable = one_more t.unreadable }
noted (W.Same call) t =
    let n = counts_of t call.value in
    record t { calls = slice_set t.calls call.value (record n { same = one_more n.same }) }
noted (W.Different call) t =
    let n = counts_of t call.value in
    record t { calls = slice_set t.calls call.value (record n { different = one_more n.different }) }
