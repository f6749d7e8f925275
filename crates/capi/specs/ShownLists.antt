-- How a list of shown submeshes crosses to C: its 64 entries are the first of a lent buffer, and its count and its
-- total are handed over beside them. The words of an answer that changed the list are the count and the total that it
-- has then.
use Rattle.std.specs.Prelude.{ℕ, cond, List, [], ◌∷◌, length, take, nat_le}
use Rattle.bits.specs.Verdict.{Verdict, accepted, needs, declined, mapped}
use Rattle.payload.specs.Lent.{Plan, ◌onto◌}
use Rattle.display.specs.ShownRules.{Request}
use Rattle.display.specs.ShownKept.{none_shown, called, keeping}
use Rattle.display.specs.declared.shown.Shown.{Shown}

-- the list that is handed in
abbrev pub list_of : List ℕ → ℕ → ℕ → Shown
list_of entries count total = record { entries = take 64 entries; count = count; total = total }

-- a call is to answer the list's count and total, and to put its 64 entries into the buffer
abbrev pub list_plan : Shown → Plan (ℕ × ℕ)
list_plan s = record { answer = (s.count, s.total); lists = s.entries ∷ [] }

-- nothing shown: count and total are 0, and all entries
abbrev pub none_plan : Plan (ℕ × ℕ)
none_plan = list_plan none_shown

-- what the call itself says of the list that is handed in, with the list that it keeps
abbrev pub kept_plan : List ℕ → Shown → Request → Verdict (Plan (ℕ × ℕ))
kept_plan words s q = mapped (λ l. list_plan (keeping words s l)) (called words s q)

-- 12 where the buffer has fewer than 64 entries, before anything is judged; then what the call says
unfoldable pub list_called : List ℕ → List ℕ → ℕ → ℕ → Request → Verdict (Plan (ℕ × ℕ))
list_called words entries count total q =
    cond (nat_le 64 (length entries)) (kept_plan words (list_of entries count total) q) (needs (64 ∷ []))

-- ---- what a call of `display` said, and the list that it handed back

-- the buffer holds the list's entries where it was changed
abbrev pub entries_after : Verdict (Unit {0}) → Shown → List ℕ → List ℕ
entries_after (accepted u) s entries = s.entries onto entries
entries_after (needs l) s entries = entries
entries_after (declined k) s entries = entries
