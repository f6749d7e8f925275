-- The list as `show` and `hide` are handed it, with its total: what may be handed in, what is said, and what is handed
-- back.
use Rattle.std.specs.Prelude.{ℕ, List, [], ◌∷◌, Bool, true, cond, not, ◌&&◌, leb, eqb, length, take, replicate, Result}
use Rattle.bits.specs.Refusals.{among}
use Rattle.bits.specs.Verdict.{Verdict, accepted, needs, declined}
use Rattle.payload.specs.Lent.{◌onto◌}
use Rattle.payload.specs.MeshWrite.{all_below}
use Rattle.payload.specs.Records.{records_in}
use Rattle.display.specs.ShownRules.{Request, points_of_all, ruled, changed}
use Rattle.display.specs.declared.shown.Shown.{Shown}
use Rattle.bits.specs.Says.{says}
use Rattle.bits.specs.declared.refusals.Refusal.{Refusal}

-- the numbers at the front of the array
abbrev pub shown_numbers : Shown → List ℕ
shown_numbers s = take s.count s.entries

-- nothing is shown
abbrev pub none_shown : Shown
none_shown = record { entries = replicate 64 0; count = 0; total = 0 }

-- no number stands twice
unfoldable pub distinct : List ℕ → Bool
distinct [] = true
distinct (n ∷ l) = not (among n l) && distinct l

-- numbers of records, none twice
abbrev pub record_numbers : List ℕ → List ℕ → Bool
record_numbers words l = distinct l && all_below (length (records_in words)) l

-- what may be handed in: at most 64 numbers of records, none twice, and the total that of their points
unfoldable pub shown_usable : List ℕ → Shown → Bool
shown_usable words s =
    leb s.count 64
    && (record_numbers words (shown_numbers s) && eqb s.total (points_of_all words (shown_numbers s)))

-- the numbers after a request, or its refusal: 19 for what is handed in, and then the rules of the plain list
unfoldable pub called : List ℕ → Shown → Request → Verdict (List ℕ)
called words s q = cond (shown_usable words s) (ruled words (shown_numbers s) q) (declined 19)

abbrev pub change_says : Result (Unit {0}) Refusal → Verdict (Unit {0})
change_says r = says (λ u. u) r

-- numbers kept: at the front of the array, with all behind them as it was, and their points' total
unfoldable pub keeping : List ℕ → Shown → List ℕ → Shown
keeping words s l = record { entries = l onto s.entries; count = length l; total = points_of_all words l }

-- what is handed back: after a refusal, what was handed in
abbrev pub handed_back : List ℕ → Shown → Verdict (List ℕ) → Shown
handed_back words s (accepted l) = keeping words s l
handed_back words s (needs k) = s
handed_back words s (declined k) = s

abbrev pub shown_after : List ℕ → Shown → Request → Shown
shown_after words s q = handed_back words s (called words s q)

-- what is handed back after requests in a row, and what was said of each
unfoldable pub kept_after : List ℕ → Shown → List Request → Shown
kept_after words s [] = s
kept_after words s (q ∷ requests) = kept_after words (shown_after words s q) requests

unfoldable pub kept_said : List ℕ → Shown → List Request → List (Verdict (Unit {0}))
kept_said words s [] = []
kept_said words s (q ∷ requests) = changed (called words s q) ∷ kept_said words (shown_after words s q) requests
