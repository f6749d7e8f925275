-- What the contracts of the private functions of `show` and `hide` cite. No promise of a public call leans on these.
use Rattle.std.specs.Prelude.{ℕ, ◌+◌, List, cond, ◌&&◌, Result, Err}
use Rattle.bits.specs.Verdict.{Verdict, accepted, declined}
use Rattle.bits.specs.Says.{says}
use Rattle.bits.specs.declared.refusals.Refusal.{Refusal}
use Rattle.payload.specs.Firsts.{place_of}
use Rattle.display.specs.ShownRules.{is_record, points_of_all}
use Rattle.display.specs.ShownKept.{shown_numbers, record_numbers, shown_usable}
use Rattle.display.specs.declared.shown.Shown.{Shown}
use Rattle.display.specs.declared.shown.ShownAnswer.{ShownAnswer}

-- a sum of points on top of t, where the list is one of records with none twice
unfoldable pub summed_from : List ℕ → ℕ → List ℕ → Verdict ℕ
summed_from words t l = cond (record_numbers words l) (accepted (t + points_of_all words l)) (declined 19)

abbrev pub sum_says : Result ℕ Refusal → Verdict ℕ
sum_says r = says (λ t. t) r

-- where a record's number stands among the shown ones, or how many they are
unfoldable pub judged : List ℕ → Shown → ℕ → Verdict ℕ
judged words s n =
    cond (shown_usable words s && is_record words n) (accepted (place_of n (shown_numbers s))) (declined 19)

abbrev pub judged_says : Result ℕ Refusal → Verdict ℕ
judged_says r = says (λ k. k) r

-- a refusal hands back what was handed in
abbrev pub refused : Refusal → Shown → ShownAnswer
refused r s = record { answer = Err r; shown = s }
