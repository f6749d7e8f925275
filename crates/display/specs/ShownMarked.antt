-- A case worked out by computation: two records, of 30 and 12 points, and a word more.
use Rattle.std.specs.Prelude.{ℕ, ◌≡◌, List, [], ◌∷◌}
use Rattle.bits.specs.Verdict.{accepted, declined}
use Rattle.display.specs.ShownRules.{Request, showing, hiding}
use Rattle.display.specs.ShownKept.{none_shown, shown_numbers, kept_after, kept_said}

abbrev pub words : List ℕ
words = 0 ∷ 0 ∷ 0 ∷ 0 ∷ 30 ∷ 0 ∷ 7 ∷ 1 ∷ 30 ∷ 12 ∷ 5 ∷ []

abbrev pub requests : List Request
requests = showing 1 ∷ showing 0 ∷ showing 1 ∷ showing 2 ∷ hiding 1 ∷ hiding 1 ∷ []

pub record ShownMarked : Type 0 where
  pub order : shown_numbers (kept_after words none_shown requests) ≡ 0 ∷ []
  pub total : (kept_after words none_shown requests).total ≡ 30
  pub said : kept_said words none_shown requests
      ≡ accepted tt ∷ accepted tt ∷ declined 19 ∷ declined 19 ∷ accepted tt ∷ declined 20 ∷ []
