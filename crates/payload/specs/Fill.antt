-- Lists made piece by piece, what a call says that fills one lent buffer, and the lengths of two lists.
use Rattle.std.specs.Prelude.{ℕ, zero, suc, List, [], ◌∷◌, ◌++◌, length, Result}
use Rattle.bits.specs.Verdict.{Verdict, and_then, mapped}
use Rattle.bits.specs.Says.{says, fill_says}
use Rattle.bits.specs.declared.refusals.Refusal.{Refusal}
use Rattle.bits.specs.declared.refusals.FillError.{FillError}
use Rattle.payload.specs.declared.answers.GridLengths.{GridLengths}

-- f 0, f 1, .. f (n - 1), one after the other
unfoldable pub each : {A : Type 0} → (ℕ → List A) → ℕ → List A
each f zero = []
each f (suc n) = each f n ++ f n

abbrev pub filled_says : Result ℕ (FillError ℕ) → Verdict ℕ
filled_says r = fill_says (λ n. n) (λ n. n ∷ []) r

-- ---- the lengths of two lists, or the first refusal

abbrev pub both_lengths : Verdict (List ℕ) → Verdict (List ℕ) → Verdict (ℕ × ℕ)
both_lengths v w = and_then v (λ l. mapped (λ m. (length l, length m)) w)

abbrev pub grid_lengths_says : Result GridLengths Refusal → Verdict (ℕ × ℕ)
grid_lengths_says r = says (λ n. (n.numbers, n.floats)) r
