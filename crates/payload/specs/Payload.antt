-- What kinds 0 and 1 begin with: the version byte and three free bytes.
use Rattle.std.specs.Prelude.{ℕ, ◌+◌, cond, List, ◌==◌, Result}
use Rattle.bits.specs.Verdict.{Verdict, declined, and_then}
use Rattle.bits.specs.Read.{number_at, place_in}
use Rattle.bits.specs.Says.{says}
use Rattle.bits.specs.declared.refusals.Refusal.{Refusal}
use Rattle.bits.specs.declared.bytes.ByteCursor.{ByteCursor}

-- the version byte, which is 0, and three free bytes: the place after them
unfoldable pub full_box : List ℕ → Verdict ℕ
full_box s = and_then (number_at 1 s 0) (λ version. cond (version.0 == 0) (place_in s (version.1 + 3)) (declined 4))

abbrev pub full_box_says : Result ByteCursor Refusal → Verdict ℕ
full_box_says r = says (λ c. c.at) r
