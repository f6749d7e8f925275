-- The sum of fields that stand one after the other.
use Rattle.std.specs.Prelude.{ℕ, zero, suc, ◌+◌, ◌%◌, ◌^◌, List, [], ◌∷◌}
use Rattle.bits.specs.Verdict.{Verdict, accepted, needs, declined, width_limited}
use Rattle.bits.specs.Read.{field_at}

-- a field's value and the total of those after it; the first refusal decides
unfoldable pub plus : Verdict (ℕ × ℕ) → Verdict ℕ → Verdict ℕ
plus (accepted v) (accepted n) = accepted (v.0 + n)
plus (accepted v) (needs ws) = needs ws
plus (accepted v) (declined k) = declined k
plus (needs ws) t = needs ws
plus (declined k) t = declined k

-- the sum of n fields of w bits from bit p on: what the first of them that is refused gets
unfoldable pub total_at : List ℕ → ℕ → ℕ → ℕ → Verdict ℕ
total_at s w zero p = accepted 0
total_at s w (suc n) p = plus (field_at s p w) (total_at s w n (p + w))

-- the sum of n fields of w bits from bit 0 on: 16, whatever n is, then 3
abbrev pub total_of : List ℕ → ℕ → ℕ → Verdict ℕ
total_of s w n = width_limited w (total_at s w n 0)

-- a total as a word: modulo 2^64
abbrev pub wrapped : ℕ → List ℕ
wrapped n = n % 2 ^ 64 ∷ []
