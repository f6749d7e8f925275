-- What a call says, in the words of document 01: a value, the lengths that the lent buffers need (its number 12), or
-- the number of a refusal, document 01's or document 02's.
use Rattle.std.specs.Prelude.{ℕ, cond, List, length, nat_le}

pub data Verdict (A : Type 0) : Type 0 where
  accepted : A → Verdict A
  needs : List ℕ → Verdict A
  declined : ℕ → Verdict A

-- the value v where m is at most n, and the other verdict where it is not
unfoldable pub within : {A : Type 0} → ℕ → ℕ → A → Verdict A → Verdict A
within m n v other = cond (nat_le m n) (accepted v) other

-- 2 where a payload, or a body, is longer than 67,108,864 bytes
unfoldable pub limited : {A : Type 0} → List ℕ → Verdict A → Verdict A
limited s v = cond (nat_le (length s) 67108864) v (declined 2)

-- 16 where a field is wider than 32 bits
unfoldable pub width_limited : {A : Type 0} → ℕ → Verdict A → Verdict A
width_limited w v = cond (nat_le w 32) v (declined 16)

-- one step after another: the first refusal stands
abbrev pub and_then : {A B : Type 0} → Verdict A → (A → Verdict B) → Verdict B
and_then (accepted v) f = f v
and_then (needs l) f = needs l
and_then (declined k) f = declined k

-- the same verdict on another value
abbrev pub mapped : {A B : Type 0} → (A → B) → Verdict A → Verdict B
mapped f v = and_then v (λ x. accepted (f x))
