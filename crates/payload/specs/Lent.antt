-- The rule for lent buffers: what a call says that is to fill them, and what it leaves in them.
use Rattle.std.specs.Prelude.{ℕ, ◌/◌, Bool, true, false, cond, ◌&&◌, List, [], ◌∷◌, ◌++◌, map, length, drop, nat_le}
use Rattle.std.specs.Borrow.{MutBor}
use denote.Triple.Both.{Both}
use Rattle.bits.specs.Verdict.{Verdict, accepted, needs, declined, mapped}

-- what a call is to answer, and to put into the buffers: a list for each, in their order
pub record Plan (A : Type 0) : Type 0 where
  pub answer : A
  pub lists : List (List ℕ)

-- no list is longer than its buffer
abbrev pub all_fit : List (List ℕ) → List (List ℕ) → Bool
all_fit [] buffers = true
all_fit (l ∷ lists) [] = false
all_fit (l ∷ lists) (b ∷ buffers) = nat_le (length l) (length b) && all_fit lists buffers

-- a list, and beyond it what stood there
infix 60 ◌onto◌
abbrev pub ◌onto◌ : List ℕ → List ℕ → List ℕ
l onto b = l ++ drop (length l) b

-- each list onto its buffer
abbrev pub all_onto : List (List ℕ) → List (List ℕ) → List (List ℕ)
all_onto [] buffers = buffers
all_onto (l ∷ lists) [] = []
all_onto (l ∷ lists) (b ∷ buffers) = (l onto b) ∷ all_onto lists buffers

-- what the call says: the answer where all lists fit, and else the length of every list (12)
unfoldable pub answer_for : {A : Type 0} → Verdict (Plan A) → List (List ℕ) → Verdict A
answer_for (accepted p) buffers =
    cond (all_fit p.lists buffers) (accepted p.answer) (needs (map length p.lists))
answer_for (needs n) buffers = needs n
answer_for (declined k) buffers = declined k

-- the buffers afterwards: each list onto its buffer where all lists fit, and else all as they were
unfoldable pub buffers_after : {A : Type 0} → Verdict (Plan A) → List (List ℕ) → List (List ℕ)
buffers_after (accepted p) buffers = cond (all_fit p.lists buffers) (all_onto p.lists buffers) buffers
buffers_after (needs n) buffers = buffers
buffers_after (declined k) buffers = buffers

-- a list for one buffer; the answer counts it in items of u elements
abbrev pub in_items : ℕ → Verdict (List ℕ) → Verdict (Plan ℕ)
in_items u v = mapped (λ l. record { answer = length l / u; lists = l ∷ [] }) v

-- ---- a function's parameters, as its clauses see them

-- a slice that is lent
abbrev pub Lent : Type 0
Lent = Both (MutBor (List ℕ)) (MutBor (List ℕ))

-- what lent slices hold at entry
abbrev pub at_entry : List Lent → List (List ℕ)
at_entry slices = map (λ s. s.entry.now) slices
