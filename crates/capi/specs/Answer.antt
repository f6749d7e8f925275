-- How a verdict crosses to C: an i64, and words in a lent slice.
use Rattle.std.specs.Prelude.{ℕ, Bool, true, false, cond, List, [], ◌∷◌, length, ℤ, pos, negsuc, neg_ℤ, nat_le}
use Rattle.std.proofs.lemmas.List.Edits.{sets}
use Rattle.bits.specs.Verdict.{Verdict, accepted, needs, declined}

-- the i64: how many words the value has, -12 where a buffer is too short, -k for refusal k
unfoldable pub code_of : Verdict (List ℕ) → ℤ
code_of (accepted ws) = pos (length ws)
code_of (needs ws) = negsuc 11
code_of (declined k) = neg_ℤ (pos k)

-- the words: the value's, or the lengths that the buffers need
abbrev pub words_of : Verdict (List ℕ) → List ℕ
words_of (accepted ws) = ws
words_of (needs ws) = ws
words_of (declined k) = []

-- d with ws stored from place 0 on, where they fit
unfoldable pub stored : List ℕ → List ℕ → List ℕ
stored d ws = cond (nat_le (length ws) (length d)) (sets d 0 ws) d

-- what the lent words d are afterwards
unfoldable pub words_after : List ℕ → Verdict (List ℕ) → List ℕ
words_after d v = stored d (words_of v)

-- the words of a value of each kind
abbrev pub none : Unit {0} → List ℕ
none u = []

abbrev pub one : ℕ → List ℕ
one a = a ∷ []

abbrev pub two : ℕ × ℕ → List ℕ
two v = v.0 ∷ v.1 ∷ []

abbrev pub three : ℕ × ℕ × ℕ → List ℕ
three v = v.0 ∷ v.1 ∷ v.2 ∷ []

-- an answer that is a number and no words: the number itself; -12 and -k as above
abbrev pub numbered : Verdict ℕ → ℤ
numbered (accepted k) = pos k
numbered (needs ws) = negsuc 11
numbered (declined k) = neg_ℤ (pos k)

-- an answer that is yes or no
abbrev pub truth : Bool → ℤ
truth true = pos 1
truth false = pos 0
