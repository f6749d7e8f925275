-- What a reply of the code stands for.
use Rattle.std.specs.Prelude.{◌≡◌, ℕ, ◌≤◌, List, length, take, ℤ}
use Rattle.bits.specs.Verdict.{Verdict}
use Rattle.capi.specs.Answer.{code_of, words_of}
use Rattle.capi.specs.declared.Reply.{Reply}

-- the words that it uses
abbrev pub used_words : Reply → List ℕ
used_words r = take r.used r.words

-- it has this code and uses these words
pub record Holds (r : Reply) (z : ℤ) (ws : List ℕ) : Type 0 where
  pub code : r.code ≡ z
  pub words : used_words r ≡ ws
  pub there : r.used ≤ length r.words

-- it has a verdict's
abbrev pub Says : Reply → Verdict (List ℕ) → Type 0
Says r v = Holds r (code_of v) (words_of v)
