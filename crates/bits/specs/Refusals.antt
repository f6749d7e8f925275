-- Which refusals a call can give, by their numbers in documents 01 and 02, and 12 only where it is listed; and of each
-- call of this crate that can refuse, which. The proofs are in proofs/Theorems.antt.
use Rattle.std.specs.Prelude.{◌≡◌, ℕ, ◌+◌, ◌*◌, Bool, true, false, ◌||◌, List, [], ◌∷◌, ℤ, pos, neg_ℤ, ◌==◌}
use Rattle.bits.specs.Verdict.{Verdict, accepted, needs, declined, limited, and_then}
use Rattle.bits.specs.Read.{number_at, place_in, field_at, two_at}
use Rattle.bits.specs.Number.{ran_on, width_of}
use Rattle.bits.specs.Run.{zeros, read_run, judged}
use Rattle.bits.specs.Header.{header_at, placed}
use Rattle.bits.specs.Put.{word_put_answer, field_put_answer}

-- k is one of these numbers
abbrev pub among : ℕ → List ℕ → Bool
among k [] = false
among k (j ∷ ks) = k == j || among k ks

-- a value, or a refusal with one of these numbers, and never 12
pub data Refuses {A : Type 0} (ks : List ℕ) : Verdict A → Type 0 where
  gives : (a : A) → Refuses ks (accepted a)
  refuses : (k : ℕ) → among k ks ≡ true → Refuses ks (declined k)

-- the same, or 12, the lengths that the lent buffers need
pub data RefusesOr12 {A : Type 0} (ks : List ℕ) : Verdict A → Type 0 where
  listed : {v : Verdict A} → Refuses ks v → RefusesOr12 ks v
  asks : (l : List ℕ) → RefusesOr12 ks (needs l)

-- something said of an answer and of the numbers that are listed for it
abbrev pub Claim : Type 1
Claim = (A : Type 0) → List ℕ → Verdict A → Type 0

-- of each call but the three of fields, what its contract says that it answers: `Or12` where 12 is one of its numbers
-- too; of a box header with the refusal of its long size told as the answer's
pub record EachCall (Plain Or12 : Claim) : Type 0 where
  -- whole bytes
  pub seek : (s : List ℕ) (to : ℕ) → Plain _ (3 ∷ []) (place_in s to)
  pub skip : (s : List ℕ) (p n : ℕ) → Plain _ (3 ∷ []) (place_in s (p + n))
  pub u8 : (s : List ℕ) (p : ℕ) → Plain _ (3 ∷ []) (number_at 1 s p)
  pub u32 : (s : List ℕ) (p : ℕ) → Plain _ (3 ∷ []) (number_at 4 s p)
  pub box_header : (s : List ℕ) (p : ℕ) → Plain _ (3 ∷ 6 ∷ []) (and_then (header_at s p) placed)
  -- running numbers and runs of them
  pub run_on : (limit last f : ℕ) → Plain _ (8 ∷ []) (ran_on limit last f)
  pub check_run : (s : List ℕ) (limit count p : ℕ)
      → Plain _ (2 ∷ 3 ∷ 8 ∷ []) (limited s (judged (read_run s (width_of limit) limit count p (zeros 1))))
  pub check_fives : (s : List ℕ) (limit count p : ℕ)
      → Plain _ (2 ∷ 3 ∷ 8 ∷ []) (limited s (judged (read_run s (width_of limit) limit (5 * count) p (zeros 5))))
  -- a word that is put
  pub put_word : (s : List ℕ) (p : ℕ) → Or12 _ [] (word_put_answer s p)

-- each refuses with the numbers that are listed for it alone
pub record Refusals : Type 0 where
  pub each : EachCall (λ A ks v. Refuses ks v) (λ A ks v. RefusesOr12 ks v)
  -- a field that is read, two of them, and one that is put
  pub read : (s : List ℕ) (p w : ℕ) → Refuses (16 ∷ 3 ∷ []) (field_at s p w)
  pub read_two : (s : List ℕ) (p w : ℕ) → Refuses (16 ∷ 3 ∷ []) (two_at s p w)
  pub put_field : (s : List ℕ) (p w : ℕ) → RefusesOr12 (16 ∷ []) (field_put_answer s p w)

-- it is not refusal k
abbrev pub NeverDeclines : ℕ → Claim
NeverDeclines k A ks v = v ≡ declined k → ⊥

-- 16 is no answer of a call but those three
abbrev pub NeverSixteen : Type 0
NeverSixteen = EachCall (NeverDeclines 16) (NeverDeclines 16)

-- an answer that crosses to C as an i64 is not -k
abbrev pub NotMinus : ℕ → ℤ → Type 0
NotMinus k z = z ≡ neg_ℤ (pos k) → ⊥
