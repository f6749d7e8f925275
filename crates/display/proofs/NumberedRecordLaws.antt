-- The records of a buffer by number: how many they are, and which word is a record's point count. Assumes nothing.
use Prim.Native.Nat.{ℕ, zero, suc, ◌+◌, ◌*◌, ◌/◌, ◌<◌, ◌^◌}
use mathlib.Core.Path.{◌≡◌, refl, sym}
use mathlib.Core.List.{List, [], ◌∷◌}
use native.Mathlib.Omega.{arith}
use lib.ListN.{length, get_or, get_or-eq_default}
use Rattle.payload.specs.Records.{records_in}
use Rattle.display.specs.ShownRules.{points_of}

pub records-count : (words : List ℕ) → length (records_in words) ≡ length words / 5
unfolding records_in
records-count (e ∷ t ∷ o ∷ p ∷ n ∷ words) = omega (arith, records-count words)
records-count (e ∷ t ∷ o ∷ p ∷ []) = refl
records-count (e ∷ t ∷ o ∷ []) = refl
records-count (e ∷ t ∷ []) = refl
records-count (e ∷ []) = refl
records-count [] = refl

-- fewer than five words
few_words : (words : List ℕ) (k : ℕ) → length words < 5 → 0 ≡ get_or words (5 * k + 4) 0
few_words words k h = sym (get_or-eq_default words 0 (omega arith))

-- the fifth word
pub points_word : (words : List ℕ) (k : ℕ) → points_of words k ≡ get_or words (5 * k + 4) 0
unfolding points_of records_in
points_word (e ∷ t ∷ o ∷ p ∷ n ∷ words) zero = refl
points_word (e ∷ t ∷ o ∷ p ∷ n ∷ words) (suc k) =
    let i : 5 * suc k + 4 ≡ suc (suc (suc (suc (suc (5 * k + 4))))) = omega arith in
    rw i (points_word words k)
points_word (e ∷ t ∷ o ∷ p ∷ []) k = few_words (e ∷ t ∷ o ∷ p ∷ []) k (omega arith)
points_word (e ∷ t ∷ o ∷ []) k = few_words (e ∷ t ∷ o ∷ []) k (omega arith)
points_word (e ∷ t ∷ []) k = few_words (e ∷ t ∷ []) k (omega arith)
points_word (e ∷ []) k = few_words (e ∷ []) k (omega arith)
points_word [] k = few_words [] k (omega arith)

-- words of 32 bits
pub points_small : (words : List ℕ) → ((k : ℕ) → get_or words k 0 < 2 ^ 32) → (k : ℕ) → points_of words k < 2 ^ 32
points_small words w k = omega (arith, points_word words k, w (5 * k + 4))
