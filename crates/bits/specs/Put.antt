-- What a lent buffer holds after a word or a field was put into it, and what the call says. `sets s i l` is s with the
-- list l stored from place i on.
use Rattle.std.specs.Prelude.{ℕ, zero, suc, ◌+◌, ◌-◌, ◌*◌, ◌/◌, ◌%◌, ◌^◌, cond, ◌&&◌, List, [], ◌∷◌, ◌++◌, length}
use Rattle.std.specs.Prelude.{nat_le, Result}
use Rattle.std.proofs.lemmas.List.Edits.{sets}
use Rattle.bits.specs.Verdict.{Verdict, needs, within, width_limited}
use Rattle.bits.specs.Field.{field, capped}
use Rattle.bits.specs.Says.{fill_says}
use Rattle.bits.specs.declared.refusals.FillError.{FillError}

-- the n low bytes of x, big end first
unfoldable pub bytes_of : ℕ → ℕ → List ℕ
bytes_of zero x = []
bytes_of (suc n) x = bytes_of n (x / 256) ++ (x % 256 ∷ [])

abbrev pub put_says : Result (Unit {0}) (FillError ℕ) → Verdict (Unit {0})
put_says r = fill_says (λ u. u) (λ n. n ∷ []) r

-- ---- a word at byte p

abbrev pub word_put_answer : List ℕ → ℕ → Verdict (Unit {0})
word_put_answer s p = within (p + 4) (length s) tt (needs (capped (p + 4) ∷ []))

unfoldable pub word_put : List ℕ → ℕ → ℕ → List ℕ
word_put s p x = cond (nat_le (p + 4) (length s)) (sets s p (bytes_of 4 x)) s

-- ---- a field of w bits at bit p

-- how many bytes it touches, and how many bits of the last are free
abbrev pub touched : ℕ → ℕ → ℕ
touched p w = (p % 8 + w + 7) / 8

abbrev pub free : ℕ → ℕ → ℕ
free p w = 8 * touched p w - p % 8 - w

-- those bytes as a number: the bits before p as they were, v, and zeros
abbrev pub joined : List ℕ → ℕ → ℕ → ℕ → ℕ
joined s p w v = (field s (8 * (p / 8)) (p % 8) * 2 ^ w + v) * 2 ^ free p w

unfoldable pub bits_put : List ℕ → ℕ → ℕ → ℕ → List ℕ
bits_put s p w v = sets s (p / 8) (bytes_of (touched p w) (joined s p w v))

-- 16, then 12
abbrev pub field_put_answer : List ℕ → ℕ → ℕ → Verdict (Unit {0})
field_put_answer s p w = width_limited w (within (p + w) (8 * length s) tt (needs ((p + w + 7) / 8 ∷ [])))

-- the w low bits of x, where w is at most 32 and they fit
unfoldable pub field_put : List ℕ → ℕ → ℕ → ℕ → List ℕ
field_put s p w x = cond (nat_le w 32 && nat_le (p + w) (8 * length s)) (bits_put s p w (x % 2 ^ w)) s
