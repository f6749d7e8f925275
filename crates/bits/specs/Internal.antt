-- What the contracts of private functions cite. No promise of a public call leans on these.
use Rattle.std.specs.Prelude.{◌≡◌, ℕ, ◌+◌, ◌-◌, ◌*◌, ◌≤◌, Bool, cond, ◌&&◌, List, [], ◌∷◌, length, nat_lt, Result}
use Rattle.bits.specs.Verdict.{Verdict}
use Rattle.bits.specs.Says.{says}
use Rattle.bits.specs.Field.{field, held_bits, gathered}
use Rattle.bits.specs.Number.{stepped_to}
use Rattle.bits.specs.Run.{zeros, low16}
use Rattle.bits.specs.declared.fields.runs.Five.{Five}
use Rattle.bits.specs.declared.headers.Extent.{Extent}
use Rattle.bits.specs.declared.refusals.Refusal.{Refusal}

-- n bits from bit p on lie inside a body of at most 67,108,864 bytes, and five bytes or more end with each that follows
-- A premise of each call, and no invariant of a type: the slice is lent, and n is another from call to call.
pub record Inside (s : List ℕ) (p n : ℕ) : Type 0 where
  pub short : length s ≤ 67108864
  pub low : 33 ≤ p
  pub whole : p + n ≤ 8 * length s

-- r is what the whole bytes before bit q give, which is the number of the bits that they hold before it
pub record BitsBefore (s : List ℕ) (q r : ℕ) : Type 0 where
  pub bytes : r ≡ gathered s q
  pub bits : r ≡ field s (q - held_bits q) (held_bits q)

-- five of a kind, in the order in which their fields come
abbrev pub five : Five ℕ → List ℕ
five v = v.a ∷ v.b ∷ v.c ∷ v.d ∷ v.e ∷ []

-- the running numbers, in the order in which their fields come: the first of the five alone, or all; those behind the
-- first; and all of them at their start
abbrev pub others : Bool → Five ℕ → List ℕ
others alone v = cond alone [] (v.b ∷ v.c ∷ v.d ∷ v.e ∷ [])

abbrev pub turns : Bool → Five ℕ → List ℕ
turns alone v = v.a ∷ others alone v

abbrev pub at_start : Bool → List ℕ
at_start alone = 0 ∷ cond alone [] (zeros 4)

-- the five fields of width w from bit p on
pub record FieldsAt (s : List ℕ) (w p : ℕ) (f : Five ℕ) : Type 0 where
  pub first : f.a ≡ field s p w
  pub second : f.b ≡ field s (p + w) w
  pub third : f.c ≡ field s (p + w + w) w
  pub fourth : f.d ≡ field s (p + w + w + w) w
  pub fifth : f.e ≡ field s (p + w + w + w + w) w

-- the fields f take the numbers v to the numbers r
pub record MovedBy (f : Five ℕ) (v r : Five ℕ) : Type 0 where
  pub first : r.a ≡ stepped_to v.a f.a
  pub second : r.b ≡ stepped_to v.b f.b
  pub third : r.c ≡ stepped_to v.c f.c
  pub fourth : r.d ≡ stepped_to v.d f.d
  pub fifth : r.e ≡ stepped_to v.e f.e

-- all five are below the limit
abbrev pub all_below : ℕ → Five ℕ → Bool
all_below limit r = (((nat_lt r.a limit && nat_lt r.b limit) && nat_lt r.c limit) && nat_lt r.d limit)
    && nat_lt r.e limit

-- the five in 16 bits
abbrev pub five_low : Five ℕ → List ℕ
five_low r = low16 r.a ∷ low16 r.b ∷ low16 r.c ∷ low16 r.d ∷ low16 r.e ∷ []

-- ---- box headers

abbrev pub extent_says : Result Extent Refusal → Verdict (ℕ × ℕ)
extent_says r = says (λ e. (e.body, e.end)) r

-- a number of eight bytes, and the place q after it
abbrev pub long_says : ℕ → Result ℕ Refusal → Verdict (ℕ × ℕ)
long_says q r = says (λ v. (v, q)) r
