-- Kind 0: the four fields of an equi payload, the crop that they make, how the payload is laid out, and how it is read.
use Rattle.std.specs.Prelude.{◌≡◌, ℕ, ◌≤◌, true, cond, List, [], ◌∷◌, length, Result}
use Rattle.bits.specs.Verdict.{Verdict, accepted, declined, and_then}
use Rattle.bits.specs.Field.{field}
use Rattle.bits.specs.Read.{number_at}
use Rattle.bits.specs.Float.{scaled}
use Rattle.payload.specs.Crop.{usable}
use Rattle.payload.specs.Payload.{full_box}
use Rattle.payload.specs.Words.{word_bytes}
use Rattle.payload.specs.declared.crop.Bounds.{Bounds}
use Rattle.payload.specs.declared.equi.EquiFields.{EquiFields}
use Rattle.bits.specs.Says.{says}
use Rattle.bits.specs.declared.refusals.Refusal.{Refusal}

-- the crop that four fields make: each the nearest f32, divided by 4,294,967,296
unfoldable pub crop_of : EquiFields → Bounds
crop_of ρ = record { top = scaled ρ.t; bottom = scaled ρ.b; left = scaled ρ.l; right = scaled ρ.r }

-- ---- the layout: version 0, three free bytes, t, b, l, r; more bytes are free

pub record EquiSpells (ρ : EquiFields) (s : List ℕ) : Type 0 where
  pub whole : 20 ≤ length s
  pub version : field s 0 8 ≡ 0
  pub top : field s 32 32 ≡ ρ.t
  pub bottom : field s 64 32 ≡ ρ.b
  pub left : field s 96 32 ≡ ρ.l
  pub right : field s 128 32 ≡ ρ.r
  pub usable_crop : usable (crop_of ρ) ≡ true

-- ---- reading, field by field: 3 and 4, then 10

unfoldable pub four_words : List ℕ → ℕ → Verdict EquiFields
four_words s p =
    and_then (number_at 4 s p) (λ t. and_then (number_at 4 s t.1) (λ b. and_then (number_at 4 s b.1) (λ l.
    and_then (number_at 4 s l.1) (λ r. accepted (record { t = t.0; b = b.0; l = l.0; r = r.0 })))))

unfoldable pub equi_fields : List ℕ → Verdict EquiFields
equi_fields s = and_then (full_box s) (four_words s)

unfoldable pub equi_usable : EquiFields → Verdict EquiFields
equi_usable ρ = cond (usable (crop_of ρ)) (accepted ρ) (declined 10)

abbrev pub equi_read : List ℕ → Verdict EquiFields
equi_read s = and_then (equi_fields s) equi_usable

-- the reading and its crop
abbrev pub with_crop : EquiFields → EquiFields × Bounds
with_crop ρ = (ρ, crop_of ρ)

abbrev pub equi_read_says : Result EquiFields Refusal → Verdict EquiFields
equi_read_says r = says (λ ρ. ρ) r

abbrev pub equi_says : Result (EquiFields × Bounds) Refusal → Verdict (EquiFields × Bounds)
equi_says r = says (λ x. x) r

-- ---- writing: 10, or the 20 bytes, free bytes 0

abbrev pub equi_bytes : EquiFields → List ℕ
equi_bytes ρ = word_bytes (0 ∷ ρ.t ∷ ρ.b ∷ ρ.l ∷ ρ.r ∷ [])

unfoldable pub equi_written : EquiFields → Verdict (List ℕ)
equi_written ρ = cond (usable (crop_of ρ)) (accepted (equi_bytes ρ)) (declined 10)
