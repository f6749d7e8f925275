-- Kind 1: the padding of a cbmp payload, how the payload is laid out, and how it is read.
use Rattle.std.specs.Prelude.{◌≡◌, ℕ, ◌≤◌, cond, List, [], ◌∷◌, length, ◌==◌, nat_le, Result}
use Rattle.bits.specs.Verdict.{Verdict, accepted, declined, within, and_then}
use Rattle.bits.specs.Field.{field}
use Rattle.bits.specs.Read.{number_at}
use Rattle.payload.specs.Payload.{full_box}
use Rattle.payload.specs.Words.{word_bytes}
use Rattle.bits.specs.Says.{says}
use Rattle.bits.specs.declared.refusals.Refusal.{Refusal}

-- ---- the layout: version 0, three free bytes, layout 0, p; more bytes are free

pub record CbmpSpells (p : ℕ) (s : List ℕ) : Type 0 where
  pub whole : 12 ≤ length s
  pub version : field s 0 8 ≡ 0
  pub layout : field s 32 32 ≡ 0
  pub padding : field s 64 32 ≡ p
  pub limit : p ≤ 4096

-- ---- reading, field by field: 3 and 4, then 3 and 5 at the layout, then 3 and 5 at the padding

-- a padding of at most 4,096
abbrev pub padding_usable : ℕ → Verdict ℕ
padding_usable p = within p 4096 p (declined 5)

unfoldable pub layout_then_padding : List ℕ → ℕ → Verdict ℕ
layout_then_padding s at =
    and_then (number_at 4 s at) (λ layout.
    cond (layout.0 == 0) (and_then (number_at 4 s layout.1) (λ p. padding_usable p.0)) (declined 5))

unfoldable pub cbmp_read : List ℕ → Verdict ℕ
cbmp_read s = and_then (full_box s) (layout_then_padding s)

abbrev pub cbmp_says : Result ℕ Refusal → Verdict ℕ
cbmp_says r = says (λ p. p) r

-- ---- writing: 5, or the 12 bytes, free bytes 0

abbrev pub cbmp_bytes : ℕ → List ℕ
cbmp_bytes p = word_bytes (0 ∷ 0 ∷ p ∷ [])

unfoldable pub cbmp_written : ℕ → Verdict (List ℕ)
cbmp_written p = cond (nat_le p 4096) (accepted (cbmp_bytes p)) (declined 5)
