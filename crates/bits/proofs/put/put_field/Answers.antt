-- `put_field` meets its contract: the bytes that it touches are put as one number. Assumes nothing.
use Rattle.std.proofs.Common.{◌≡◌, ℕ, ◌+◌, ◌-◌, ◌*◌, ◌/◌, ◌%◌, ◌^◌, ◌<◌, ◌≤◌, List, [], ◌∷◌, length, get_or, sym, ap, ◌∙◌, mod-lt, arith, rules, pow_pos}
use lib.Seq.{sets}
use Rattle.bits.specs.Verdict.{Verdict, accepted, declined, within, needs as Needs}
use Rattle.bits.specs.Put.{bytes_of, touched, free, joined, bits_put, field_put, field_put_answer}
use Rattle.bits.proofs.VerdictLaws.{within_yes, within_no, width_yes, width_no}
use Rattle.bits.proofs.FieldLaws.{byte_head}
use Rattle.bits.proofs.PutLaws.{joined_lt, field_put_yes, field_put_no, field_put_wide}
use Rattle.bits.proofs.put.put_field.Goals as goal

module _ (s : List ℕ) (p w x : ℕ) where
  -- what is said where the width is at most 32
  abbrev fits_said : Verdict (Unit {0})
  fits_said = within (p + w) (8 * length s) tt (Needs ((p + w + 7) / 8 ∷ []))

  wide : 32 < w → (declined 16 ≡ field_put_answer s p w) × (s ≡ field_put s p w x)
  wide h = (sym (width_no w fits_said h), sym (field_put_wide s p w x h))

  short : w ≤ 32 → 8 * length s < p + w → (n : ℕ) → n ≡ (p + w + 7) / 8 → (Needs (n ∷ []) ≡ field_put_answer s p w) × (s ≡ field_put s p w x)
  short l h n e = (
    ap (λ (k : ℕ). Needs (k ∷ [])) e
        ∙ sym (width_yes w fits_said l ∙ within_no (p + w) (8 * length s) tt (Needs ((p + w + 7) / 8 ∷ [])) h),
    sym (field_put_no s p w x h),
  )

  module _ (n : w ≤ 32) (fits : p + w ≤ 8 * length s) where
    done : (t : List ℕ) → t ≡ bits_put s p w (x % 2 ^ w) → (accepted tt ≡ field_put_answer s p w) × (t ≡ field_put s p w x)
    done t e = (
      sym (width_yes w fits_said n ∙ within_yes (p + w) (8 * length s) tt (Needs ((p + w + 7) / 8 ∷ [])) fits),
      e ∙ sym (field_put_yes s p w x n fits),
    )

    -- no byte touched
    none : touched p w ≡ 0 → s ≡ bits_put s p w (x % 2 ^ w)
    unfolding bits_put bytes_of
    none e = sym (ap (λ (n : ℕ). sets s (p / 8) (bytes_of n (joined s p w (x % 2 ^ w)))) e)

  -- the number that is put
  whole : (j : ℕ) → get_or s (p / 8) 0 < 256
      → j ≡ (get_or s (p / 8) 0 / 2 ^ (8 - p % 8) * 2 ^ w + x % 2 ^ w) * 2 ^ (8 * ((p % 8 + w + 7) / 8) - p % 8 - w) → j ≡ joined s p w (x % 2 ^ w)
  whole j b e = e ∙ ap (λ (k : ℕ). (k * 2 ^ w + x % 2 ^ w) * 2 ^ free p w) (sym (byte_head s (p / 8) (p % 8) (omega arith) b))

  put : (j : ℕ) (t : List ℕ) → j ≡ joined s p w (x % 2 ^ w) → t ≡ sets s (p / 8) (bytes_of (touched p w) j) → t ≡ bits_put s p w (x % 2 ^ w)
  unfolding bits_put
  put j t e f = f ∙ ap (λ (k : ℕ). sets s (p / 8) (bytes_of (touched p w) k)) e

  small : joined s p w (x % 2 ^ w) < 2 ^ (8 * touched p w)
  small = joined_lt s p w (x % 2 ^ w) (mod-lt x (pow_pos w))

pub returns-then-width-gt32 : goal.returns-then-width-gt32
returns-then-width-gt32 c = let a = c.args in let r = wide a.out.now a.bit a.width a.value c.if-width-gt32.true in record { result_value = r.0; out_after = r.1 }

pub returns-then-out-at : goal.returns-then-out-at
returns-then-out-at c = let a = c.args in let r = short a.out.now a.bit a.width a.value (omega arith) (omega arith) _ (omega arith) in record { result_value = r.0; out_after = r.1 }

pub returns-then-n-eq0 : goal.returns-then-n-eq0
returns-then-n-eq0 c =
    let a = c.args in let r = done a.out.now a.bit a.width a.value (omega arith) (omega arith) _ (none a.out.now a.bit a.width a.value (omega arith) (omega arith) c.if-n-eq0.true) in record { result_value = r.0; out_after = r.1 }

pub put_bytes-requires : goal.put_bytes-requires
put_bytes-requires c =
    let a = c.args in
    let b : get_or a.out.now (a.bit / 8) 0 < 256 = search rules in
    let e = whole a.out.now a.bit a.width a.value _ b c.joined_of-x.ensures in
    (omega arith, rw e (small a.out.now a.bit a.width a.value), omega arith)

pub returns : goal.returns
returns c =
    let a = c.args in
    let b : get_or a.out.now (a.bit / 8) 0 < 256 = search rules in
    let e = whole a.out.now a.bit a.width a.value _ b c.joined_of-x.ensures in
    let r = done a.out.now a.bit a.width a.value (omega arith) (omega arith) _ (put a.out.now a.bit a.width a.value _ _ e c.put_bytes.ensures) in
    record { result_value = r.0; out_after = r.1 }
