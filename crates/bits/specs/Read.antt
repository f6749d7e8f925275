-- What reading at a place gives: the value and the place after it, or 3, too few bytes or bits; of a field, before
-- that, 16, a width above 32. And what each answer says.
use Rattle.std.specs.Prelude.{ℕ, zero, suc, ◌+◌, ◌-◌, ◌*◌, ◌/◌, ◌%◌, ◌^◌, cond, List, length, nat_le, Result}
use Rattle.bits.specs.Verdict.{Verdict, accepted, declined, within, width_limited, and_then, mapped}
use Rattle.bits.specs.Field.{bit_at, field, room, gathered}
use Rattle.bits.specs.Says.{says}
use Rattle.bits.specs.declared.refusals.Refusal.{Refusal}
use Rattle.bits.specs.declared.bytes.ByteCursor.{ByteCursor}
use Rattle.bits.specs.declared.fields.BitCursor.{BitCursor}
use Rattle.bits.specs.declared.fields.Two.{Two}

-- the number of n bytes, big end first, from byte p on
abbrev pub number_at : ℕ → List ℕ → ℕ → Verdict (ℕ × ℕ)
number_at n s p = within (p + n) (length s) (field s (8 * p) (8 * n), p + n) (declined 3)

-- the field of w bits from bit p on: 16, then 3; a field of no bits is always complete
abbrev pub field_at : List ℕ → ℕ → ℕ → Verdict (ℕ × ℕ)
field_at s p w = width_limited w (within w (room s - p) (field s p w, p + w) (declined 3))

-- two neighbouring fields of w bits from bit p on, and the place after both: 16, then 3 where not both are complete
abbrev pub two_at : List ℕ → ℕ → ℕ → Verdict (ℕ × ℕ × ℕ)
two_at s p w = width_limited w (within (2 * w) (room s - p) (field s p w, field s (p + w) w, p + 2 * w) (declined 3))

-- One bit more: a number read so far and the place after it. And w bits from bit p on, one after the other.
unfoldable pub bit_on : List ℕ → ℕ × ℕ → Verdict (ℕ × ℕ)
bit_on s v = within 1 (room s - v.1) (v.0 * 2 + bit_at s v.1, v.1 + 1) (declined 3)

unfoldable pub bit_by_bit : List ℕ → ℕ → ℕ → Verdict (ℕ × ℕ)
bit_by_bit s p zero = accepted (0, p)
bit_by_bit s p (suc w) = and_then (bit_by_bit s p w) (bit_on s)

-- and two fields so, the second from where the first ends
abbrev pub two_bit_by_bit : List ℕ → ℕ → ℕ → Verdict (ℕ × ℕ × ℕ)
two_bit_by_bit s p w = and_then (bit_by_bit s p w) (λ u. mapped (λ v. (u.0, v.0, v.1)) (bit_by_bit s u.1 w))

-- Reads out of whole bytes, as the code does them: a field out of those that end with it. Of two fields the second so,
-- and the first out of the same bytes up to 16 bits, above that out of those that end with it.
abbrev pub gathered_at : List ℕ → ℕ → ℕ → Verdict (ℕ × ℕ)
gathered_at s p w = width_limited w (within w (room s - p) (gathered s (p + w) % 2 ^ w, p + w) (declined 3))

abbrev pub first_gathered : List ℕ → ℕ → ℕ → ℕ
first_gathered s p w = cond (nat_le w 16) (gathered s (p + 2 * w) / 2 ^ w % 2 ^ w) (gathered s (p + w) % 2 ^ w)

abbrev pub two_gathered_at : List ℕ → ℕ → ℕ → Verdict (ℕ × ℕ × ℕ)
two_gathered_at s p w =
    width_limited w
    (within (2 * w) (room s - p) (first_gathered s p w, gathered s (p + 2 * w) % 2 ^ w, p + 2 * w) (declined 3))

-- byte place p, which may be the end
abbrev pub place_in : List ℕ → ℕ → Verdict ℕ
place_in s p = within p (length s) p (declined 3)

-- a byte or a word, and the place after it
abbrev pub value_says : Result (ℕ × ByteCursor) Refusal → Verdict (ℕ × ℕ)
value_says r = says (λ x. (x.0, x.1.at)) r

abbrev pub seek_says : Result ByteCursor Refusal → Verdict ℕ
seek_says r = says (λ c. c.at) r

abbrev pub field_says : Result (ℕ × BitCursor) Refusal → Verdict (ℕ × ℕ)
field_says r = says (λ x. (x.0, x.1.bit)) r

abbrev pub two_read : Two × BitCursor → ℕ × ℕ × ℕ
two_read x = (x.0.a, x.0.b, x.1.bit)

abbrev pub two_says : Result (Two × BitCursor) Refusal → Verdict (ℕ × ℕ × ℕ)
two_says r = says two_read r
