-- Fields laid end to end, high bit first, and the bytes that they make.
use Rattle.std.specs.Prelude.{◌≡◌, ℕ, ◌+◌, ◌-◌, ◌*◌, ◌/◌, ◌^◌, ◌<◌, List, [], ◌∷◌}
use Rattle.bits.specs.Field.{field}
use Rattle.bits.specs.Put.{bytes_of}

-- a field: its width in bits, and its value
abbrev pub Field : Type 0
Field = ℕ × ℕ

-- how many bits the fields are
unfoldable pub bits : List Field → ℕ
bits [] = 0
bits ((w, v) ∷ l) = w + bits l

-- the number that their bits make, after those that made `before`
unfoldable pub fields_number : ℕ → List Field → ℕ
fields_number before [] = before
fields_number before ((w, v) ∷ l) = fields_number (before * 2 ^ w + v) l

-- how many bits are missing to whole bytes
abbrev pub spare : ℕ → ℕ
spare n = (n + 7) / 8 * 8 - n

-- the bytes: the fields one after the other, then zero bits to the end of the last byte
unfoldable pub packed : List Field → List ℕ
packed l = bytes_of ((bits l + 7) / 8) (fields_number 0 l * 2 ^ spare (bits l))

-- each value fits its width
abbrev pub Fits : List Field → Type 0
Fits [] = Unit {0}
Fits ((w, v) ∷ l) = (v < 2 ^ w) × Fits l

-- the fields stand in s from bit p on
abbrev pub Laid : List ℕ → ℕ → List Field → Type 0
Laid s p [] = Unit {0}
Laid s p ((w, v) ∷ l) = (field s p w ≡ v) × Laid s (p + w) l
