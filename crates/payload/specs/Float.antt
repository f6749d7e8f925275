-- Floats of binary32 by their bits, and the operations by short names. Each operation rounds to the nearest, ties to
-- even.
use Rattle.std.specs.Prelude.{◌≡◌, ℕ, Bool, true, List, from_bits, Float}
use mathlib.Core.List.{Memᴰ}
use Rattle.std.specs.Float.{binary32}
use Rattle.std.specs.Float.Ieee.{add, sub, mul, div}
use Rattle.std.specs.Float.Ieee.Scale.{finite}
use Rattle.bits.specs.Float.{nearest}

abbrev pub f0 : Float
f0 = from_bits binary32 0

abbrev pub f¼ : Float
f¼ = from_bits binary32 0x3e80_0000

abbrev pub f½ : Float
f½ = from_bits binary32 0x3f00_0000

abbrev pub f1 : Float
f1 = from_bits binary32 0x3f80_0000

abbrev pub f2 : Float
f2 = from_bits binary32 0x4000_0000

abbrev pub f3 : Float
f3 = from_bits binary32 0x4040_0000

infixl 20 ◌⊕◌
abbrev pub ◌⊕◌ : Float → Float → Float
x ⊕ y = add binary32 x y

infixl 20 ◌⊖◌
abbrev pub ◌⊖◌ : Float → Float → Float
x ⊖ y = sub binary32 x y

infixl 30 ◌⊗◌
abbrev pub ◌⊗◌ : Float → Float → Float
x ⊗ y = mul binary32 x y

infixl 30 ◌⊘◌
abbrev pub ◌⊘◌ : Float → Float → Float
x ⊘ y = div binary32 x y

-- x / n of two whole numbers, each first the nearest f32
abbrev pub ratio : ℕ → ℕ → Float
ratio x n = nearest x ⊘ nearest n

-- whether the f32 with these bits is finite
abbrev pub finite_word : ℕ → Bool
finite_word w = finite (from_bits binary32 w)

-- every word of a list is
abbrev pub AllFinite : List ℕ → Type 0
AllFinite l = (w : ℕ) → Memᴰ w l → finite_word w ≡ true
