-- FNV-1a of 32 bits.
use Rattle.std.specs.Prelude.{ℕ, ◌*◌, ◌%◌, ◌^◌, List, [], ◌∷◌, bit_xor}

-- a sum with one byte more
unfoldable pub step : ℕ → ℕ → ℕ
step h b = bit_xor h b * 0x0100_0193 % 2 ^ 32

-- a sum with the bytes of a list more
unfoldable pub fnv : ℕ → List ℕ → ℕ
fnv h [] = h
fnv h (b ∷ bs) = fnv (step h b) bs
