-- What the tokens of a line spell.
use Rattle.std.specs.Prelude.{ℕ, ◌+◌, ◌-◌, ◌*◌, ◌^◌, ◌==◌, cond, ◌&&◌, List, [], ◌∷◌, length, take, drop, nat_le}
use Rattle.std.specs.Prelude.{nat_lt, Option, Some, None}
use Rattle.std.specs.Option.{option_map, option_and_then}
use Rattle.std.specs.List.{position_or_len}

-- how many numbers of a list come before the first b: all of them where there is none
abbrev pub index_of : ℕ → List ℕ → ℕ
index_of b s = position_or_len (λ x. x == b) s

-- the value of a digit, 0 to 9 and a to f, and none of any other byte
unfoldable pub digit_of : ℕ → Option ℕ
digit_of b =
    cond (nat_lt b 48) None
    (cond (nat_le b 57) (Some (b - 48)) (cond (nat_lt b 97) None (cond (nat_le b 102) (Some (b - 87)) None)))

-- v with one digit more, where the number is below 2^64
abbrev pub with_digit : ℕ → ℕ → Option ℕ
with_digit v d = cond (nat_lt v (2 ^ 60)) (Some (v * 16 + d)) None

-- v with the digits of a list after it, where they are digits and the number is below 2^64
unfoldable pub hex_from : ℕ → List ℕ → Option ℕ
hex_from v [] = Some v
hex_from v (b ∷ bs) =
    option_and_then (λ d. cond (nat_lt v (2 ^ 60)) (hex_from (v * 16 + d) bs) None) (digit_of b)

-- the number that a token spells, which has one digit or more
unfoldable pub hex_of : List ℕ → Option ℕ
hex_of [] = None
hex_of (b ∷ bs) = hex_from 0 (b ∷ bs)

-- the place of the first space from a place on, and the line's length where there is none
abbrev pub token_end : List ℕ → ℕ → ℕ
token_end line at = at + index_of 32 (drop at line)

-- the token at a place, and the place after the space that ends it
unfoldable pub word_at : List ℕ → ℕ → Option (List ℕ × ℕ)
word_at line at =
    cond (nat_lt at (length line) && nat_lt (token_end line at) (length line))
    (Some (take (token_end line at - at) (drop at line), token_end line at + 1))
    None

-- the number that the token at a place spells, and the place after the space that ends it
unfoldable pub token_at : List ℕ → ℕ → Option (ℕ × ℕ)
token_at line at = option_and_then (λ w. option_map (λ v. (v, w.1)) (hex_of w.0)) (word_at line at)

-- the byte that two digits spell
unfoldable pub pair_of : ℕ → ℕ → Option ℕ
pair_of h l = option_and_then (λ a. option_map (λ b. a * 16 + b) (digit_of l)) (digit_of h)

-- the bytes that pairs of digits spell
unfoldable pub pairs_of : List ℕ → Option (List ℕ)
pairs_of [] = Some []
pairs_of (h ∷ []) = Some []
pairs_of (h ∷ l ∷ s) = option_and_then (λ b. option_map (λ bs. b ∷ bs) (pairs_of s)) (pair_of h l)
