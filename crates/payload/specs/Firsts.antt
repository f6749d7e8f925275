-- Numbers in order of first appearance, and where a number stands in a list.
use Rattle.std.specs.Prelude.{◌≡◌, ℕ, suc, ◌<◌, false, cond, List, [], ◌∷◌, ◌++◌, ◌==◌}
use Rattle.bits.specs.Refusals.{among}

-- a number that is not there yet is put at the end
unfoldable pub note : List ℕ → ℕ → List ℕ
note seen t = cond (among t seen) seen (seen ++ (t ∷ []))

unfoldable pub noted : List ℕ → List ℕ → List ℕ
noted seen [] = seen
noted seen (t ∷ l) = noted (note seen t) l

-- each number of a list once, in order of first appearance
abbrev pub firsts : List ℕ → List ℕ
firsts l = noted [] l

-- a list with no number twice
abbrev pub Distinct : List ℕ → Type 0
Distinct [] = Unit {0}
Distinct (t ∷ l) = (among t l ≡ false) × Distinct l

-- all numbers of a list are below n
abbrev pub Below : ℕ → List ℕ → Type 0
Below n [] = Unit {0}
Below n (t ∷ l) = (t < n) × Below n l

-- where a number stands first in a list; the list's length where it does not
unfoldable pub place_of : ℕ → List ℕ → ℕ
place_of t [] = 0
place_of t (u ∷ l) = cond (t == u) 0 (suc (place_of t l))
