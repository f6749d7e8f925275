-- Words laid out as bytes, big end first.
use Rattle.std.specs.Prelude.{ℕ, List, [], ◌∷◌, ◌++◌}
use Rattle.bits.specs.Put.{bytes_of}

unfoldable pub word_bytes : List ℕ → List ℕ
word_bytes [] = []
word_bytes (x ∷ l) = bytes_of 4 x ++ word_bytes l
