-- The words of a scene's answer: its kind, four words of what it names, 0 where it has fewer, and the three lengths.
use Rattle.std.specs.Prelude.{ℕ, List, [], ◌∷◌, ◌++◌}
use Rattle.scene.specs.Scene.{Named, crop, padding, counts}
use Rattle.payload.specs.declared.mesh.draw.DrawingLengths.{DrawingLengths}
use Rattle.capi.specs.Values.{side_words}

abbrev pub named_words : Named → List ℕ
named_words (crop b) = 0 ∷ side_words b
named_words (padding p) = 1 ∷ p ∷ 0 ∷ 0 ∷ 0 ∷ []
named_words (counts m k n) = 2 ∷ m ∷ k ∷ n ∷ 0 ∷ []

abbrev pub length_words : DrawingLengths → List ℕ
length_words n = n.numbers ∷ n.floats ∷ n.records ∷ []

abbrev pub scene_words : Named × DrawingLengths → List ℕ
scene_words v = named_words v.0 ++ length_words v.1
