-- The records of a drawing, in words.
use Rattle.std.specs.Prelude.{ℕ, List, [], ◌∷◌}
use Rattle.payload.specs.MeshSpells.{sizes}
use Rattle.payload.specs.declared.mesh.records.Record.{Record}

abbrev pub record_words : Record → List ℕ
record_words r = r.eye ∷ r.texture ∷ r.mode ∷ r.first ∷ r.points ∷ []

-- five words are a record: eye, texture, mode, first point, point count; words after the last five are none
unfoldable pub records_in : List ℕ → List Record
records_in (e ∷ t ∷ o ∷ p ∷ n ∷ words) =
    record { eye = e; texture = t; mode = o; first = p; points = n } ∷ records_in words
records_in (e ∷ t ∷ o ∷ p ∷ []) = []
records_in (e ∷ t ∷ o ∷ []) = []
records_in (e ∷ t ∷ []) = []
records_in (e ∷ []) = []
records_in [] = []

-- the points of some records together
abbrev pub point_sum : List Record → ℕ
point_sum l = sizes (λ (r : Record). r.points) l
