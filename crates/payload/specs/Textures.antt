-- The points of each texture of a mesh list, counted from its records.
use Rattle.std.specs.Prelude.{ℕ, ◌+◌, cond, List, [], ◌∷◌, map, ◌==◌}
use Rattle.bits.specs.Verdict.{Verdict, mapped, limited}
use Rattle.payload.specs.Mesh.{Mesh}
use Rattle.payload.specs.MeshRead.{read_meshes}
use Rattle.payload.specs.MeshDrawing.{drawn_records}
use Rattle.payload.specs.Records.{records_in}
use Rattle.payload.specs.Firsts.{firsts}
use Rattle.payload.specs.declared.mesh.records.Record.{Record}

-- ---- of records

abbrev pub textures : List Record → List ℕ
textures l = map (λ (r : Record). r.texture) l

-- the points of the records with texture t together
unfoldable pub points_with : ℕ → List Record → ℕ
points_with t [] = 0
points_with t (r ∷ l) = cond (t == r.texture) r.points 0 + points_with t l

-- two words for each number of a list, it and what belongs to it
unfoldable pub paired : (ℕ → ℕ) → List ℕ → List ℕ
paired f [] = []
paired f (t ∷ l) = t ∷ f t ∷ paired f l

-- each texture that occurs with its points
unfoldable pub texture_words : List Record → List ℕ
texture_words l = paired (λ t. points_with t l) (firsts (textures l))

-- ---- of a payload

abbrev pub list_records : List Mesh → List Record
list_records l = records_in (drawn_records l)

abbrev pub list_textures : List Mesh → List ℕ
list_textures l = texture_words (list_records l)

-- 2, then 3, 6, 7, 8, 17 and 18 in payload order
unfoldable pub textures_found : List ℕ → Verdict (List ℕ)
textures_found s = mapped list_textures (limited s (read_meshes s))
