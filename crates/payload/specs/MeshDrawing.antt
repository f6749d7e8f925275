-- The drawing of a mesh list, made from the reading: numbers, floats and records, in file order.
use Rattle.std.specs.Prelude.{ℕ, ◌+◌, ◌*◌, cond, List, [], ◌∷◌, ◌++◌, length, ◌==◌, slice_index}
use Rattle.payload.specs.Mesh.{Submesh, Mesh}
use Rattle.payload.specs.MeshSpells.{sizes}

-- numbers: all vertices' coordinate numbers, mesh after mesh
unfoldable pub drawn_numbers : List Mesh → List ℕ
drawn_numbers [] = []
drawn_numbers (x ∷ l) = x.vertices ++ drawn_numbers l

-- ---- floats: five pool words for each point

-- the pool word of coordinate k of the vertices
abbrev pub coordinate : Mesh → ℕ → ℕ
coordinate x k = slice_index x.pool (slice_index x.vertices k)

-- the words of a point, in the order of its vertex's coordinate numbers; `word` gives the word of each coordinate
abbrev pub point_words : (ℕ → ℕ) → ℕ → List ℕ
point_words word k = word k ∷ word (k + 1) ∷ word (k + 2) ∷ word (k + 3) ∷ word (k + 4) ∷ []

-- the coordinates of vertex v are the five from base + 5 * v on
unfoldable pub run_words : (ℕ → ℕ) → ℕ → List ℕ → List ℕ
run_words word base [] = []
run_words word base (v ∷ l) = point_words word (base + 5 * v) ++ run_words word base l

unfoldable pub submesh_words : (ℕ → ℕ) → ℕ → List Submesh → List ℕ
submesh_words word base [] = []
submesh_words word base (x ∷ l) = run_words word base x.points ++ submesh_words word base l

abbrev pub mesh_words : Mesh → List ℕ
mesh_words x = submesh_words (coordinate x) 0 x.submeshes

unfoldable pub drawn_floats : List Mesh → List ℕ
drawn_floats [] = []
drawn_floats (x ∷ l) = mesh_words x ++ drawn_floats l

-- ---- records: five words for each submesh

abbrev pub point_count : List Submesh → ℕ
point_count l = sizes (λ (x : Submesh). length x.points) l

-- eye, texture, mode, first point, point count
unfoldable pub submesh_records : ℕ → ℕ → List Submesh → List ℕ
submesh_records eye first [] = []
submesh_records eye first (x ∷ l) =
    (eye ∷ x.texture ∷ x.mode ∷ first ∷ length x.points ∷ [])
    ++ submesh_records eye (first + length x.points) l

-- the next mesh has the next eye, and points are counted through the whole drawing
unfoldable pub records_from : ℕ → ℕ → List Mesh → List ℕ
records_from eye first [] = []
records_from eye first (x ∷ l) =
    submesh_records eye first x.submeshes ++ records_from (eye + 1) (first + point_count x.submeshes) l

-- one mesh alone is for both eyes, 0; of two the first is the left eye's, 1, and the second the right one's, 2
unfoldable pub first_eye : ℕ → ℕ
first_eye meshes = cond (meshes == 2) 1 0

abbrev pub drawn_records : List Mesh → List ℕ
drawn_records l = records_from (first_eye (length l)) 0 l

-- ---- the counts that name a mesh list

abbrev pub submesh_total : List Mesh → ℕ
submesh_total l = sizes (λ (x : Mesh). length x.submeshes) l

abbrev pub point_total : List Mesh → ℕ
point_total l = sizes (λ (x : Mesh). point_count x.submeshes) l
