-- Kind 2 written: the box of one mesh, made from the reading alone, and which four tables are such a mesh.
use Rattle.std.specs.Prelude.{ℕ, ◌+◌, ◌-◌, ◌*◌, ◌/◌, ◌%◌, Bool, true, false, cond, List, [], ◌∷◌, ◌++◌, length, take}
use Rattle.std.specs.Prelude.{drop, ◌==◌, nat_le, nat_lt, slice_index}
use Rattle.bits.specs.Verdict.{Verdict, accepted, declined}
use Rattle.bits.specs.Number.{width_of}
use Rattle.bits.specs.Put.{bytes_of}
use Rattle.payload.specs.Float.{finite_word}
use Rattle.payload.specs.Mesh.{Submesh, Mesh}
use Rattle.bits.specs.Run.{zeros, shift}
use Rattle.payload.specs.MeshSpells.{mesh_vertices, mesh_type}
use Rattle.payload.specs.Packed.{Field, bits, spare, packed}

-- ---- the fields of a mesh, in the layout's order

-- the field that takes a running number from `last` to `next`
unfoldable pub step_field : ℕ → ℕ → ℕ
step_field last next = cond (nat_le last next) (2 * (next - last)) (2 * (last - next) - 1)

-- words of 32 bits
unfoldable pub word_fields : List ℕ → List Field
word_fields [] = []
word_fields (x ∷ xs) = (32, x) ∷ word_fields xs

-- a run: each field takes the running number at the front to the next number
unfoldable pub run_fields : ℕ → List ℕ → List ℕ → List Field
run_fields w prior [] = []
run_fields w prior (x ∷ xs) = (w, step_field (slice_index prior 0) x) ∷ run_fields w (shift prior x) xs

-- a submesh: texture, mode, index count, points
unfoldable pub submesh_fields : ℕ → Submesh → List Field
submesh_fields w x = (8, x.texture) ∷ (8, x.mode) ∷ (32, length x.points) ∷ run_fields w (zeros 1) x.points

unfoldable pub submeshes_fields : ℕ → List Submesh → List Field
submeshes_fields w [] = []
submeshes_fields w (x ∷ l) = submesh_fields w x ++ submeshes_fields w l

-- zero bits to the next byte boundary after n bits
abbrev pub gap : ℕ → Field
gap n = (spare n, 0)

-- a mesh body: coordinate count, words, vertex count, vertices; zero bits to a byte boundary, submesh count, submeshes
unfoldable pub vertex_fields : Mesh → List Field
vertex_fields x =
    (32, length x.pool) ∷ word_fields x.pool
    ++ ((32, mesh_vertices x) ∷ run_fields (width_of (length x.pool)) (zeros 5) x.vertices)

unfoldable pub mesh_fields : Mesh → List Field
mesh_fields x =
    vertex_fields x
    ++ (gap (bits (vertex_fields x)) ∷ (32, length x.submeshes)
    ∷ submeshes_fields (width_of (mesh_vertices x)) x.submeshes)

-- its bytes; the size of its box, and the box: size, 'mesh', body
unfoldable pub mesh_body : Mesh → List ℕ
mesh_body x = packed (mesh_fields x)

abbrev pub box_size : Mesh → ℕ
box_size x = 8 + (bits (mesh_fields x) + 7) / 8

unfoldable pub mesh_box : Mesh → List ℕ
mesh_box x = bytes_of 4 (box_size x) ++ bytes_of 4 mesh_type ++ mesh_body x

-- ---- four tables as a mesh

-- submeshes from three words each (texture, mode, point count), which take their points one after the other
unfoldable pub submeshes_of : List ℕ → List ℕ → List Submesh
submeshes_of (t ∷ m ∷ c ∷ more) points =
    record { texture = t; mode = m; points = take c points } ∷ submeshes_of more (drop c points)
submeshes_of (t ∷ m ∷ []) points = []
submeshes_of (t ∷ []) points = []
submeshes_of [] points = []

abbrev pub tables_mesh : List ℕ → List ℕ → List ℕ → List ℕ → Mesh
tables_mesh pool coordinates rows points =
    record { pool = pool; vertices = coordinates; submeshes = submeshes_of rows points }

-- ---- 13

unfoldable pub every : List Bool → Bool
every [] = true
every (b ∷ l) = cond b (every l) false

-- a test of every number of a list
unfoldable pub all_of : (ℕ → Bool) → List ℕ → Bool
all_of test [] = true
all_of test (x ∷ l) = cond (test x) (all_of test l) false

abbrev pub all_below : ℕ → List ℕ → Bool
all_below limit l = all_of (λ x. nat_lt x limit) l

-- a texture and a mode of at most 255, and 1 to 128,000 points
unfoldable pub row_within : ℕ → ℕ → ℕ → Bool
row_within texture mode count = every (nat_le texture 255 ∷ nat_le mode 255 ∷ nat_le 1 count ∷ nat_le count 128000 ∷ [])

unfoldable pub rows_within : List ℕ → Bool
rows_within (t ∷ m ∷ c ∷ more) = cond (row_within t m c) (rows_within more) false
rows_within (t ∷ m ∷ []) = true
rows_within (t ∷ []) = true
rows_within [] = true

-- the counts of the rows, added up
unfoldable pub row_points : List ℕ → ℕ
row_points (t ∷ m ∷ c ∷ more) = c + row_points more
row_points (t ∷ m ∷ []) = 0
row_points (t ∷ []) = 0
row_points [] = 0

-- the tables are whole fives and whole threes; the counts are within 7; numbers are below the counts of what they
-- index, as 8 asks; the rows' counts add up to the points; and the box is not too long
abbrev pub tests : List ℕ → List ℕ → List ℕ → List ℕ → List Bool
tests pool coordinates rows points =
    nat_le 1 (length pool) ∷ nat_le (length pool) 10000
    ∷ (length coordinates % 5 == 0) ∷ nat_le 1 (length coordinates / 5) ∷ nat_le (length coordinates / 5) 32000
    ∷ all_below (length pool) coordinates
    ∷ nat_le 1 (length rows) ∷ (length rows % 3 == 0) ∷ rows_within rows ∷ (row_points rows == length points)
    ∷ all_below (length coordinates / 5) points
    ∷ nat_le (box_size (tables_mesh pool coordinates rows points)) 67108864 ∷ []

unfoldable pub is_mesh : List ℕ → List ℕ → List ℕ → List ℕ → Bool
is_mesh pool coordinates rows points = every (tests pool coordinates rows points)

-- ---- writing: 13, then 17, or the box, free bits 0

unfoldable pub mesh_written : List ℕ → List ℕ → List ℕ → List ℕ → Verdict (List ℕ)
mesh_written pool coordinates rows points =
    cond (is_mesh pool coordinates rows points)
    (cond (all_of finite_word pool) (accepted (mesh_box (tables_mesh pool coordinates rows points))) (declined 17))
    (declined 13)
