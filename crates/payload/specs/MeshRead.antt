-- Kind 2 as a program: the reading, of its parts with the bit place after them, or the number of the rule that the
-- first field in payload order breaks.
use Rattle.std.specs.Prelude.{ℕ, zero, suc, ◌+◌, ◌*◌, cond, List, [], ◌∷◌, length, ◌==◌, nat_le}
use Rattle.bits.specs.Verdict.{Verdict, accepted, declined, and_then}
use Rattle.bits.specs.Field.{field}
use Rattle.bits.specs.Number.{width_of}
use Rattle.bits.specs.Header.{Item, list_end, box, header_at}
use Rattle.payload.specs.Float.{finite_word}
use Rattle.payload.specs.Mesh.{Submesh, Mesh}
use Rattle.bits.specs.Run.{zeros, Found, complete, read_run}
use Rattle.payload.specs.MeshSpells.{aligned, part, mesh_type}

-- a count from low to high: 7 where it is not
unfoldable pub in_range : {A : Type 0} → ℕ → ℕ → ℕ → Verdict A → Verdict A
in_range low high n v = cond (nat_le low n) (cond (nat_le n high) v (declined 7)) (declined 7)

-- a count that is not 0: 7 where it is
abbrev pub not_zero : {A : Type 0} → ℕ → Verdict A → Verdict A
not_zero n v = cond (n == 0) (declined 7) v

-- a word whose f32 is finite: 17 where it is not
unfoldable pub if_finite : {A : Type 0} → ℕ → Verdict A → Verdict A
if_finite w v = cond (finite_word w) v (declined 17)

-- n things, one after the other
unfoldable pub many : {A : Type 0} → (ℕ → Found A) → ℕ → ℕ → Found (List A)
many read zero p = accepted ([], p)
many read (suc n) p = and_then (read p) (λ x. and_then (many read n x.1) (λ l. accepted (x.0 ∷ l.0, l.1)))

-- ---- submeshes

-- a submesh whose points were found
abbrev pub submesh_of : List ℕ → ℕ → List ℕ × ℕ → Found Submesh
submesh_of s p points =
    accepted (record { texture = field s p 8; mode = field s (p + 8) 8; points = points.0 }, points.1)

unfoldable pub read_submesh : List ℕ → ℕ → ℕ → ℕ → Found Submesh
read_submesh s w m p =
    complete s (p + 48)
    (in_range 1 128000 (field s (p + 16) 32)
    (and_then (read_run s w m (field s (p + 16) 32) (p + 48) (zeros 1)) (submesh_of s p)))

-- a submesh count, which is not 0, and the submeshes
unfoldable pub read_submeshes : List ℕ → ℕ → ℕ → ℕ → Found (List Submesh)
read_submeshes s w m p =
    complete s (p + 32)
    (not_zero (field s p 32)
    (many (read_submesh s w m) (field s p 32) (p + 32)))

-- ---- a mesh body. Its parts, the last first: after the vertices; after the vertex count; after the pool; after the
-- coordinate count. The pool has n words, and there are m vertices.

-- a word of the pool, and its f32 is finite
abbrev pub read_word : List ℕ → ℕ → Found ℕ
read_word s p = complete s (p + 32) (if_finite (field s p 32) (accepted (field s p 32, p + 32)))

abbrev pub mesh_of : List ℕ → List ℕ → List Submesh × ℕ → Found Mesh
mesh_of pool vertices l = accepted (record { pool = pool; vertices = vertices; submeshes = l.0 }, l.1)

unfoldable pub after_vertices : List ℕ → List ℕ → ℕ → List ℕ × ℕ → Found Mesh
after_vertices s pool m v = and_then (read_submeshes s (width_of m) m (aligned v.1)) (mesh_of pool v.0)

abbrev pub after_vertex_count : List ℕ → ℕ → List ℕ → ℕ → ℕ → Found Mesh
after_vertex_count s n pool m p = and_then (read_run s (width_of n) n (5 * m) p (zeros 5)) (after_vertices s pool m)

abbrev pub after_pool : List ℕ → ℕ → List ℕ × ℕ → Found Mesh
after_pool s n pool =
    complete s (pool.1 + 32)
    (in_range 1 32000 (field s pool.1 32)
    (after_vertex_count s n pool.0 (field s pool.1 32) (pool.1 + 32)))

unfoldable pub after_pool_count : List ℕ → ℕ → Found Mesh
after_pool_count s n = and_then (many (read_word s) n 32) (after_pool s n)

unfoldable pub read_mesh : List ℕ → Found Mesh
read_mesh s =
    complete s 32
    (in_range 1 10000 (field s 0 32)
    (after_pool_count s (field s 0 32)))

-- ---- a list of boxes, at most two of them meshes

-- a mesh box where so many more meshes may come: 18 where none may, which is told at its type, before a long size;
-- `rest` reads on from a place
abbrev pub read_mesh_box : List ℕ → (ℕ → ℕ → Verdict (List Mesh)) → ℕ → Verdict (ℕ × ℕ) → Verdict (List Mesh)
read_mesh_box s rest zero extent = declined 18
read_mesh_box s rest (suc more) extent =
    and_then extent (λ e.
    and_then (read_mesh (part s e.0 e.1)) (λ x. and_then (rest more e.1) (λ l. accepted (x.0 ∷ l))))

-- a box of another type is skipped
abbrev pub read_item : List ℕ → (ℕ → ℕ → Verdict (List Mesh)) → ℕ → Item → Verdict (List Mesh)
read_item s rest more list_end = accepted []
read_item s rest more (box type extent) =
    cond (type == mesh_type) (read_mesh_box s rest more extent) (and_then extent (λ e. rest more e.1))

-- each box is 8 bytes or more, so as many turns as there are bytes are enough
unfoldable pub read_boxes : List ℕ → ℕ → ℕ → ℕ → Verdict (List Mesh)
read_boxes s zero more p = accepted []
read_boxes s (suc turns) more p = and_then (header_at s p) (read_item s (read_boxes s turns) more)

unfoldable pub read_from : List ℕ → ℕ → ℕ → Verdict (List Mesh)
read_from s more p = read_boxes s (length s) more p

abbrev pub read_meshes : List ℕ → Verdict (List Mesh)
read_meshes s = read_from s 2 0
