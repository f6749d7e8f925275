-- Kind 2: how a mesh list spells a payload, place by place. What is free is not mentioned.
use Rattle.std.specs.Prelude.{◌≡◌, ℕ, ◌+◌, ◌*◌, ◌/◌, ◌<◌, ◌≤◌, Bool, cond, List, [], ◌∷◌, length, ◌==◌, ◌≢◌}
use Rattle.std.specs.Prelude.{slice_index, slice_range}
use Rattle.bits.specs.Field.{field}
use Rattle.bits.specs.Number.{width_of}
use Rattle.payload.specs.Float.{AllFinite}
use Rattle.payload.specs.Mesh.{Submesh, Mesh}
use Rattle.bits.specs.Run.{zeros, RunSpells}

-- ---- submeshes

-- texture (8 bits), mode (8), index count (32), then that many fields of width w, whose running number stays below m
pub record SubmeshSpells (s : List ℕ) (w m p : ℕ) (x : Submesh) : Type 0 where
  pub header : p + 48 ≤ 8 * length s
  pub texture : field s p 8 ≡ x.texture
  pub mode : field s (p + 8) 8 ≡ x.mode
  pub count : field s (p + 16) 32 ≡ length x.points
  pub some : 1 ≤ length x.points
  pub most : length x.points ≤ 128000
  pub run : RunSpells s w m (p + 48) (zeros 1) x.points

-- the bits of a submesh
abbrev pub submesh_bits : ℕ → Submesh → ℕ
submesh_bits w x = 48 + length x.points * w

-- things one after the other, each from where the one before ends
abbrev pub EachSpells : {A : Type 0} → (A → ℕ) → (ℕ → A → Type 0) → ℕ → List A → Type 0
EachSpells size Spells p [] = Unit {0}
EachSpells size Spells p (a ∷ l) = Spells p a × EachSpells size Spells (p + size a) l

abbrev pub sizes : {A : Type 0} → (A → ℕ) → List A → ℕ
sizes size [] = 0
sizes size (a ∷ l) = size a + sizes size l

abbrev pub sum : List ℕ → ℕ
sum l = sizes (λ (n : ℕ). n) l

-- with no alignment between
abbrev pub SubmeshesSpell : List ℕ → ℕ → ℕ → ℕ → List Submesh → Type 0
SubmeshesSpell s w m p l = EachSpells (submesh_bits w) (SubmeshSpells s w m) p l

-- ---- a mesh body

abbrev pub mesh_vertices : Mesh → ℕ
mesh_vertices x = length x.vertices / 5

-- the next byte boundary
abbrev pub aligned : ℕ → ℕ
aligned q = (q + 7) / 8 * 8

-- where the vertices' fields start and end, and where the submesh count stands
abbrev pub vertices_at : ℕ → ℕ
vertices_at n = 32 * n + 64

abbrev pub vertices_end : Mesh → ℕ
vertices_end x = vertices_at (length x.pool) + length x.vertices * width_of (length x.pool)

abbrev pub submeshes_at : Mesh → ℕ
submeshes_at x = aligned (vertices_end x)

-- where its last field ends
abbrev pub submeshes_end : Mesh → ℕ
submeshes_end x = submeshes_at x + 32 + sizes (submesh_bits (width_of (mesh_vertices x))) x.submeshes

-- coordinate count n, n words, each of them a finite f32, vertex count m; m * 5 fields of width w(n); free bits to the
-- next byte boundary, submesh count, submeshes
pub record MeshSpells (s : List ℕ) (x : Mesh) : Type 0 where
  pub head : vertices_at (length x.pool) ≤ 8 * length s
  pub pool_count : field s 0 32 ≡ length x.pool
  pub pool_some : 1 ≤ length x.pool
  pub pool_most : length x.pool ≤ 10000
  pub pool_words : (i : ℕ) → i < length x.pool → field s (32 + i * 32) 32 ≡ slice_index x.pool i
  pub pool_finite : AllFinite x.pool
  pub fives : length x.vertices ≡ 5 * mesh_vertices x
  pub vertex_count_law : field s (32 * length x.pool + 32) 32 ≡ mesh_vertices x
  pub vertex_some : 1 ≤ mesh_vertices x
  pub vertex_most : mesh_vertices x ≤ 32000
  pub vertices_run : RunSpells s (width_of (length x.pool)) (length x.pool) (vertices_at (length x.pool))
      (zeros 5)
      x.vertices
  pub tail : submeshes_at x + 32 ≤ 8 * length s
  pub submesh_count : field s (submeshes_at x) 32 ≡ length x.submeshes
  pub submesh_some : 1 ≤ length x.submeshes
  pub submeshes_run : SubmeshesSpell s (width_of (mesh_vertices x)) (mesh_vertices x) (submeshes_at x + 32) x.submeshes

-- ---- a list of boxes

-- the bytes that a header has at least: a 4-byte size, which counts the whole box, and a 4-byte type
abbrev pub header_bytes : ℕ
header_bytes = 8

abbrev pub size_at : List ℕ → ℕ → ℕ
size_at s p = field s (8 * p) 32

abbrev pub type_at : List ℕ → ℕ → ℕ
type_at s p = field s (8 * (p + 4)) 32

-- a size of 1 says that the true one, the long size, follows the type, in 8 bytes
abbrev pub is_long : List ℕ → ℕ → Bool
is_long s p = size_at s p == 1

abbrev pub long_size_at : List ℕ → ℕ → ℕ
long_size_at s p = field s (8 * (p + header_bytes)) 64

-- where the body of the box at byte p begins, and where the box ends, and the next begins
abbrev pub body_at : List ℕ → ℕ → ℕ
body_at s p = p + header_bytes + cond (is_long s p) 8 0

abbrev pub end_at : List ℕ → ℕ → ℕ
end_at s p = p + cond (is_long s p) (long_size_at s p) (size_at s p)

-- 'mesh'
abbrev pub mesh_type : ℕ
mesh_type = 0x6D657368

-- the bytes from a place up to another
abbrev pub part : List ℕ → ℕ → ℕ → List ℕ
part s from to = slice_range s from to

-- a whole box: a header, and an end that is not before the body and not past the payload's
pub record WholeBox (s : List ℕ) (p : ℕ) : Type 0 where
  pub header : p + header_bytes ≤ length s
  pub least : body_at s p ≤ end_at s p
  pub most : end_at s p ≤ length s

-- from byte p up to one of which End holds: boxes that hold a mesh each, those of the list, and boxes of other types,
-- which may hold anything
pub data Boxes (s : List ℕ) (End : ℕ → Type 0) : ℕ → List Mesh → Type 0 where
  ends : {p : ℕ} → End p → Boxes s End p []
  holds : {p : ℕ} {x : Mesh} {l : List Mesh} → WholeBox s p → type_at s p ≡ mesh_type
      → MeshSpells (part s (body_at s p) (end_at s p)) x → Boxes s End (end_at s p) l → Boxes s End p (x ∷ l)
  skips : {p : ℕ} {l : List Mesh} → WholeBox s p → (type_at s p ≢ mesh_type) → Boxes s End (end_at s p) l
      → Boxes s End p l

-- up to the free bytes at the payload's end, fewer than a header has at least
abbrev pub BoxesSpell : List ℕ → ℕ → List Mesh → Type 0
BoxesSpell s p l = Boxes s (λ q. (q ≤ length s) × (length s < q + header_bytes)) p l

-- the list of meshes l spells the payload s: at most two, one for each eye or one for both
pub record MeshesSpell (l : List Mesh) (s : List ℕ) : Type 0 where
  pub boxes : BoxesSpell s 0 l
  pub most : length l ≤ 2
