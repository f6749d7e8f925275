-- The theorems of a kind of payload, by name: what it is to read exactly what is spelled, and for reading and writing
-- to undo each other.
use Rattle.std.specs.Prelude.{◌≡◌, ℕ, ◌+◌, ◌-◌, ◌*◌, ◌/◌, ◌^◌, ◌<◌, ◌≤◌, ◌↔◌, List, [], ◌∷◌, length, drop, slice_index}
use Rattle.bits.specs.Verdict.{Verdict, accepted, declined}
use Rattle.bits.specs.Field.{field}
use Rattle.bits.specs.Laws.{Bytes}
use Rattle.payload.specs.Equi.{EquiSpells, equi_read, equi_written}
use Rattle.payload.specs.Cbmp.{CbmpSpells, cbmp_read, cbmp_written}
use Rattle.payload.specs.Mesh.{Mesh}
use Rattle.payload.specs.MeshSpells.{vertices_end, submeshes_at, submeshes_end, MeshSpells, size_at, MeshesSpell}
use Rattle.payload.specs.MeshRead.{read_meshes}
use Rattle.payload.specs.Tables.{pool_table, coordinate_table, submesh_table, point_table, body_read}
use Rattle.payload.specs.MeshWrite.{mesh_written}
use Rattle.payload.specs.declared.equi.EquiFields.{EquiFields}

-- a kind: its readings, how a reading spells a payload, and reading
pub record Reads (R : Type 0) (Spells : R → List ℕ → Type 0) (read : List ℕ → Verdict R) : Type 0 where
  -- a payload is read as ρ exactly where ρ spells it
  pub reads : (ρ : R) (s : List ℕ) → (read s ≡ accepted ρ) ↔ Spells ρ s
  -- no second reading spells it
  pub spells_once : (ρ ρ' : R) (s : List ℕ) → Spells ρ s → Spells ρ' s → ρ ≡ ρ'
  -- what is declined is spelled by no reading
  pub declined_spells_nothing : (s : List ℕ) (k : ℕ) → read s ≡ declined k → (ρ : R) → Spells ρ s → ⊥

-- its writer: how a payload is read as a reading, what the writer makes of a reading in range, and which payloads it
-- can give back
pub record Writes (R : Type 0) (Spells ReadAs : R → List ℕ → Type 0) (InRange : R → Type 0)
    (written : R → Verdict (List ℕ)) (Plain : R → List ℕ → Type 0) : Type 0 where
  -- the reading that it was given spells what it wrote
  pub written_spells : (ρ : R) (s : List ℕ) → InRange ρ → written ρ ≡ accepted s → Spells ρ s
  -- what was written reads back
  pub written_reads : (ρ : R) (s : List ℕ) → InRange ρ → written ρ ≡ accepted s → ReadAs ρ s
  -- a plain payload that was read is written back the same
  pub read_writes : (ρ : R) (s : List ℕ) → Plain ρ s → ReadAs ρ s → written ρ ≡ accepted s

-- ---- kind 0

-- each field a u32
pub record Equi32 (ρ : EquiFields) : Type 0 where
  pub top : ρ.t < 2 ^ 32
  pub bottom : ρ.b < 2 ^ 32
  pub left : ρ.l < 2 ^ 32
  pub right : ρ.r < 2 ^ 32

-- n bytes, the three free ones 0
pub record PlainBytes (n : ℕ) (s : List ℕ) : Type 0 where
  pub size : length s ≡ n
  pub bytes : Bytes s
  pub free : field s 8 24 ≡ 0

abbrev pub EquiReads : Type 0
EquiReads = Reads EquiFields EquiSpells equi_read

abbrev pub EquiWrites : Type 0
EquiWrites = Writes EquiFields EquiSpells (λ ρ s. equi_read s ≡ accepted ρ) Equi32 equi_written (λ ρ s. PlainBytes 20 s)

-- ---- kind 1

abbrev pub CbmpReads : Type 0
CbmpReads = Reads ℕ CbmpSpells cbmp_read

abbrev pub CbmpWrites : Type 0
CbmpWrites =
    Writes ℕ CbmpSpells (λ p s. cbmp_read s ≡ accepted p) (λ p. p < 2 ^ 32) cbmp_written (λ p s. PlainBytes 12 s)

-- ---- kind 2

abbrev pub MeshesReads : Type 0
MeshesReads = Reads (List Mesh) MeshesSpell read_meshes

-- a mesh body, as `parse_mesh` reads it: within the limit, and spelled
abbrev pub BodySpells : Mesh → List ℕ → Type 0
BodySpells x s = (length s ≤ 67108864) × MeshSpells s x

abbrev pub MeshReads : Type 0
MeshReads = Reads Mesh BodySpells body_read

-- each word a u32
abbrev pub Words32 : List ℕ → Type 0
Words32 l = (i : ℕ) → slice_index l i < 2 ^ 32

-- a lone box with a short size, of at most 67,108,864 bytes, that ends with the byte of its last field; the free bits
-- are 0, those before the submesh count and those after the last field
pub record PlainBox (x : Mesh) (s : List ℕ) : Type 0 where
  pub bytes : Bytes s
  pub most : length s ≤ 67108864
  pub lone : size_at s 0 ≡ length s
  pub ends_there : length s ≡ 8 + (submeshes_end x + 7) / 8
  pub between : field s (64 + vertices_end x) (submeshes_at x - vertices_end x) ≡ 0
  pub after : field s (64 + submeshes_end x) (8 * length s - (64 + submeshes_end x)) ≡ 0

-- a mesh written from its four tables
abbrev pub written_of : Mesh → Verdict (List ℕ)
written_of x = mesh_written (pool_table x) (coordinate_table x) (submesh_table x) (point_table x)

-- the reading is the list of the mesh alone
abbrev pub MeshWrites : Type 0
MeshWrites =
    Writes Mesh (λ x s. MeshesSpell (x ∷ []) s) (λ x s. read_meshes s ≡ accepted (x ∷ [])) (λ x. Words32 x.pool)
    written_of PlainBox

-- what was written of four tables reads back as these tables: the box as a list of one mesh, and its body alone
pub record TablesBack (pool coordinates rows points s : List ℕ) : Type 0 where
  pub mesh : Mesh
  pub size : length s ≤ 67108864
  pub spells : MeshesSpell (mesh ∷ []) s
  pub box_reads : read_meshes s ≡ accepted (mesh ∷ [])
  pub body_reads : body_read (drop 8 s) ≡ accepted mesh
  pub pool_same : pool_table mesh ≡ pool
  pub coordinates_same : coordinate_table mesh ≡ coordinates
  pub rows_same : submesh_table mesh ≡ rows
  pub points_same : point_table mesh ≡ points

abbrev pub TablesRead : Type 0
TablesRead =
    (pool coordinates rows points s : List ℕ) → Words32 pool → mesh_written pool coordinates rows points ≡ accepted s
    → TablesBack pool coordinates rows points s
