-- The theorems about the submesh that is found by its record number, by name. The proofs are in
-- proofs/StandingProofs.antt.
use Rattle.std.specs.Prelude.{◌≡◌, ℕ, ◌+◌, ◌*◌, ◌<◌, ◌≤◌, List, [], ◌∷◌, ◌++◌, length, get_or, take, slice_index_or}
use Rattle.bits.specs.Verdict.{accepted, declined, limited}
use Rattle.bits.specs.Number.{width_of}
use Rattle.bits.specs.declared.fields.runs.Run.{Run}
use Rattle.payload.specs.Mesh.{Submesh, Mesh}
use Rattle.payload.specs.MeshSpells.{SubmeshSpells, submesh_bits, sizes, mesh_vertices, submeshes_at, MeshSpells}
use Rattle.payload.specs.MeshSpells.{type_at, body_at, end_at, mesh_type, WholeBox}
use Rattle.payload.specs.MeshRead.{read_meshes}
use Rattle.payload.specs.MeshDrawing.{drawn_records, submesh_total}
use Rattle.payload.specs.EyeLaws.{BoxesUpTo}
use Rattle.payload.specs.Places.{Standing, body_of, submesh_found}

-- ---- which submesh it is

-- the submeshes of some meshes, one after the other, as their records are
unfoldable pub list_submeshes : List Mesh → List Submesh
list_submeshes [] = []
list_submeshes (x ∷ l) = x.submeshes ++ list_submeshes l

-- what stands where there is no submesh
abbrev pub no_submesh : Submesh
no_submesh = record { texture = 0; mode = 0; points = [] }

-- x is number n of some submeshes
abbrev pub IsNumber : List Submesh → ℕ → Submesh → Type 0
IsNumber l n x = (n < length l) × (x ≡ slice_index_or l n no_submesh)

-- record number j of some words, five to a record, is a submesh's
pub record RecordOf (words : List ℕ) (j : ℕ) (x : Submesh) : Type 0 where
  pub there : 5 * j + 5 ≤ length words
  pub texture : get_or words (5 * j + 1) 0 ≡ x.texture
  pub mode : get_or words (5 * j + 2) 0 ≡ x.mode
  pub points : get_or words (5 * j + 4) 0 ≡ length x.points

-- ---- where it stands

-- some submeshes stand one after the other from bit p of a body with m vertices on: the bit where number n begins
abbrev pub begins_at : ℕ → ℕ → List Submesh → ℕ → ℕ
begins_at m p l n = p + sizes (submesh_bits (width_of m)) (take n l)

-- x is number n of them: it is spelled there, and the fields of its points are the run
pub record StandsIn (s : List ℕ) (m p : ℕ) (l : List Submesh) (n : ℕ) (x : Submesh) (run : Run) : Type 0 where
  pub is : IsNumber l n x
  pub spells : SubmeshSpells s (width_of m) m (begins_at m p l n) x
  pub place : run.bit ≡ begins_at m p l n + 48
  pub limit : run.limit ≡ m
  pub count : run.count ≡ length x.points

-- x is submesh number j of the boxes from byte p on, counted through the meshes that they hold: it is number `number`
-- of the mesh in the box at byte `at`, and the boxes before that one hold the meshes `before`
pub record Stands (s : List ℕ) (p j : ℕ) (x : Standing) : Type 0 where
  pub short : length s ≤ 67108864
  pub at : ℕ
  pub before : List Mesh
  pub up_to : BoxesUpTo s p at before
  pub box : WholeBox s at
  pub type : type_at s at ≡ mesh_type
  pub starts : x.place.body ≡ body_at s at
  pub ends : x.place.end ≡ end_at s at
  pub mesh : Mesh
  pub body : MeshSpells (body_of s x) mesh
  pub number : ℕ
  pub counted : submesh_total before + number ≡ j
  pub inside : StandsIn (body_of s x) (mesh_vertices mesh) (submeshes_at mesh + 32) mesh.submeshes number x.submesh
      x.place.run

pub record StandingLaws : Type 0 where
  pub stands : (s : List ℕ) (j : ℕ) (x : Standing) → submesh_found s j ≡ accepted x → Stands s 0 j x
  -- of a payload that is read: it is submesh number j of the reading
  pub of_reading : (s : List ℕ) (l : List Mesh) (j : ℕ) (x : Standing) → limited s (read_meshes s) ≡ accepted l
      → submesh_found s j ≡ accepted x → IsNumber (list_submeshes l) j x.submesh
  -- and that of record number j, where there is one, and else there is none
  pub record_number : (s : List ℕ) (l : List Mesh) (j : ℕ) (x : Standing) → limited s (read_meshes s) ≡ accepted l
      → submesh_found s j ≡ accepted x → RecordOf (drawn_records l) j x.submesh
  pub there : (s : List ℕ) (l : List Mesh) (j : ℕ) → limited s (read_meshes s) ≡ accepted l
      → 5 * j < length (drawn_records l) → (x : Standing) × (submesh_found s j ≡ accepted x)
  pub not_there : (s : List ℕ) (l : List Mesh) (j : ℕ) → limited s (read_meshes s) ≡ accepted l
      → length (drawn_records l) ≤ 5 * j → submesh_found s j ≡ declined 24
