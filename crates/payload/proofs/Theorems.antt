-- The theorems of this crate that crates above may cite: what specs/ states under a name, and laws of the definitions
-- that theirs are made of. Assumes nothing.
use Rattle.std.proofs.Common.{◌≡◌, ℕ, ◌+◌, ◌*◌, ◌≤◌, true, false, cond, ◌&&◌, List, ◌++◌, length, refl, le-leb}
use lib.Seq.{sets}
use lib.Ieee.{Float, of_bits, eq, le, lt}
use lib.Ieee.Scale.{finite}
use Rattle.bits.specs.Verdict.{Verdict, accepted, needs, declined, and_then, mapped}
use Rattle.bits.specs.Verdict.{limited}
use Rattle.payload.specs.Float.{f0, f1}
use Rattle.payload.specs.Crop.{usable, full}
use Rattle.payload.specs.Equi.{crop_of, equi_fields, equi_usable}
use Rattle.payload.specs.Sphere.{grid_usable, grid_triangles, grid_uvs, sphere_numbers, sphere_uvs}
use Rattle.payload.specs.Cube.{cells_usable, share_usable, cube_triangles, cube_points, cube_numbers, cube_floats}
use Rattle.payload.specs.Mesh.{Mesh}
use Rattle.payload.specs.MeshRead.{read_meshes}
use Rattle.payload.specs.MeshDrawing.{drawn_numbers, drawn_floats, drawn_records, submesh_total, point_total}
use Rattle.payload.specs.Meshes.{list_size}
use Rattle.payload.specs.EyeLaws.{EyeLaws}
use Rattle.payload.specs.LongLaws.{LongLaws}
use Rattle.payload.specs.TextureLaws.{RecordTextures, TexturesRead}
use Rattle.payload.specs.Laws.{EquiReads, EquiWrites, CbmpReads, CbmpWrites}
use Rattle.payload.specs.Laws.{MeshesReads, MeshReads, MeshWrites, TablesRead}
use Rattle.payload.specs.WrittenLaws.{EquiWritesInto, CbmpWritesInto, MeshWritesInto}
use Rattle.payload.specs.ShareLaws.{ShareLaws}
use Rattle.bits.specs.Refusals.{among, Claim}
use Rattle.payload.specs.Refusals.{EachCall, Refusals, NeverSixteen}
use Rattle.payload.specs.NanLaws.{NanLaws}
use Rattle.payload.specs.FiniteLaws.{FiniteLaws}
use Rattle.payload.specs.CropMarked.{CropMarked}
use Rattle.payload.specs.SphereMarked.{SphereMarked}
use Rattle.payload.specs.CubeMarked.{CubeMarked}
use Rattle.payload.specs.MeshMarked.{MeshMarked}
use Rattle.payload.specs.TextureMarked.{TextureMarked}
use Rattle.payload.specs.declared.crop.Bounds.{Bounds}
use Rattle.payload.specs.declared.equi.EquiFields.{EquiFields}
use Rattle.payload.proofs.FillLaws as fill
use Rattle.payload.proofs.PayloadLaws as payload
use Rattle.payload.proofs.PayloadLaws.{Early}
use Rattle.payload.proofs.EquiLaws as equi
use Rattle.payload.proofs.CbmpLaws as cbmp
use Rattle.payload.proofs.ShareProofs as share
use Rattle.payload.proofs.CropProofs as crop
use Rattle.payload.proofs.SphereMarked as sphere
use Rattle.payload.proofs.CubeMarked as cube
use Rattle.payload.proofs.MeshProofs as mesh
use Rattle.payload.proofs.MeshTheorems as meshes
use Rattle.payload.proofs.MeshWriteProofs as writing
use Rattle.payload.proofs.WrittenProofs as written
use Rattle.payload.proofs.MeasureLaws as measure
use Rattle.payload.proofs.EyeProofs as eye
use Rattle.payload.proofs.LongProofs as long
use Rattle.payload.proofs.TextureProofs as texture
use Rattle.payload.proofs.TextureMarked as texture-cases
use Rattle.payload.proofs.RefusalProofs as refusal
use Rattle.payload.proofs.NanProofs as nan
use Rattle.payload.proofs.FiniteProofs as finite-pools

-- ---- reading and writing, of specs/Laws.antt

pub equi_reads : EquiReads
equi_reads = equi.equi_reads

pub equi_writes : EquiWrites
equi_writes = equi.equi_writes

pub cbmp_reads : CbmpReads
cbmp_reads = cbmp.cbmp_reads

pub cbmp_writes : CbmpWrites
cbmp_writes = cbmp.cbmp_writes

pub meshes_reads : MeshesReads
meshes_reads = meshes.meshes_reads

pub mesh_reads : MeshReads
mesh_reads = meshes.mesh_reads

pub mesh_writes : MeshWrites
mesh_writes = writing.mesh_writes

pub tables_read : TablesRead
tables_read = writing.tables_read

-- ---- what a writer leaves in its buffer, of specs/WrittenLaws.antt

pub equi_writes_into : EquiWritesInto
equi_writes_into = written.equi_writes_into

pub cbmp_writes_into : CbmpWritesInto
cbmp_writes_into = written.cbmp_writes_into

pub mesh_writes_into : MeshWritesInto
mesh_writes_into = written.mesh_writes_into

-- ---- which refusals each call can give, of specs/Refusals.antt

pub refusals : Refusals
refusals = refusal.refusals

pub never_sixteen : NeverSixteen
never_sixteen = refusal.never_sixteen

pub map_calls : {P O P' O' : Claim}
    → ((A : Type 0) (ks : List ℕ) (v : Verdict A) → among 16 ks ≡ false → P A ks v → P' A ks v)
    → ((A : Type 0) (ks : List ℕ) (v : Verdict A) → among 16 ks ≡ false → O A ks v → O' A ks v)
    → EachCall P O → EachCall P' O'
map_calls = refusal.map_calls

-- ---- whose a submesh is, of specs/EyeLaws.antt

pub eye_laws : EyeLaws
eye_laws = eye.eye_laws

-- ---- boxes with a long size, of specs/LongLaws.antt

pub long_laws : LongLaws
long_laws = long.long_laws

-- ---- the points of each texture, of specs/TextureLaws.antt

pub record_textures : RecordTextures
record_textures = texture.record_textures

pub textures-read : TexturesRead
textures-read = texture.textures-read

-- ---- where a float is a number, of specs/NanLaws.antt

pub nan_laws : NanLaws
nan_laws = nan.nan_laws

-- ---- pools of finite words, of specs/FiniteLaws.antt

pub finite_laws : FiniteLaws
finite_laws = finite-pools.finite_laws

-- ---- a cube's padding, of specs/ShareLaws.antt

pub share_laws : ShareLaws
share_laws = share.share_laws

-- ---- m1 and m4 to m8, of the files in specs/ whose names end with Marked

pub mesh_marked : MeshMarked
mesh_marked = mesh.mesh_marked

pub texture_marked : TextureMarked
texture_marked = texture-cases.texture_marked

pub crop_marked : CropMarked
crop_marked = crop.crop_marked

pub sphere_marked : SphereMarked
sphere_marked = sphere.marked

pub cube_marked : CubeMarked
cube_marked = cube.cube_marked

-- ---- a payload's limit

module _ {A B : Type 0} (s : List ℕ) where
  pub limited_then : (v : Verdict A) (f : A → Verdict B) → limited s (and_then v f) ≡ and_then (limited s v) f
  limited_then = payload.limited_then s

  pub limited_mapped : (f : A → B) (v : Verdict A) → limited s (mapped f v) ≡ mapped f (limited s v)
  limited_mapped = payload.limited_mapped s

-- what is declined with 4 at most, `Early`, is so within the limit
pub early_limited : {A : Type 0} (s : List ℕ) (v : Verdict A) → Early v → Early (limited s v)
early_limited = payload.early_limited

-- ---- kind 0: its fields are declined with 3 or 4, and what a usable crop tells

pub fields-refusal : (s : List ℕ) → Early (equi_fields s)
fields-refusal = equi.fields-refusal

pub usable-read : (ρ ρ' : EquiFields) → equi_usable ρ ≡ accepted ρ' → (usable (crop_of ρ) ≡ true) × (ρ ≡ ρ')
usable-read = equi.usable-read

-- ---- what makes lists, by its tests

pub sphere_numbers_lem : (rings sectors : ℕ) (b : Bounds)
    → sphere_numbers rings sectors b
    ≡ cond (grid_usable rings sectors)
    (cond (usable b) (accepted (grid_triangles rings sectors (eq b.top f0) (eq b.bottom f0))) (declined 10))
    (declined 9)
unfolding sphere_numbers
sphere_numbers_lem rings sectors b = refl

pub sphere_uvs_law : (rings sectors : ℕ)
    → sphere_uvs rings sectors ≡ cond (grid_usable rings sectors) (accepted (grid_uvs rings sectors)) (declined 9)
unfolding sphere_uvs
sphere_uvs_law rings sectors = refl

pub cube_numbers_lem : (cells : ℕ)
    → cube_numbers cells ≡ cond (cells_usable cells) (accepted (cube_triangles cells)) (declined 9)
unfolding cube_numbers
cube_numbers_lem cells = refl

pub cube_floats_lem : (cells : ℕ) (radius share : Float)
    → cube_floats cells radius share
    ≡ cond (cells_usable cells)
    (cond (finite radius && share_usable share) (accepted (cube_points cells radius share)) (declined 11)) (declined 9)
unfolding cube_floats
cube_floats_lem cells radius share = refl

pub list_size_lem : (l : List Mesh)
    → list_size l
    ≡ record {
      meshes = length l;
      submeshes = submesh_total l;
      points = point_total l;
      numbers = length (drawn_numbers l);
      floats = length (drawn_floats l);
      records = length (drawn_records l);
    }
unfolding list_size
list_size_lem l = refl

-- ---- and the tests themselves

pub crop-tested : (ρ : EquiFields) → equi_usable ρ ≡ cond (usable (crop_of ρ)) (accepted ρ) (declined 10)
unfolding equi_usable
crop-tested ρ = refl

pub grid_in_limits : (rings sectors : ℕ) → 2 ≤ rings → 3 ≤ sectors → (rings + 1) * (sectors + 1) ≤ 65536
    → grid_usable rings sectors ≡ true
unfolding grid_usable
grid_in_limits rings sectors a b c = simp (le-leb 2 rings a, le-leb 3 sectors b, le-leb ((rings + 1) * (sectors + 1)) 65536 c)

pub cells_in_limits : (cells : ℕ) → 1 ≤ cells → cells ≤ 103 → cells_usable cells ≡ true
unfolding cells_usable
cells_in_limits cells a b = simp (le-leb 1 cells a, le-leb cells 103 b)

pub full-usable : usable full ≡ true
full-usable = crop.full-usable

pub one-unusable : share_usable f1 ≡ false
unfolding share_usable of_bits le lt
one-unusable = refl

-- ---- kind 2: it is read or refused by its bytes alone, and what was read takes its room among them

pub never_needs : (s l : List ℕ) → read_meshes s ≡ needs l → ⊥
never_needs = refusal.never_needs

-- a mesh takes a byte, a coordinate number and a point a bit, and a submesh 48 bits or more
pub list_fits : (s : List ℕ) (l : List Mesh) → read_meshes s ≡ accepted l
    → (length l ≤ length s) × (measure.coordinate_total l + 48 * submesh_total l + point_total l ≤ 8 * length s)
list_fits = measure.list_fits

pub records-length : (l : List Mesh) → length (drawn_records l) ≡ 5 * submesh_total l
records-length = measure.records-length

-- ---- stores

-- one list after another, from a place on
pub sets-append : (p q d : List ℕ) (o : ℕ) → sets d o (p ++ q) ≡ sets (sets d o p) (o + length p) q
sets-append = fill.sets-append
