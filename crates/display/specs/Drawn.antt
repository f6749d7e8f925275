-- The triangles of what is drawn of a payload: `triangles` takes the records that the buffers of `parse_meshes` and of
-- the scene call begin with, where no mode is above 2, and each number that it lists is a point of that drawing. The
-- proofs are in proofs/DrawnProofs.antt.
use Rattle.std.specs.Prelude.{ℕ, ◌+◌, ◌*◌, ◌≤◌, ◌≡◌, length}
use mathlib.Core.List.{List, Memᴰ}
use Rattle.bits.specs.Verdict.{accepted, limited}
use Rattle.payload.specs.Mesh.{Submesh, Mesh}
use Rattle.payload.specs.MeshRead.{read_meshes}
use Rattle.payload.specs.MeshDrawing.{drawn_floats, drawn_records}
use Rattle.scene.specs.Scene.{mesh, Call}
use Rattle.scene.specs.Laws.{InLimits, FittingReading, drawn}
use Rattle.display.specs.Triangles.{triangles_made}

abbrev pub ModesKnown : List Mesh → Type 0
ModesKnown l = (x : Mesh) → Memᴰ x l → (y : Submesh) → Memᴰ y x.submeshes → y.mode ≤ 2

-- of records, and of floats, five to a point: there are triangles, and the floats of each point that they list
pub record Triangulated (records floats : List ℕ) : Type 0 where
  pub triangles : List ℕ
  pub made : triangles_made records ≡ accepted triangles
  pub points : (p : ℕ) → Memᴰ p triangles → 5 * p + 5 ≤ length floats

pub record DrawnTriangles : Type 0 where
  pub parse_meshes : (s : List ℕ) (l : List Mesh) → limited s (read_meshes s) ≡ accepted l → ModesKnown l
      → Triangulated (drawn_records l) (drawn_floats l)
  pub scene : (c : Call) → InLimits mesh c → (ρ : FittingReading mesh c) → ModesKnown ρ.reading
      → Triangulated (drawn ρ).records (drawn ρ).floats
