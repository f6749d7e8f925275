-- The records of a drawing make triangles, and each number is a point of the drawing. Assumes nothing.
use Prim.Native.Nat.{ℕ, ◌+◌, ◌≤◌}
use mathlib.Core.Path.{◌≡◌, refl, ◌∙◌}
use mathlib.Core.List.Memᴰ
use mathlib.Core.List.{List, [], ◌∷◌, ◌++◌}
use native.Mathlib.Omega.{arith}
use lib.ListN.{length}
use Rattle.bits.specs.Verdict.{accepted, limited}
use Rattle.bits.proofs.VerdictLaws.{limited_yes}
use Rattle.payload.specs.Mesh.{Submesh, Mesh}
use Rattle.payload.specs.MeshRead.{read_meshes}
use Rattle.payload.specs.MeshDrawing.{drawn_floats, submesh_records, records_from, first_eye, drawn_records, point_count, point_total}
use Rattle.payload.proofs.PayloadLaws.{limited_value}
use Rattle.payload.proofs.MeasureLaws.{list_fits, floats-length, records-length}
use Rattle.payload.proofs.RecordLaws.{drawn-sum}
use Rattle.payload.proofs.MeshTheorems.{meshes_reads}
use Rattle.payload.proofs.AllLaws.{All, nil_all, cons_all}
use Rattle.scene.specs.Scene.{mesh, Call}
use Rattle.scene.specs.Laws.{InLimits, FittingReading, drawn}
use Rattle.payload.specs.Records.{records_in}
use Rattle.display.specs.Triangles.{triangles_of}
use Rattle.display.specs.Laws.{UsableRecords}
use Rattle.display.specs.Drawn.{ModesKnown, Triangulated, DrawnTriangles}
use Rattle.payload.specs.declared.mesh.records.Record.{Record}
use Rattle.display.proofs.TriangleLaws.{range}
use Rattle.display.proofs.Theorems.{triangles_all, made}

-- a mode of at most 2, and points up to the last
abbrev Drawn : ℕ → Record → Type 0
Drawn last r = (r.mode ≤ 2) × (r.first + r.points ≤ last)

abbrev Known : List Submesh → Type 0
Known l = All (λ (y : Submesh). y.mode ≤ 2) l

-- ---- the records of submeshes, and words after them

module _ (number : ℕ) (words : List ℕ) where
  submeshes_drawn : (first last : ℕ) (l : List Submesh) → Known l → first + point_count l ≤ last
      → All (Drawn last) (records_in words) → All (Drawn last) (records_in (submesh_records number first l ++ words))
  unfolding submesh_records records_in
  submeshes_drawn first last [] k h more = more
  submeshes_drawn first last (x ∷ l) k h more =
      cons_all _ (k x (Memᴰ.head refl), omega arith)
      (submeshes_drawn (first + length x.points) last l (λ y m. k y (Memᴰ.tail m)) (omega arith) more)

-- ---- the records of meshes

meshes_drawn : (number first last : ℕ) (l : List Mesh) → ModesKnown l → first + point_total l ≤ last
    → All (Drawn last) (records_in (records_from number first l))
unfolding records_from records_in
meshes_drawn number first last [] k h = nil_all _
meshes_drawn number first last (x ∷ l) k h =
    submeshes_drawn number (records_from (number + 1) (first + point_count x.submeshes) l) first last x.submeshes
    (k x (Memᴰ.head refl)) (omega arith)
    (meshes_drawn (number + 1) (first + point_count x.submeshes) last l (λ y m. k y (Memᴰ.tail m)) (omega arith))

-- ---- the drawing

module _ (s : List ℕ) (l : List Mesh) (e : limited s (read_meshes s) ≡ accepted l) (k : ModesKnown l) where
  few : point_total l ≤ 536870912
  few = let t = limited_value s (read_meshes s) l e in omega (arith, t.0, (list_fits s l t.1).1)

  all_drawn : All (Drawn (point_total l)) (records_in (drawn_records l))
  all_drawn = meshes_drawn (first_eye (length l)) 0 (point_total l) l k (omega arith)

  usable : UsableRecords (drawn_records l)
  usable =
      record {
        whole = omega (arith, records-length l);
        modes = λ r m. (all_drawn r m).0;
        points = λ r m. omega (arith, (all_drawn r m).1, few);
        together = omega (arith, drawn-sum (first_eye (length l)) 0 l, few);
      }

  pub triangulated : Triangulated (drawn_records l) (drawn_floats l)
  triangulated =
      record {
        triangles = triangles_of (records_in (drawn_records l));
        made = made (drawn_records l) usable;
        points =
            triangles_all _ (records_in (drawn_records l)) (λ r m p i. omega (arith, range r p i, (all_drawn r m).1, floats-length l));
      }

of_scene : (c : Call) → InLimits mesh c → (ρ : FittingReading mesh c) → ModesKnown ρ.reading
    → Triangulated (drawn ρ).records (drawn ρ).floats
of_scene c i ρ k =
    triangulated c.payload ρ.reading
    (limited_yes c.payload _ i.size ∙ (meshes_reads.reads ρ.reading c.payload).1 ρ.spells) k

pub drawn-triangles : DrawnTriangles
drawn-triangles = record { parse_meshes = triangulated; scene = of_scene }
