-- What the calls of kind 2 say, and what they leave in the buffers.
use Rattle.std.specs.Prelude.{ℕ, List, [], ◌∷◌, length, Result}
use Rattle.bits.specs.Verdict.{Verdict, mapped}
use Rattle.payload.specs.Lent.{Plan}
use Rattle.bits.specs.Verdict.{limited}
use Rattle.payload.specs.Mesh.{Mesh}
use Rattle.payload.specs.MeshRead.{read_meshes}
use Rattle.payload.specs.MeshDrawing.{drawn_numbers, drawn_floats, drawn_records, submesh_total, point_total}
use Rattle.bits.specs.Says.{says, fill_says}
use Rattle.bits.specs.declared.refusals.Refusal.{Refusal}
use Rattle.bits.specs.declared.refusals.FillError.{FillError}
use Rattle.payload.specs.declared.mesh.draw.DrawingLengths.{DrawingLengths}
use Rattle.payload.specs.declared.mesh.records.ListCounts.{ListCounts}
use Rattle.payload.specs.declared.mesh.measure.MeshListSize.{MeshListSize}

-- a mesh list by its counts, and the lengths of its drawing's three lists
unfoldable pub list_size : List Mesh → MeshListSize
list_size l =
    record {
      meshes = length l;
      submeshes = submesh_total l;
      points = point_total l;
      numbers = length (drawn_numbers l);
      floats = length (drawn_floats l);
      records = length (drawn_records l);
    }

abbrev pub measured_says : Result MeshListSize Refusal → Verdict MeshListSize
measured_says r = says (λ n. n) r

-- ---- drawing a payload's mesh list into three buffers

-- its size, and the three lists of its drawing
abbrev pub drawn_meshes : List Mesh → Plan MeshListSize
drawn_meshes l = record { answer = list_size l; lists = drawn_numbers l ∷ drawn_floats l ∷ drawn_records l ∷ [] }

-- 2, then 3, 6, 7, 8, 17 and 18 in payload order
abbrev pub meshes_plan : List ℕ → Verdict (Plan MeshListSize)
meshes_plan s = mapped drawn_meshes (limited s (read_meshes s))

abbrev pub meshes_says : Result MeshListSize (FillError DrawingLengths) → Verdict MeshListSize
meshes_says r = fill_says (λ n. n) (λ n. n.numbers ∷ n.floats ∷ n.records ∷ []) r

-- ---- its records alone, into one buffer

-- meshes, submeshes and points
abbrev pub list_counts : List Mesh → ℕ × ℕ × ℕ
list_counts l = (length l, submesh_total l, point_total l)

abbrev pub recorded_meshes : List Mesh → Plan (ℕ × ℕ × ℕ)
recorded_meshes l = record { answer = list_counts l; lists = drawn_records l ∷ [] }

abbrev pub records_plan : List ℕ → Verdict (Plan (ℕ × ℕ × ℕ))
records_plan s = mapped recorded_meshes (limited s (read_meshes s))

abbrev pub records_says : Result ListCounts (FillError ℕ) → Verdict (ℕ × ℕ × ℕ)
records_says r = fill_says (λ n. (n.meshes, n.submeshes, n.points)) (λ n. n ∷ []) r
