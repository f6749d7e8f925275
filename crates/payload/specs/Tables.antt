-- A mesh body as four tables: what the call says, and what it leaves in the buffers.
use Rattle.std.specs.Prelude.{ℕ, List, [], ◌∷◌, ◌++◌, length, Result}
use Rattle.bits.specs.Verdict.{Verdict, mapped}
use Rattle.payload.specs.Lent.{Plan}
use Rattle.bits.specs.Verdict.{limited}
use Rattle.payload.specs.Mesh.{Submesh, Mesh}
use Rattle.payload.specs.MeshRead.{read_mesh}
use Rattle.payload.specs.declared.mesh.measure.TableLengths.{TableLengths}
use Rattle.bits.specs.Says.{says, fill_says}
use Rattle.bits.specs.declared.refusals.Refusal.{Refusal}
use Rattle.bits.specs.declared.refusals.FillError.{FillError}

-- ---- the four lists of a mesh: its pool, its coordinate numbers, and these two

-- three words for each submesh: texture, mode, point count
unfoldable pub submesh_rows : List Submesh → List ℕ
submesh_rows [] = []
submesh_rows (x ∷ l) = (x.texture ∷ x.mode ∷ length x.points ∷ []) ++ submesh_rows l

-- the vertex numbers of the points, submesh after submesh
unfoldable pub all_points : List Submesh → List ℕ
all_points [] = []
all_points (x ∷ l) = x.points ++ all_points l

abbrev pub pool_table : Mesh → List ℕ
pool_table x = x.pool

abbrev pub coordinate_table : Mesh → List ℕ
coordinate_table x = x.vertices

abbrev pub submesh_table : Mesh → List ℕ
submesh_table x = submesh_rows x.submeshes

abbrev pub point_table : Mesh → List ℕ
point_table x = all_points x.submeshes

unfoldable pub table_lengths : Mesh → TableLengths
table_lengths x =
    record {
      pool = length (pool_table x);
      coordinates = length (coordinate_table x);
      submeshes = length (submesh_table x);
      points = length (point_table x);
    }

-- ---- a body, and the lengths of its tables

-- its mesh, or the number of a refusal: 2, then 3, 7, 8 and 17 in field order
abbrev pub body_read : List ℕ → Verdict Mesh
body_read s = limited s (mapped (λ x. x.0) (read_mesh s))

abbrev pub table_lengths_says : Result TableLengths Refusal → Verdict TableLengths
table_lengths_says r = says (λ n. n) r

-- ---- reading a body into four buffers

-- the lengths of its tables, and the tables
abbrev pub tables_of : Mesh → Plan TableLengths
tables_of x =
    record {
      answer = table_lengths x;
      lists = pool_table x ∷ coordinate_table x ∷ submesh_table x ∷ point_table x ∷ [];
    }

abbrev pub tables_plan : List ℕ → Verdict (Plan TableLengths)
tables_plan s = mapped tables_of (body_read s)

abbrev pub tables_says : Result TableLengths (FillError TableLengths) → Verdict TableLengths
tables_says r = fill_says (λ n. n) (λ n. n.pool ∷ n.coordinates ∷ n.submeshes ∷ n.points ∷ []) r
