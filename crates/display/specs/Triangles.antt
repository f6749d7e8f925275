-- The triangles of a drawing's submeshes: three point numbers each, submesh after submesh.
use Rattle.std.specs.Prelude.{ℕ, ◌+◌, ◌-◌, ◌*◌, ◌/◌, ◌%◌, List, [], ◌∷◌, ◌++◌, map, Bool, true, ◌&&◌, cond, leb, eqb}
use Rattle.std.specs.Prelude.{length}
use Rattle.bits.specs.Verdict.{Verdict, accepted, declined}
use Rattle.payload.specs.Fill.{each}
use Rattle.payload.specs.MeshSpells.{sizes}
use Rattle.payload.specs.Records.{records_in, point_sum}
use Rattle.payload.specs.declared.mesh.records.Record.{Record}

-- ---- a record's

-- how many n points give: mode 0 takes them in threes, modes 1 and 2 have one for each point from the third on
unfoldable pub triangle_count : ℕ → ℕ → ℕ
triangle_count mode n = cond (eqb mode 0) (n / 3) (n - 2)

-- of a strip, the first two are exchanged when k is odd
abbrev pub strip_corners : ℕ → List ℕ
strip_corners k = cond (eqb (k % 2) 0) (k ∷ (k + 1) ∷ (k + 2) ∷ []) ((k + 1) ∷ k ∷ (k + 2) ∷ [])

-- the points of triangle k, counted from the record's first one: threes, a strip, a fan
unfoldable pub corners : ℕ → ℕ → List ℕ
corners mode k =
    cond (eqb mode 0) ((3 * k) ∷ (3 * k + 1) ∷ (3 * k + 2) ∷ [])
    (cond (eqb mode 1) (strip_corners k) (0 ∷ (k + 1) ∷ (k + 2) ∷ []))

-- to each of them the first point is added
abbrev pub corners_from : ℕ → ℕ → ℕ → List ℕ
corners_from mode first k = map (λ p. first + p) (corners mode k)

abbrev pub triangle_at : Record → ℕ → List ℕ
triangle_at r k = corners_from r.mode r.first k

unfoldable pub record_triangles : Record → List ℕ
record_triangles r = each (triangle_at r) (triangle_count r.mode r.points)

-- ---- of all records

unfoldable pub triangles_of : List Record → List ℕ
triangles_of [] = []
triangles_of (r ∷ l) = record_triangles r ++ triangles_of l

-- a mode of at most 2, and points that have numbers
abbrev pub record_usable : Record → Bool
record_usable r = leb r.mode 2 && leb (r.first + r.points) 4294967295

unfoldable pub all_usable : List Record → Bool
all_usable [] = true
all_usable (r ∷ l) = record_usable r && all_usable l

abbrev pub triangle_sum : List Record → ℕ
triangle_sum l = sizes (λ (r : Record). triangle_count r.mode r.points) l

-- whole fives, each of them usable, and all their points together not above 4,294,967,295
abbrev pub records_usable : List ℕ → Bool
records_usable words =
    eqb (length words % 5) 0 && (all_usable (records_in words) && leb (point_sum (records_in words)) 4294967295)

-- 15, or the triangles
unfoldable pub triangles_made : List ℕ → Verdict (List ℕ)
triangles_made words = cond (records_usable words) (accepted (triangles_of (records_in words))) (declined 15)
