-- The theorems about the walk and about looking up, by name. The proofs are in proofs/Theorems.antt.
use Rattle.std.specs.Prelude.{ℕ, suc, ◌+◌, ◌*◌, ◌≤◌, ◌<◌, ◌≡◌, List, [], ◌∷◌, map, length, get_or}
use Rattle.bits.specs.Verdict.{accepted, needs, declined, limited}
use Rattle.bits.specs.Number.{Moves}
use Rattle.bits.specs.Read.{field_at}
use Rattle.payload.specs.Lent.{Plan, answer_for}
use Rattle.payload.specs.Mesh.{Mesh}
use Rattle.payload.specs.MeshRead.{read_meshes}
use Rattle.payload.specs.MeshDrawing.{drawn_records}
use Rattle.payload.specs.Places.{body_of, Standing, submesh_found}
use Rattle.payload.specs.StandingLaws.{list_submeshes, IsNumber}
use Rattle.alignment.specs.Walk.{start, step, walk, walk_of}
use Rattle.alignment.specs.LookUp.{farthest, vertex_at, looked_up}
use Rattle.alignment.specs.declared.walk.Walk.{Walk}

-- ---- the walk

-- a step from one state to the next: it reads the field that stands at its place, exactly that field takes the running
-- number on, below the limit, and the count of fields is raised by one
pub record OneField (s : List ℕ) (w limit : ℕ) (v u : Walk) : Type 0 where
  pub field : ℕ
  pub read : field_at s v.bit w ≡ accepted (field, u.bit)
  pub moves : Moves field v.number u.number
  pub below : u.number < limit
  pub place : u.bit ≡ v.bit + w
  pub taken : u.taken ≡ v.taken + 1

pub record WalkLaws : Type 0 where
  pub each_step : (s : List ℕ) (w limit : ℕ) (v u : Walk) → step s w limit v ≡ accepted u → OneField s w limit v u
  -- the walk is a run of that step, from a state with no field taken
  pub starts : (s : List ℕ) (w limit p : ℕ) → walk s w limit p 0 ≡ accepted (start p)
  pub goes_on : (s : List ℕ) (w limit p n : ℕ) (u : Walk) → walk s w limit p (suc n) ≡ accepted u
      → (v : Walk) × (walk s w limit p n ≡ accepted v) × (step s w limit v ≡ accepted u)
  -- so after n steps n fields are taken, and the place has gone past as many
  pub taken : (s : List ℕ) (w limit p n : ℕ) (v : Walk) → walk s w limit p n ≡ accepted v → v.taken ≡ n
  pub place : (s : List ℕ) (w limit p n : ℕ) (v : Walk) → walk s w limit p n ≡ accepted v → v.bit ≡ p + n * w

-- ---- the largest asked number plus one, or 0 for no question

pub record FarthestLaws : Type 0 where
  pub none : farthest [] ≡ 0
  pub above : (asked : List ℕ) (i : ℕ) → i < length asked → get_or asked i 0 < farthest asked
  pub reached : (asked : List ℕ) → 0 < length asked
      → (i : ℕ) × (i < length asked) × (farthest asked ≡ suc (get_or asked i 0))

-- ---- looking up

-- the numbers can be asked of the submesh with record number j of some meshes: there is one, they are at most 256, and
-- each is below its index count, the last word of its record
pub record CanAsk (l : List Mesh) (j : ℕ) (asked : List ℕ) : Type 0 where
  pub there : 5 * j < length (drawn_records l)
  pub few : length asked ≤ 256
  pub below : (i : ℕ) → i < length asked → get_or asked i 0 < get_or (drawn_records l) (5 * j + 4) 0

-- what is handed out for a payload that is read as l, a record number and asked numbers that are accepted
pub record HandedOut (s : List ℕ) (l : List Mesh) (j : ℕ) (asked : List ℕ) (p : Plan ℕ) : Type 0 where
  pub can : CanAsk l j asked
  -- the submesh with that number of the reading, and the last state of the walk over its fields
  pub standing : Standing
  pub found : submesh_found s j ≡ accepted standing
  pub of_reading : IsNumber (list_submeshes l) j standing.submesh
  pub last : Walk
  pub walked : walk_of (body_of s standing) standing.place.run (farthest asked) ≡ accepted last
  -- the count is the last state's, and so it is the largest asked number plus one, or 0 for no question
  pub count : p.answer ≡ last.taken
  pub fields : p.answer ≡ farthest asked
  -- each result is the vertex number that the reading has at that point, in the bench's order
  pub results : p.lists ≡ map (vertex_at standing.submesh) asked ∷ []
  pub has : (i : ℕ) → i < length asked → get_or asked i 0 < length standing.submesh.points
  -- and it is the running number of the walk after the step that takes that point's field
  pub met : (i : ℕ) → i < length asked
      → (v : Walk) × (walk_of (body_of s standing) standing.place.run (suc (get_or asked i 0)) ≡ accepted v)
      × (v.number ≡ vertex_at standing.submesh (get_or asked i 0))

pub record LookUpLaws : Type 0 where
  pub handed_out : (s : List ℕ) (l : List Mesh) (j : ℕ) (asked : List ℕ) (p : Plan ℕ)
      → limited s (read_meshes s) ≡ accepted l → looked_up s j asked ≡ accepted p → HandedOut s l j asked p
  -- the payload's own refusals come first; then 24, exactly where the numbers cannot be asked
  pub payload_first : (s : List ℕ) (j : ℕ) (asked : List ℕ) (k : ℕ) → limited s (read_meshes s) ≡ declined k
      → looked_up s j asked ≡ declined k
  pub accepts : (s : List ℕ) (l : List Mesh) (j : ℕ) (asked : List ℕ) → limited s (read_meshes s) ≡ accepted l
      → CanAsk l j asked → (p : Plan ℕ) × (looked_up s j asked ≡ accepted p)
  pub twenty_four : (s : List ℕ) (l : List Mesh) (j : ℕ) (asked : List ℕ) → limited s (read_meshes s) ≡ accepted l
      → (CanAsk l j asked → ⊥) → looked_up s j asked ≡ declined 24
  -- and before 12, whatever is lent
  pub first : (s : List ℕ) (l : List Mesh) (j : ℕ) (asked : List ℕ) (buffers : List (List ℕ))
      → limited s (read_meshes s) ≡ accepted l → (CanAsk l j asked → ⊥)
      → answer_for (looked_up s j asked) buffers ≡ declined 24
  -- 12 tells the number of questions
  pub twelve : (s : List ℕ) (l : List Mesh) (j : ℕ) (asked b : List ℕ) → limited s (read_meshes s) ≡ accepted l
      → CanAsk l j asked → length b < length asked
      → answer_for (looked_up s j asked) (b ∷ []) ≡ needs (length asked ∷ [])
