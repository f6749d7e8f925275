-- The theorems about the triangles of records, by name. The proofs are in proofs/Theorems.antt.
use Rattle.std.specs.Prelude.{ℕ, ◌+◌, ◌*◌, ◌%◌, ◌≤◌, ◌<◌, ◌≡◌, ◌↔◌, length, get_or}
use mathlib.Core.List.{List, [], ◌∷◌, ◌++◌, Memᴰ}
use Rattle.bits.specs.Verdict.{accepted, declined}
use Rattle.payload.specs.Records.{records_in, point_sum}
use Rattle.display.specs.Triangles.{triangle_count, corners, record_triangles, triangles_of}
use Rattle.display.specs.Triangles.{triangle_sum, triangles_made}
use Rattle.payload.specs.declared.mesh.records.Record.{Record}

-- the points of triangle k of each mode, counted from the record's first one
pub record ModeLaws : Type 0 where
  pub threes : (k : ℕ) → corners 0 k ≡ (3 * k) ∷ (3 * k + 1) ∷ (3 * k + 2) ∷ []
  pub strip_even : (k : ℕ) → corners 1 (2 * k) ≡ (2 * k) ∷ (2 * k + 1) ∷ (2 * k + 2) ∷ []
  pub strip_odd : (k : ℕ) → corners 1 (2 * k + 1) ≡ (2 * k + 2) ∷ (2 * k + 1) ∷ (2 * k + 3) ∷ []
  pub fan : (k : ℕ) → corners 2 k ≡ 0 ∷ (k + 1) ∷ (k + 2) ∷ []

-- whatever the mode
pub record TriangleLaws : Type 0 where
  -- triangle k is there exactly where all its points are among the n
  pub there : (mode n k : ℕ) → (k < triangle_count mode n) ↔ ((p : ℕ) → Memᴰ p (corners mode k) → p < n)
  -- three numbers for each triangle, of a record and of all
  pub count : (r : Record) → length (record_triangles r) ≡ 3 * triangle_count r.mode r.points
  pub total : (l : List Record) → length (triangles_of l) ≡ 3 * triangle_sum l
  -- triangle k has place k, and its points are the corners of its mode with the record's first point added
  pub point : (r : Record) (k i : ℕ) → k < triangle_count r.mode r.points → i < 3
      → get_or (record_triangles r) (3 * k + i) 0 ≡ r.first + get_or (corners r.mode k) i 0
  -- each of them is a point of the record
  pub range : (r : Record) (p : ℕ) → Memᴰ p (record_triangles r) → (r.first ≤ p) × (p < r.first + r.points)
  -- fewer than three points give none
  pub few : (r : Record) → r.points < 3 → record_triangles r ≡ []
  -- the order is that of the records
  pub order : (l m : List Record) → triangles_of (l ++ m) ≡ triangles_of l ++ triangles_of m

-- words that triangles can be made of
pub record UsableRecords (words : List ℕ) : Type 0 where
  pub whole : length words % 5 ≡ 0
  pub modes : (r : Record) → Memᴰ r (records_in words) → r.mode ≤ 2
  pub points : (r : Record) → Memᴰ r (records_in words) → r.first + r.points ≤ 4294967295
  pub together : point_sum (records_in words) ≤ 4294967295

pub record TrianglesExactly : Type 0 where
  pub made : (words : List ℕ) → UsableRecords words → triangles_made words ≡ accepted (triangles_of (records_in words))
  pub fifteen : (words : List ℕ) → (UsableRecords words → ⊥) → triangles_made words ≡ declined 15
  -- every number is a u32, and below the greatest
  pub fits : (words l : List ℕ) (p : ℕ) → triangles_made words ≡ accepted l → Memᴰ p l → p < 4294967295
