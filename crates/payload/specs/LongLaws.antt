-- Boxes with a long size: where one is refused, and that both sizes spell the same reading. The proofs are in
-- proofs/LongProofs.antt.
use Rattle.std.specs.Prelude.{◌≡◌, ℕ, ◌+◌, ◌^◌, ◌<◌, ◌≤◌, List, [], ◌∷◌, ◌++◌, length}
use Rattle.bits.specs.Verdict.{accepted, declined}
use Rattle.bits.specs.Put.{bytes_of}
use Rattle.payload.specs.Mesh.{Mesh}
use Rattle.payload.specs.MeshSpells.{header_bytes, size_at, type_at, long_size_at, mesh_type}
use Rattle.payload.specs.MeshRead.{read_meshes}
use Rattle.payload.specs.MeshWrite.{mesh_written}
use Rattle.payload.specs.EyeLaws.{BoxesUpTo}

-- ---- one list of boxes, spelled in many ways

-- a box of this type and with this body, by a short size and by a long one
abbrev pub short_box : ℕ → List ℕ → List ℕ
short_box type body = bytes_of 4 (8 + length body) ++ bytes_of 4 type ++ body

abbrev pub long_box : ℕ → List ℕ → List ℕ
long_box type body = bytes_of 4 1 ++ bytes_of 4 type ++ bytes_of 8 (16 + length body) ++ body

-- some boxes, of each its type and its body, one after the other and with free bytes behind them: each by either size
pub data Spelling (free : List ℕ) : List (ℕ × List ℕ) → List ℕ → Type 0 where
  done : Spelling free [] free
  short : (type : ℕ) (body : List ℕ) {l : List (ℕ × List ℕ)} {s : List ℕ} → Spelling free l s
      → Spelling free ((type, body) ∷ l) (short_box type body ++ s)
  long : (type : ℕ) (body : List ℕ) {l : List (ℕ × List ℕ)} {s : List ℕ} → Spelling free l s
      → Spelling free ((type, body) ∷ l) (long_box type body ++ s)

-- each type and each short size fits its four bytes
abbrev pub Fitting : List (ℕ × List ℕ) → Type 0
Fitting [] = Unit {0}
Fitting (b ∷ l) = (b.0 < 2 ^ 32) × (8 + length b.1 < 2 ^ 32) × Fitting l

-- ---- where a long size is refused

-- after the boxes up to byte p, which hold the meshes l, there stands a box with a size of 1
pub record LongAt (s : List ℕ) (p : ℕ) (l : List Mesh) : Type 0 where
  pub before : BoxesUpTo s 0 p l
  pub few : length l ≤ 2
  pub there : p + header_bytes ≤ length s
  pub one : size_at s p ≡ 1

-- it is not a third mesh
abbrev pub MayCome : List ℕ → ℕ → List Mesh → Type 0
MayCome s p l = type_at s p ≡ mesh_type → length l < 2

pub record LongLaws : Type 0 where
  -- both sizes spell the same reading, or the same refusal, of every list of boxes that short sizes can hold
  pub same : (free : List ℕ) (l : List (ℕ × List ℕ)) (s t : List ℕ) → Fitting l → Spelling free l s → Spelling free l t
      → read_meshes s ≡ read_meshes t
  -- the writer's size is the short one
  pub written : (pool coordinates rows points s : List ℕ) → mesh_written pool coordinates rows points ≡ accepted s
      → size_at s 0 ≡ length s
  -- 3 where the header is cut off inside the long size; 6 where that is below 16, or reaches past the end
  pub cut : (s : List ℕ) (p : ℕ) (l : List Mesh) → LongAt s p l → MayCome s p l → length s < p + 16
      → read_meshes s ≡ declined 3
  pub small : (s : List ℕ) (p : ℕ) (l : List Mesh) → LongAt s p l → MayCome s p l → p + 16 ≤ length s
      → long_size_at s p < 16 → read_meshes s ≡ declined 6
  pub past : (s : List ℕ) (p : ℕ) (l : List Mesh) → LongAt s p l → MayCome s p l → p + 16 ≤ length s
      → length s < p + long_size_at s p → read_meshes s ≡ declined 6
  -- a third mesh is told at its type, whatever its long size is, and where that is cut off too
  pub third : (s : List ℕ) (p : ℕ) (x y : Mesh) → LongAt s p (x ∷ y ∷ []) → type_at s p ≡ mesh_type
      → read_meshes s ≡ declined 18
