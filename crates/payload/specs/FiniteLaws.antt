-- Pools without NaNs and infinities: which words are finite, that a reading has no others, where one is refused, and
-- that what is drawn is finite. The proofs are in proofs/FiniteProofs.antt.
use Rattle.std.specs.Prelude.{◌≡◌, ℕ, ◌+◌, ◌*◌, ◌/◌, ◌%◌, ◌^◌, ◌<◌, ◌≤◌, true, false, not, List, [], ◌∷◌, length, ◌==◌}
use mathlib.Core.List.{Memᴰ}
use Rattle.bits.specs.Verdict.{accepted, declined}
use Rattle.bits.specs.Field.{field}
use Rattle.payload.specs.Float.{finite_word, AllFinite}
use Rattle.payload.specs.Lent.{in_items, answer_for}
use Rattle.payload.specs.Mesh.{Mesh}
use Rattle.payload.specs.MeshSpells.{MeshesSpell}
use Rattle.payload.specs.MeshRead.{read_mesh, read_meshes}
use Rattle.payload.specs.MeshDrawing.{drawn_floats}
use Rattle.payload.specs.MeshWrite.{is_mesh, mesh_written}

-- the bit at which word i of a mesh body's pool stands
abbrev pub word_place : ℕ → ℕ
word_place i = 32 + 32 * i

-- a mesh body is good up to word i of its pool: its coordinate count is, and the words before are there and finite
pub record GoodUpTo (s : List ℕ) (i : ℕ) : Type 0 where
  pub there : word_place i ≤ 8 * length s
  pub most : field s 0 32 ≤ 10000
  pub number : i < field s 0 32
  pub finite : (j : ℕ) → j < i → finite_word (field s (word_place j) 32) ≡ true

pub record FiniteLaws : Type 0 where
  -- a word is finite exactly where its bits 30 to 23 are not all ones
  pub by_bits : (w : ℕ) → finite_word w ≡ not (w / 2 ^ 23 % 256 == 255)
  -- no payload has a reading with another word in a pool, drawn or not
  pub read : (l : List Mesh) (s : List ℕ) → MeshesSpell l s → (x : Mesh) → Memᴰ x l → AllFinite x.pool
  -- reading a mesh: 3 at a word that is cut off, and 17 at one that is not finite, whatever comes after it
  pub cut : (s : List ℕ) (i : ℕ) → GoodUpTo s i → 8 * length s < word_place i + 32 → read_mesh s ≡ declined 3
  pub refused : (s : List ℕ) (i : ℕ) → GoodUpTo s i → word_place i + 32 ≤ 8 * length s
      → finite_word (field s (word_place i) 32) ≡ false → read_mesh s ≡ declined 17
  -- writing one into any buffer: 13, then 17, and both before 12
  pub no_mesh : (pool coordinates rows points out : List ℕ) → is_mesh pool coordinates rows points ≡ false
      → answer_for (in_items 1 (mesh_written pool coordinates rows points)) (out ∷ []) ≡ declined 13
  pub not_written : (pool coordinates rows points out : List ℕ) → is_mesh pool coordinates rows points ≡ true
      → (w : ℕ) → Memᴰ w pool → finite_word w ≡ false
      → answer_for (in_items 1 (mesh_written pool coordinates rows points)) (out ∷ []) ≡ declined 17
  -- every float that is drawn of a mesh list is finite
  pub drawn : (s : List ℕ) (l : List Mesh) → read_meshes s ≡ accepted l → AllFinite (drawn_floats l)
