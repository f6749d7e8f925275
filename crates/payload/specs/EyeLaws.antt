-- Whose a submesh is, and that no third mesh is read, by name. The proofs are in proofs/EyeProofs.antt.
use Rattle.std.specs.Prelude.{◌≡◌, ℕ, ◌+◌, ◌*◌, ◌<◌, ◌≤◌, ◌⊎◌, List, [], ◌∷◌, ◌++◌, length, ◌≢◌, slice_index_or}
use Rattle.bits.specs.Verdict.{accepted, declined}
use Rattle.payload.specs.Mesh.{Mesh}
use Rattle.payload.specs.MeshSpells.{header_bytes, size_at, type_at, body_at, end_at, mesh_type, part, WholeBox, Boxes}
use Rattle.payload.specs.MeshRead.{read_mesh, read_meshes}
use Rattle.payload.specs.MeshDrawing.{submesh_records, point_count, drawn_records}

-- the boxes from byte p up to byte q, and the meshes that they hold
abbrev pub BoxesUpTo : List ℕ → ℕ → ℕ → List Mesh → Type 0
BoxesUpTo s p q l = Boxes s (λ r. r ≡ q) p l

pub record EyeLaws : Type 0 where
  -- one mesh serves both eyes: 0 in each of its records
  pub both : (x : Mesh) → drawn_records (x ∷ []) ≡ submesh_records 0 0 x.submeshes
  -- of two the first is the left eye's, 1, and the second the right one's, 2
  pub left_right : (x y : Mesh)
      → drawn_records (x ∷ y ∷ [])
      ≡ submesh_records 1 0 x.submeshes ++ submesh_records 2 (point_count x.submeshes) y.submeshes
  -- so the first word of each record: of one mesh, of the first of two, and of the second
  pub both_word : (x : Mesh) (k other : ℕ) → k < length x.submeshes
      → slice_index_or (drawn_records (x ∷ [])) (5 * k) other ≡ 0
  pub left_word : (x y : Mesh) (k other : ℕ) → k < length x.submeshes
      → slice_index_or (drawn_records (x ∷ y ∷ [])) (5 * k) other ≡ 1
  pub right_word : (x y : Mesh) (k other : ℕ) → k < length y.submeshes
      → slice_index_or (drawn_records (x ∷ y ∷ [])) (5 * (length x.submeshes + k)) other ≡ 2
  -- more than two meshes have no reading
  pub most : (s : List ℕ) (l : List Mesh) → read_meshes s ≡ accepted l → length l ≤ 2
  -- after two meshes a mesh box is refused at its type, whatever its body holds and whatever follows
  pub third : (s : List ℕ) (p : ℕ) (x y : Mesh) → BoxesUpTo s 0 p (x ∷ y ∷ []) → WholeBox s p
      → type_at s p ≡ mesh_type → read_meshes s ≡ declined 18
  -- but a short size is judged before the type, as any box's is: 6 where it is below a header's, 0 too, or reaches past
  -- the end; a long one comes after the type (specs/LongLaws.antt)
  pub size_first : (s : List ℕ) (p : ℕ) (l : List Mesh) → BoxesUpTo s 0 p l → length l ≤ 2
      → p + header_bytes ≤ length s → (size_at s p ≢ 1) → (size_at s p < header_bytes) ⊎ (length s < p + size_at s p)
      → read_meshes s ≡ declined 6
  -- and a fault of the first or the second mesh comes before a third one
  pub earlier_first : (s : List ℕ) (p k : ℕ) (l : List Mesh) → BoxesUpTo s 0 p l → length l < 2 → WholeBox s p
      → type_at s p ≡ mesh_type → read_mesh (part s (body_at s p) (end_at s p)) ≡ declined k
      → read_meshes s ≡ declined k
