-- The steps of writing a box: its fields from the start, the gap after the vertices, and the end.
use Rattle.std.proofs.Common.{◌≡◌, ℕ, ◌+◌, ◌*◌, ◌/◌, ◌^◌, ◌≤◌, true, List, [], ◌∷◌, ◌++◌, length, sym, refl, ap, ◌∙◌, subst, append_assoc, append-nil, arith}
use lib.Seq.{sets}
use Rattle.bits.specs.Number.{width_of}
use Rattle.bits.specs.Put.{bytes_of}
use Rattle.payload.specs.Laws.{Words32}
use Rattle.payload.specs.Mesh.{Mesh}
use Rattle.payload.specs.MeshSpells.{mesh_type}
use Rattle.payload.specs.MeshWrite.{box_size, gap, is_mesh, mesh_body, mesh_box, mesh_fields, submeshes_fields, submeshes_of, tables_mesh, vertex_fields}
use Rattle.payload.specs.Packed.{Field, bits, fields_number, packed, spare}
use Rattle.payload.specs.InternalWriting.{Advances, Ready, outcome, rest_fields}
use Rattle.payload.specs.declared.mesh.write.BitWriter.{BitWriter}
use Rattle.payload.proofs.BoxLaws.{mesh_fit}
use Rattle.payload.proofs.JudgeLaws.{mesh_within, told}
use Rattle.payload.proofs.MeshWriteLaws.{Within}
use Rattle.payload.proofs.PackedLaws.{bits-append, packed_same}
use Rattle.payload.proofs.WriterLaws.{Underway, on_first, on_start, on_step, packed_bytes, with_nil}

abbrev pub start : BitWriter
start = record { at = 0; held = 0; bits = 0 }

abbrev box_fields : Mesh → List Field
box_fields x = (32, box_size x) ∷ (32, mesh_type) ∷ mesh_fields x

module _ (x : Mesh) (h : Within x) (out : List ℕ) (fits : box_size x ≤ length out) where
  box_ready : Ready out start (box_fields x)
  unfolding bits
  box_ready = record { few = omega arith; fits = (omega (arith, h.size), (omega arith, mesh_fit x h)); room = omega arith }

  box_done : outcome out start (box_fields x ++ []) ≡ sets out 0 (mesh_box x)
  unfolding mesh_box mesh_body bits fields_number
  box_done =
      let l : List Field = mesh_fields x in
      let f = mesh_fit x h in
      let a : packed ((0, 0) ∷ box_fields x) ≡ packed ((8 * 4 + 0, box_size x * 2 ^ 0 + 0) ∷ (32, mesh_type) ∷ l) =
      packed_same ((0, 0) ∷ box_fields x) ((8 * 4 + 0, box_size x * 2 ^ 0 + 0) ∷ (32, mesh_type) ∷ l) (omega arith) (ap (λ (v : ℕ). fields_number (v * 2 ^ 32 + mesh_type) l) (omega arith)) in
      let b : packed ((0, 0) ∷ (32, mesh_type) ∷ l) ≡ packed ((8 * 4 + 0, mesh_type * 2 ^ 0 + 0) ∷ l) =
      packed_same ((0, 0) ∷ (32, mesh_type) ∷ l) ((8 * 4 + 0, mesh_type * 2 ^ 0 + 0) ∷ l) (omega arith) (ap (λ (v : ℕ). fields_number v l) (omega arith)) in
      let c : packed ((0, 0) ∷ l) ≡ packed l = packed_same ((0, 0) ∷ l) l (omega arith) refl in
      let p : packed ((0, 0) ∷ box_fields x) ≡ mesh_box x =
      a ∙ packed_bytes 4 0 0 (box_size x) ((32, mesh_type) ∷ l) (omega arith) (omega (arith, h.size)) (omega arith, f)
      ∙ ap (λ (t : List ℕ). bytes_of 4 (box_size x) ++ t) (b ∙ packed_bytes 4 0 0 mesh_type l (omega arith) (omega arith) f ∙ ap (λ (t : List ℕ). bytes_of 4 mesh_type ++ t) c)
      ∙ sym (append_assoc (bytes_of 4 (box_size x)) (bytes_of 4 mesh_type) (packed l)) in
      ap (λ (t : List Field). sets out 0 (packed ((0, 0) ∷ t))) (append-nil (box_fields x)) ∙ ap (sets out 0) p

  -- the gap after the vertices is that of the bits that wait
  gap_here : {o : List ℕ} {a : BitWriter} (rest : List Field) → mesh_fields x ≡ vertex_fields x ++ rest → Advances out start (box_fields x) o a rest → spare (bits (vertex_fields x)) ≡ spare a.bits
  unfolding bits
  gap_here {o} {a} rest e g =
      let b : bits (mesh_fields x) ≡ bits (vertex_fields x) + bits rest = ap bits e ∙ bits-append (vertex_fields x) rest in
      let p : 8 * a.at + a.bits ≡ 64 + bits (vertex_fields x) = omega (arith, g.place) in
      omega arith

header_bits : (x : Mesh) → bits (box_fields x) ≡ 64 + bits (mesh_fields x)
unfolding bits
header_bits x = omega arith

-- where the writer is when nothing is left
last_at : (x : Mesh) (out o : List ℕ) (a : BitWriter) (l : List Field) → bits l ≡ 64 + bits (mesh_fields x) → box_size x ≤ 67108864 → Advances out start l o a [] → a.at ≤ 67108864
last_at x out o a l i t g = omega (arith, g.place, i, t)

-- ---- where a box is, after each of its parts

-- the box of tables that are a mesh can be put into a buffer
pub record CanPut (pool coordinates rows points out : List ℕ) (size : ℕ) : Type 0 where
  pub mesh : is_mesh pool coordinates rows points ≡ true
  pub size_is : size ≡ box_size (tables_mesh pool coordinates rows points)
  pub room : size ≤ length out
  pub words : Words32 pool

module _ {pool coordinates rows points out : List ℕ} {size : ℕ} (b : CanPut pool coordinates rows points out size) where
  abbrev made : Mesh
  made = tables_mesh pool coordinates rows points

  abbrev head_part : List Field
  head_part = vertex_fields (tables_mesh pool coordinates [] [])

  abbrev rest_part : List Field
  rest_part =
      gap (bits head_part) ∷ (32, length (submeshes_of rows points))
      ∷ submeshes_fields (width_of (length coordinates / 5)) (submeshes_of rows points)

  abbrev all_parts : List Field
  all_parts = (32, size) ∷ (32, mesh_type) ∷ (head_part ++ rest_part)

  all_is : box_fields made ≡ all_parts
  unfolding mesh_fields vertex_fields
  all_is = ap (λ (k : ℕ). (32, k) ∷ (32, mesh_type) ∷ mesh_fields made) (sym b.size_is)

  box_within : Within made
  box_within = mesh_within pool coordinates rows points b.words b.mesh

  -- the way from the start on, with some fields left
  abbrev pub Way : List ℕ → BitWriter → List Field → Type 0
  Way o a l = Underway out start all_parts o a l

  pub at_start : Way out start all_parts
  at_start = on_start (subst (Ready out start) all_is (box_ready made box_within out (rw b.size_is at b.room)))

  -- after the size and the type
  pub after_header : {o p : List ℕ} {a d : BitWriter} → Advances out start ((32, size) ∷ []) o a []
      → Advances o a ((32, mesh_type) ∷ []) p d [] → Way p d (head_part ++ rest_part)
  after_header s t = on_first _ _ (on_first _ _ at_start s) t

  -- after the vertices: the gap is that of the bits that wait
  pub after_vertices : {o p : List ℕ} {a d : BitWriter} → Way o a (head_part ++ rest_part) → Advances o a head_part p d []
      → Way p d (rest_fields d.bits (length coordinates / 5) (submeshes_of rows points))
  unfolding mesh_fields vertex_fields
  after_vertices {p = p} {d = d} u t =
      let w = on_step head_part rest_part u t in
      let g : Advances out start (box_fields made) p d rest_part =
      subst (λ (l : List Field). Advances out start l p d rest_part) (sym all_is) w.1 in
      let s : spare (bits (vertex_fields made)) ≡ spare d.bits =
      gap_here made box_within out (rw b.size_is at b.room) rest_part refl g in
      subst
      (λ (k : ℕ).
      Way p d ((k, 0) ∷ (32, length (submeshes_of rows points))
      ∷ submeshes_fields (width_of (length coordinates / 5)) (submeshes_of rows points)))
      s w

  -- after all of them
  pub after_all : {o p : List ℕ} {a d : BitWriter} {l : List Field} → Way o a l → Advances o a l p d [] → Way p d []
  after_all w t = on_step _ _ (with_nil w) t

  pub box_is : {o : List ℕ} {a : BitWriter} → Way o a [] → outcome o a [] ≡ sets out 0 (mesh_box made)
  box_is w =
      w.1.same [] tt
      ∙ ap (λ (l : List Field). outcome out start (l ++ [])) (sym all_is)
      ∙ box_done made box_within out (rw b.size_is at b.room)

  pub end_at_most : {o : List ℕ} {a : BitWriter} → Way o a [] → a.at ≤ 67108864
  end_at_most {o} {a} w =
      last_at made out o a all_parts (ap bits (sym all_is) ∙ header_bits made)
      (told pool coordinates rows points b.mesh).size w.1
