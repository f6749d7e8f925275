-- The box of a mesh: its fields stand where the layout has them, and a plain box that a mesh spells is that mesh's box.
use Rattle.std.proofs.Common.{◌≡◌, ℕ, zero, suc, ◌+◌, ◌-◌, ◌*◌, ◌/◌, ◌^◌, ◌<◌, ◌≤◌, List, [], ◌∷◌, ◌++◌, length, take, drop, sym, refl, ap, ◌∙◌, subst, ap₂, append_assoc, mod-eq_of_lt, arith, length-append, length-drop, take-append-drop, length-take-le, get_or-drop, take_all, drop-drop, drop_at, pow_pos}
use Rattle.bits.specs.Field.{field}
use Rattle.bits.specs.Laws.{Bytes}
use Rattle.bits.specs.Number.{width_of}
use Rattle.bits.specs.Put.{bytes_of}
use Rattle.bits.proofs.ByteLaws.{bytes_lt, field-bytes_of, length_bytes}
use Rattle.bits.proofs.FieldLaws.{field-append, field-append-right, field-drop, field_inj, field_lt, field-take}
use Rattle.bits.proofs.NumberLaws.{width_enough}
use Rattle.payload.specs.Laws.{PlainBox}
use Rattle.payload.specs.Float.{AllFinite}
use Rattle.payload.specs.Mesh.{Mesh, Submesh}
use Rattle.payload.specs.MeshSpells.{BoxesSpell, MeshSpells, MeshesSpell, WholeBox, body_at, end_at, ends, header_bytes}
use Rattle.payload.specs.MeshSpells.{holds, mesh_type, part, size_at, sizes, skips, submesh_bits, submeshes_at}
use Rattle.payload.specs.MeshSpells.{submeshes_end, type_at, mesh_vertices, vertices_end}
use Rattle.payload.specs.MeshWrite.{box_size, gap, mesh_body, mesh_box, mesh_fields, run_fields, submeshes_fields, vertex_fields, word_fields}
use Rattle.payload.specs.Packed.{Field, Fits, Laid, bits, spare}
use Rattle.bits.specs.Run.{zeros}
use Rattle.payload.proofs.BoxReadLaws.{short_body, short_end}
use Rattle.payload.proofs.MeshWriteLaws.{Within, mesh_bits, run_fit, run_in, run_out, submeshes_fit, submeshes_in, submeshes_out, vertex_bits, words-bits, words_fit, words_in, words_out}
use Rattle.payload.proofs.PackedLaws.{fits_append, laid_append, laid_left, laid_packed, laid_right, packed_laid, packed-length}

-- ---- the fields of a mesh within the rules fit

sizes_least : (w : ℕ) (l : List Submesh) → 48 * length l ≤ sizes (submesh_bits w) l
sizes_least w [] = omega arith
sizes_least w (x ∷ l) = omega (arith, sizes_least w l)

abbrev tail_fields : Mesh → List Field
tail_fields x = gap (bits (vertex_fields x)) ∷ (32, length x.submeshes) ∷ submeshes_fields (width_of (mesh_vertices x)) x.submeshes

abbrev run_of : Mesh → List Field
run_of x = (32, mesh_vertices x) ∷ run_fields (width_of (length x.pool)) (zeros 5) x.vertices

pub mesh_fit : (x : Mesh) → Within x → Fits (mesh_fields x)
unfolding mesh_fields vertex_fields
mesh_fit x h =
    let n : ℕ = length x.pool in
    let m : ℕ = mesh_vertices x in
    let o : 0 < n = h.pool_some in
    let k : length x.submeshes < 2 ^ 32 = omega (arith, sizes_least (width_of m) x.submeshes, mesh_bits x, h.size) in
    fits_append (vertex_fields x) (tail_fields x) (
      omega (arith, h.pool_most),
      fits_append (word_fields x.pool) (run_of x) (words_fit x.pool h.words)
          (omega (arith, h.vertex_most), run_fit (width_of n) n (zeros 5) x.vertices (width_enough n) (omega arith) (o, (o, (o, (o, (o, tt))))) h.vertices),
    )
    (pow_pos _, (k, submeshes_fit (width_of m) m (width_enough m) h.vertex_some x.submeshes h.submeshes))

-- ---- the fields stand where the layout has them

pub mesh_in : (s : List ℕ) (x : Mesh) → Within x → AllFinite x.pool → submeshes_end x ≤ 8 * length s
    → Laid s 0 (mesh_fields x) → MeshSpells s x
unfolding mesh_fields vertex_fields bits
mesh_in s x h k r f =
    let n : ℕ = length x.pool in
    let m : ℕ = mesh_vertices x in
    let v : Laid s 0 (vertex_fields x) = laid_left s 0 (vertex_fields x) (tail_fields x) f in
    let t : Laid s (0 + bits (vertex_fields x)) (tail_fields x) = laid_right s 0 (vertex_fields x) (tail_fields x) f in
    let u = laid_right s (0 + 32) (word_fields x.pool) (run_of x) v.1 in
    let e : 0 + bits (vertex_fields x) + spare (bits (vertex_fields x)) ≡ submeshes_at x = omega (arith, vertex_bits x) in
    record {
      head = omega arith;
      pool_count = v.0;
      pool_some = h.pool_some;
      pool_most = h.pool_most;
      pool_words = words_in s 32 x.pool (subst (λ (q : ℕ). Laid s q (word_fields x.pool)) (omega arith) (laid_left s (0 + 32) (word_fields x.pool) (run_of x) v.1));
      pool_finite = k;
      fives = h.fives;
      vertex_count_law = ap (λ (q : ℕ). field s q 32) (omega (arith, words-bits x.pool)) ∙ u.0;
      vertex_some = h.vertex_some;
      vertex_most = h.vertex_most;
      vertices_run =
          run_in s (width_of n) n (32 * n + 64) (zeros 5) x.vertices (omega arith) h.vertices (omega arith)
          (subst (λ (q : ℕ). Laid s q (run_fields (width_of n) (zeros 5) x.vertices)) (omega (arith, words-bits x.pool)) u.1);
      tail = omega arith;
      submesh_count = ap (λ (q : ℕ). field s q 32) (sym e) ∙ t.1.0;
      submesh_some = h.submesh_some;
      submeshes_run = submeshes_in s (width_of m) m (submeshes_at x + 32) x.submeshes h.submeshes (omega arith) (subst (λ (q : ℕ). Laid s (q + 32) (submeshes_fields (width_of m) x.submeshes)) e t.1.1);
    }

pub mesh_out : (s : List ℕ) (x : Mesh) → MeshSpells s x → field s (vertices_end x) (submeshes_at x - vertices_end x) ≡ 0 → Laid s 0 (mesh_fields x)
unfolding mesh_fields vertex_fields bits
mesh_out s x e z =
    let n : ℕ = length x.pool in
    let m : ℕ = mesh_vertices x in
    let g : 0 + bits (vertex_fields x) ≡ vertices_end x = omega (arith, vertex_bits x) in
    let c : submeshes_at x ≡ 0 + bits (vertex_fields x) + spare (bits (vertex_fields x)) = omega (arith, vertex_bits x) in
    laid_append s 0 (vertex_fields x) (tail_fields x) (
      e.pool_count,
      laid_append s (0 + 32) (word_fields x.pool) (run_of x)
          (subst (λ (q : ℕ). Laid s q (word_fields x.pool)) (omega arith) (words_out s 32 x.pool e.pool_words)) (
            ap (λ (q : ℕ). field s q 32) (omega (arith, words-bits x.pool)) ∙ e.vertex_count_law,
            subst (λ (q : ℕ). Laid s q (run_fields (width_of n) (zeros 5) x.vertices)) (omega (arith, words-bits x.pool)) (run_out s (width_of n) n (32 * n + 64) (zeros 5) x.vertices (omega arith) e.vertices_run),
          ),
    ) (
      ap₂ (λ (q k : ℕ). field s q k) g (omega (arith, vertex_bits x)) ∙ z,
      (
        ap (λ (q : ℕ). field s q 32) (sym c) ∙ e.submesh_count,
        subst (λ (q : ℕ). Laid s (q + 32) (submeshes_fields (width_of m) x.submeshes)) c (submeshes_out s (width_of m) m (submeshes_at x + 32) x.submeshes e.submeshes_run),
      ),
    )

-- ---- a body

pub body_length : (x : Mesh) → length (mesh_body x) ≡ (submeshes_end x + 7) / 8
unfolding mesh_body
body_length x = packed-length (mesh_fields x) ∙ ap (λ (b : ℕ). (b + 7) / 8) (mesh_bits x)

pub body_spells : (x : Mesh) → Within x → AllFinite x.pool → MeshSpells (mesh_body x) x
unfolding mesh_body
body_spells x h k = mesh_in (mesh_body x) x h k (omega (arith, body_length x)) (packed_laid (mesh_fields x) (mesh_fit x h))

pub body_written : (s : List ℕ) (x : Mesh) → MeshSpells s x → Bytes s → field s (vertices_end x) (submeshes_at x - vertices_end x) ≡ 0
    → length s ≡ (submeshes_end x + 7) / 8 → field s (submeshes_end x) (8 * length s - submeshes_end x) ≡ 0 → s ≡ mesh_body x
unfolding mesh_body
body_written s x e c between stop after =
    let b : bits (mesh_fields x) ≡ submeshes_end x = mesh_bits x in
    let l : 8 * length s ≡ submeshes_end x + spare (submeshes_end x) = omega (arith, stop) in
    laid_packed s (mesh_fields x) c (stop ∙ ap (λ (n : ℕ). (n + 7) / 8) (sym b)) (mesh_out s x e between)
    (rw b (ap (λ (k : ℕ). field s (submeshes_end x) k) (omega arith) ∙ after))

-- ---- a box

-- where the body of the first box begins, and where the box ends, by its short size
first_box : (s : List ℕ) (n : ℕ) → size_at s 0 ≡ n → header_bytes ≤ n → (body_at s 0 ≡ header_bytes) × (end_at s 0 ≡ n)
first_box s n e h =
    let short : size_at s 0 ≡ 1 → ⊥ = λ f. omega arith in
    (omega (arith, short_body s 0 short), omega (arith, short_end s 0 short))

-- a header with a size and a type, and what stands behind it
module _ (size type : ℕ) where
  pub header : List ℕ
  header = bytes_of 4 size ++ bytes_of 4 type

  pub header_is : header ≡ bytes_of 4 size ++ bytes_of 4 type
  unfolding header
  header_is = refl

  pub header_length : length header ≡ header_bytes
  unfolding header
  header_length =
      length-append (bytes_of 4 size) (bytes_of 4 type) ∙ ap₂ (λ (a b : ℕ). a + b) (length_bytes 4 size) (length_bytes 4 type)

  pub header_size : (s : List ℕ) → size < 2 ^ 32 → size_at (header ++ s) 0 ≡ size
  unfolding header
  header_size s h =
      field-append header s 0 32 (omega (arith, header_length))
      ∙ field-append (bytes_of 4 size) (bytes_of 4 type) 0 32 (omega (arith, length_bytes 4 size))
      ∙ field-bytes_of 4 size
      ∙ mod-eq_of_lt h

  pub header_type : (s : List ℕ) → type < 2 ^ 32 → type_at (header ++ s) 0 ≡ type
  unfolding header
  header_type s h =
      field-append header s 32 32 (omega (arith, header_length))
      ∙ ap (λ (q : ℕ). field header q 32) (omega (arith, length_bytes 4 size))
      ∙ field-append-right (bytes_of 4 size) (bytes_of 4 type) 0 32
      ∙ field-bytes_of 4 type
      ∙ mod-eq_of_lt h

module _ (x : Mesh) where
  box_is : mesh_box x ≡ header (box_size x) mesh_type ++ mesh_body x
  unfolding mesh_box header
  box_is = refl

  pub box_length : length (mesh_box x) ≡ box_size x
  box_length =
      ap length box_is ∙ length-append (header (box_size x) mesh_type) (mesh_body x)
      ∙ ap₂ (λ (a b : ℕ). a + b) (header_length (box_size x) mesh_type)
      (body_length x ∙ ap (λ (b : ℕ). (b + 7) / 8) (sym (mesh_bits x)))

  pub box_body : drop 8 (mesh_box x) ≡ mesh_body x
  box_body = ap (drop 8) box_is ∙ drop_at (header (box_size x) mesh_type) (mesh_body x) 8 (header_length (box_size x) mesh_type)

  pub box_size_law : box_size x ≤ 67108864 → size_at (mesh_box x) 0 ≡ box_size x
  box_size_law h =
      ap (λ (s : List ℕ). size_at s 0) box_is ∙ header_size (box_size x) mesh_type (mesh_body x) (omega (arith, h))

  module _ (h : Within x) where
    box_type : type_at (mesh_box x) 0 ≡ mesh_type
    box_type = ap (λ (s : List ℕ). type_at s 0) box_is ∙ header_type (box_size x) mesh_type (mesh_body x) (omega arith)

    box_part : part (mesh_box x) (body_at (mesh_box x) 0) (end_at (mesh_box x) 0) ≡ mesh_body x
    box_part =
        let f = first_box (mesh_box x) (box_size x) (box_size_law h.size) (omega arith) in
        rw (f.0, f.1)
        (ap (take (box_size x - header_bytes)) box_body
        ∙ take_all (box_size x - header_bytes) (mesh_body x) (omega (arith, body_length x, mesh_bits x)))

    -- the list of the mesh alone spells its box
    pub box_spells : AllFinite x.pool → MeshesSpell (x ∷ []) (mesh_box x)
    box_spells k =
        let f = first_box (mesh_box x) (box_size x) (box_size_law h.size) (omega arith) in
        let l = box_length in
        record {
          boxes =
              holds {p = 0} {x = x} {l = []} (record { header = omega arith; least = omega arith; most = omega arith }) box_type
              (rw box_part (body_spells x h k)) (ends {p = end_at (mesh_box x) 0} (omega arith, omega arith));
          most = omega arith;
        }

-- ---- a plain box

take_small : (n : ℕ) (s : List ℕ) → Bytes s → Bytes (take n s)
take_small zero s b k = omega arith
take_small (suc n) [] b k = omega arith
take_small (suc n) (x ∷ s) b zero = b 0
take_small (suc n) (x ∷ s) b (suc k) = take_small n s (λ i. b (suc i)) k

drop_small : (n : ℕ) (s : List ℕ) → Bytes s → Bytes (drop n s)
drop_small n s b k = rw (get_or-drop n s k 0) (b (n + k))

-- four bytes are those of their number
four : (s : List ℕ) (v : ℕ) → Bytes s → 4 ≤ length s → field s 0 32 ≡ v → take 4 s ≡ bytes_of 4 v
four s v b l e =
    let n : length (take 4 s) ≡ 4 = length-take-le 4 s l in
    let m : length (bytes_of 4 v) ≡ 4 = length_bytes 4 v in
    field_inj (take 4 s) (bytes_of 4 v) (n ∙ sym m) (take_small 4 s b) (bytes_lt 4 v)
    (ap (λ (k : ℕ). field (take 4 s) 0 (8 * k)) n ∙ field-take s 4 0 32 (omega arith) ∙ e ∙ sym (mod-eq_of_lt (rw (← e) (field_lt s 0 32))) ∙ sym (field-bytes_of 4 v) ∙ ap (λ (k : ℕ). field (bytes_of 4 v) 0 (8 * k)) (sym m))

-- what spells a list of one mesh from a place where a box reaches to the end: that box holds it
pub record Held (s : List ℕ) (p : ℕ) (x : Mesh) : Type 0 where
  pub whole : WholeBox s p
  pub type : type_at s p ≡ mesh_type
  pub spells : MeshSpells (part s (body_at s p) (end_at s p)) x

nothing_left : {s : List ℕ} {p : ℕ} {x : Mesh} {l : List Mesh} → length s ≤ p → BoxesSpell s p (x ∷ l) → ⊥
nothing_left h (holds b y m r) = omega (arith, b.header)
nothing_left h (skips b n r) = omega (arith, b.header)

held : {s : List ℕ} {p : ℕ} {x : Mesh} {l : List Mesh} → length s ≤ end_at s p → BoxesSpell s p (x ∷ l) → Held s p x
held h (holds b y m r) = record { whole = b; type = y; spells = m }
held h (skips b n r) = absurd (nothing_left h r)

module _ (s : List ℕ) (x : Mesh) (e : MeshesSpell (x ∷ []) s) (b : PlainBox x s) where
  in_box : Held s 0 x
  in_box = held (omega (arith, (first_box s (length s) b.lone (omega (arith, b.ends_there))).1)) e.boxes

  pub plain_body : MeshSpells (drop 8 s) x
  plain_body =
      let n : length (drop 8 s) ≡ length s - 8 = length-drop 8 s in
      let f = first_box s (length s) b.lone (omega (arith, b.ends_there)) in
      let t : part s (body_at s 0) (end_at s 0) ≡ drop 8 s =
      rw (f.0, f.1) (take_all (length s - header_bytes) (drop 8 s) (omega arith)) in
      rw t at in_box.spells

  pub plain_size : box_size x ≡ length s
  plain_size = omega (arith, b.ends_there, mesh_bits x)

  pub plain_box : s ≡ mesh_box x
  unfolding mesh_box
  plain_box =
      let n : length (drop 8 s) ≡ length s - 8 = length-drop 8 s in
      let h : 8 ≤ length s = omega (arith, in_box.whole.header) in
      let i : drop 8 s ≡ mesh_body x =
      body_written (drop 8 s) x plain_body (drop_small 8 s b.bytes) (field-drop s 8 (vertices_end x) (submeshes_at x - vertices_end x) ∙ b.between) (omega (arith, b.ends_there))
      (field-drop s 8 (submeshes_end x) (8 * length (drop 8 s) - submeshes_end x) ∙ ap (field s (64 + submeshes_end x)) (omega arith) ∙ b.after) in
      let f : take 4 s ≡ bytes_of 4 (box_size x) = four s (box_size x) b.bytes (omega arith) (b.lone ∙ sym plain_size) in
      let t : length (drop 4 s) ≡ length s - 4 = length-drop 4 s in
      let g : take 4 (drop 4 s) ≡ bytes_of 4 mesh_type = four (drop 4 s) mesh_type (drop_small 4 s b.bytes) (omega arith) (field-drop s 4 0 32 ∙ in_box.type) in
      sym (take-append-drop 4 s)
      ∙ ap₂ (λ (a c : List ℕ). a ++ c) f (sym (take-append-drop 4 (drop 4 s)) ∙ ap₂ (λ (a c : List ℕ). a ++ c) g (drop-drop 4 4 s ∙ i))
      ∙ sym (append_assoc (bytes_of 4 (box_size x)) (bytes_of 4 mesh_type) (mesh_body x))
