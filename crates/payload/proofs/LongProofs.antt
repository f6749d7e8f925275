-- The theorems of specs/LongLaws.antt: reading on from a place is reading the bytes from there on, so that a box may have
-- either size. Assumes nothing.
use Rattle.std.proofs.Common.{◌≡◌, ℕ, zero, suc, ◌+◌, ◌-◌, ◌*◌, ◌^◌, ◌<◌, ◌≤◌, List, [], ◌∷◌, ◌++◌, length, take, drop, sym, refl, ap, ◌∙◌, ap₂, append_assoc, mod-eq_of_lt, arith, length-append, length-drop, take_all, drop-drop, drop_at}
use lib.Seq.{take-append_seam, drop-append_seam}
use Rattle.bits.specs.Verdict.{Verdict, accepted, needs, declined, and_then, mapped}
use Rattle.bits.specs.Field.{field}
use Rattle.bits.specs.Put.{bytes_of}
use Rattle.bits.specs.Header.{Item, list_end, box, sized, extent_of, long_extent, header_at}
use Rattle.bits.proofs.VerdictLaws.{then_yes}
use Rattle.bits.proofs.ByteLaws.{field-bytes_of, length_bytes}
use Rattle.bits.proofs.FieldLaws.{field-append, field-append-right}
use Rattle.bits.proofs.HeaderLaws.{moved_item, header_moved, header_end, extent_small, extent_past, extent_whole}
use Rattle.bits.proofs.HeaderLaws.{long_cut, long_there}
use Rattle.payload.specs.Mesh.{Mesh}
use Rattle.payload.specs.MeshSpells.{type_at, long_size_at, part}
use Rattle.payload.specs.MeshRead.{read_mesh_box, read_item, read_from, read_meshes}
use Rattle.payload.specs.MeshWrite.{tables_mesh}
use Rattle.payload.specs.LongLaws.{short_box, long_box, Spelling, done, short, long, Fitting, LongAt, MayCome, LongLaws}
use Rattle.payload.proofs.BoxReadLaws.{body_after, header_value, needs_same, refused_same, from_header, more_end}
use Rattle.payload.proofs.BoxReadLaws.{box_mesh, refused_more, short_says, long_says_law}
use Rattle.payload.proofs.BoxLaws.{header, header_is, header_length, header_size, header_type, box_size_law, box_length}
use Rattle.payload.proofs.JudgeLaws.{told, written_value}
use Rattle.payload.proofs.EyeProofs.{after_boxes}

-- ---- reading on from a place

part_moved : (s : List ℕ) (p a b : ℕ) → part s (p + a) (p + b) ≡ part (drop p s) a b
part_moved s p a b =
    let z : p + b - (p + a) ≡ b - a = omega arith in
    ap₂ (λ (n : ℕ) (l : List ℕ). take n l) z (sym (drop-drop a p s))

module _ (s : List ℕ) (p : ℕ) (h : p ≤ length s) where
  -- a box, where what follows it is read alike
  box_moved : (more type : ℕ) (x : ℕ × ℕ)
      → ((r : ℕ) → read_from s r (p + x.1) ≡ read_from (drop p s) r x.1)
      → read_item s (read_from s) more (sized type (p + x.0) (p + x.1))
      ≡ read_item (drop p s) (read_from (drop p s)) more (box type (accepted x))
  box_moved more type x e = rw (mesh more, e more)
    where
      mesh : (more : ℕ)
          → read_mesh_box s (read_from s) more (accepted (p + x.0, p + x.1))
          ≡ read_mesh_box (drop p s) (read_from (drop p s)) more (accepted x)
      mesh zero = refl
      mesh (suc more) = rw (part_moved s p x.0 x.1, e more)

  moved : (turns more q : ℕ) → length (drop p s) < q + turns → read_from s more (p + q) ≡ read_from (drop p s) more q
  moved zero more q k =
      more_end s more (p + q) (header_end s (p + q) (omega (arith, length-drop p s)))
      ∙ sym (more_end (drop p s) more q (header_end (drop p s) q (omega arith)))
  moved (suc turns) more q k =
      from_header s more (p + q)
      ∙ ap (λ (v : Verdict Item). and_then v (read_item s (read_from s) more)) (header_moved s p h q)
      ∙ go (header_at (drop p s) q) refl (λ r e i. moved turns r e (omega arith))
      ∙ sym (from_header (drop p s) more q)
    where
      go : (v : Verdict Item) → header_at (drop p s) q ≡ v
          → ((r end : ℕ) → q < end → read_from s r (p + end) ≡ read_from (drop p s) r end)
          → and_then (mapped (moved_item p) v) (read_item s (read_from s) more)
          ≡ and_then v (read_item (drop p s) (read_from (drop p s)) more)
      go (accepted list_end) e ih = refl
      go (accepted (box type (accepted x))) e ih =
          let w = header_value (drop p s) q type x.0 x.1 e in
          box_moved more type x (λ r. ih r x.1 (omega (arith, body_after (drop p s) q, w.0.least, w.3)))
      go (accepted (box type (needs l))) e ih = rw (needs_same s (drop p s) (read_from s) (read_from (drop p s)) more l)
      go (accepted (box type (declined k))) e ih =
          rw (refused_same s (drop p s) (read_from s) (read_from (drop p s)) more k)
      go (needs l) e ih = refl
      go (declined k) e ih = refl

  read_on : (more : ℕ) → read_from s more p ≡ read_from (drop p s) more 0
  read_on more =
      let z : p + 0 ≡ p = omega arith in
      ap (read_from s more) (sym z) ∙ moved (suc (length (drop p s))) more 0 (omega arith)

-- ---- a box at the front, by its type and body and what is read behind it

abbrev front : ℕ → List ℕ → (ℕ → Verdict (List Mesh)) → ℕ → Verdict (List Mesh)
front type body rest more = read_item body (λ r end. rest r) more (sized type 0 (length body))

front_same : (type : ℕ) (body : List ℕ) (f g : ℕ → Verdict (List Mesh)) → ((r : ℕ) → f r ≡ g r)
    → (more : ℕ) → front type body f more ≡ front type body g more
front_same type body f g e more = rw (mesh more, e more)
  where
    mesh : (more : ℕ)
        → read_mesh_box body (λ r end. f r) more (accepted (0, length body))
        ≡ read_mesh_box body (λ r end. g r) more (accepted (0, length body))
    mesh zero = refl
    mesh (suc more) = rw (e more)

-- its header has b bytes, and behind these come the body and the rest
module _ (s : List ℕ) (type b : ℕ) (body rest : List ℕ) (there : b + length body ≤ length s)
    (e : header_at s 0 ≡ accepted (sized type b (b + length body))) (d : drop b s ≡ body ++ rest) where
  is_part : part s b (b + length body) ≡ part body 0 (length body)
  is_part =
      let y : b + length body - b ≡ length body = omega arith in
      let z : length body - 0 ≡ length body = omega arith in
      ap₂ (λ (n : ℕ) (l : List ℕ). take n l) y d
      ∙ take-append_seam body rest
      ∙ sym (take_all (length body - 0) body (omega arith))

  is_rest : drop (b + length body) s ≡ rest
  is_rest = sym (drop-drop (length body) b s) ∙ ap (drop (length body)) d ∙ drop-append_seam body rest

  behind : (more : ℕ) → read_from s more (b + length body) ≡ read_from rest more 0
  behind more = read_on s (b + length body) there more ∙ ap (λ (l : List ℕ). read_from l more 0) is_rest

  at_front : (more : ℕ) → read_from s more 0 ≡ front type body (λ r. read_from rest r 0) more
  at_front more =
      from_header s more 0 ∙ then_yes (header_at s 0) (read_item s (read_from s) more) (sized type b (b + length body)) e
      ∙ rw (mesh more, behind more)
    where
      mesh : (more : ℕ)
          → read_mesh_box s (read_from s) more (accepted (b, b + length body))
          ≡ read_mesh_box body (λ r end. read_from rest r 0) more (accepted (0, length body))
      mesh zero = refl
      mesh (suc more) = rw (is_part, behind more)

-- ---- by either size

module _ (type : ℕ) (body : List ℕ) (t : type < 2 ^ 32) (z : 8 + length body < 2 ^ 32) (rest : List ℕ) where
  -- a short one
  short_is : short_box type body ++ rest ≡ header (8 + length body) type ++ (body ++ rest)
  short_is =
      append_assoc (bytes_of 4 (8 + length body) ++ bytes_of 4 type) body rest
      ∙ ap (λ (l : List ℕ). l ++ (body ++ rest)) (sym (header_is (8 + length body) type))

  short_front : (more : ℕ)
      → read_from (short_box type body ++ rest) more 0 ≡ front type body (λ r. read_from rest r 0) more
  short_front more =
      ap (λ (l : List ℕ). read_from l more 0) short_is
      ∙ at_front s type 8 body rest (omega (arith, n)) says (drop_at (header size type) (body ++ rest) 8 k) more
    where
      size : ℕ
      size = 8 + length body

      s : List ℕ
      s = header size type ++ (body ++ rest)

      k : length (header size type) ≡ 8
      k = header_length size type

      n : length s ≡ 8 + (length body + length rest)
      n = length-append (header size type) (body ++ rest) ∙ ap₂ (λ (a b : ℕ). a + b) k (length-append body rest)

      says : header_at s 0 ≡ accepted (sized type 8 size)
      says =
          let a = header_size size type (body ++ rest) z in
          let b = header_type size type (body ++ rest) t in
          let o : 0 + size ≡ size = omega arith in
          short_says s 0 (omega (arith, n)) (accepted (8, 0 + size)) (λ e. omega arith)
          (ap (extent_of (length s) 0 8) a ∙ extent_whole (length s) 0 8 size (omega arith) (omega (arith, n)))
          ∙ ap₂ (λ (x y : ℕ). accepted (sized x 8 y)) b o

  -- a long one
  long_is : long_box type body ++ rest ≡ header 1 type ++ (bytes_of 8 (16 + length body) ++ (body ++ rest))
  long_is =
      append_assoc (bytes_of 4 1 ++ bytes_of 4 type ++ bytes_of 8 (16 + length body)) body rest
      ∙ append_assoc (bytes_of 4 1 ++ bytes_of 4 type) (bytes_of 8 (16 + length body)) (body ++ rest)
      ∙ ap (λ (l : List ℕ). l ++ (bytes_of 8 (16 + length body) ++ (body ++ rest))) (sym (header_is 1 type))

  long_front : (more : ℕ)
      → read_from (long_box type body ++ rest) more 0 ≡ front type body (λ r. read_from rest r 0) more
  long_front more =
      ap (λ (l : List ℕ). read_from l more 0) long_is
      ∙ at_front s type 16 body rest (omega (arith, n)) says behind_header more
    where
      size : ℕ
      size = 16 + length body

      tail : List ℕ
      tail = bytes_of 8 size ++ (body ++ rest)

      s : List ℕ
      s = header 1 type ++ tail

      k : length (header 1 type) ≡ 8
      k = header_length 1 type

      j : length (bytes_of 8 size) ≡ 8
      j = length_bytes 8 size

      n : length s ≡ 16 + (length body + length rest)
      n =
          let a = length-append (header 1 type) tail in
          let b = length-append (bytes_of 8 size) (body ++ rest) in
          let c = length-append body rest in
          omega (arith, a, b, c, k, j)

      behind_header : drop 16 s ≡ body ++ rest
      behind_header =
          sym (drop-drop 8 8 s) ∙ ap (drop 8) (drop_at (header 1 type) tail 8 k)
          ∙ drop_at (bytes_of 8 size) (body ++ rest) 8 j

      size_is : long_size_at s 0 ≡ size
      size_is =
          let y : 8 * (0 + 8) ≡ 8 * length (header 1 type) + 0 = omega (arith, k) in
          ap (λ (q : ℕ). field s q 64) y ∙ field-append-right (header 1 type) tail 0 64
          ∙ field-append (bytes_of 8 size) (body ++ rest) 0 64 (omega (arith, j))
          ∙ field-bytes_of 8 size ∙ mod-eq_of_lt (omega (arith, z))

      says : header_at s 0 ≡ accepted (sized type 16 size)
      says =
          let a = header_size 1 type tail (omega arith) in
          let b = header_type 1 type tail t in
          let o : 0 + size ≡ size = omega arith in
          long_says_law s 0 (omega (arith, n)) (accepted (16, 0 + size)) a
          (long_there s 0 (omega (arith, n)) ∙ ap (extent_of (length s) 0 16) size_is
          ∙ extent_whole (length s) 0 16 size (omega arith) (omega (arith, n)))
          ∙ ap₂ (λ (x y : ℕ). accepted (sized x 16 y)) b o

-- either way the first box stands at the front
front_of : {free : List ℕ} {l : List (ℕ × List ℕ)} {s : List ℕ} (b : ℕ × List ℕ) → b.0 < 2 ^ 32
    → 8 + length b.1 < 2 ^ 32 → Spelling free (b ∷ l) s
    → (rest : List ℕ) × (Spelling free l rest
    × ((more : ℕ) → read_from s more 0 ≡ front b.0 b.1 (λ r. read_from rest r 0) more))
front_of b t z (short type body {s = rest} a) = (rest, (a, short_front type body t z rest))
front_of b t z (long type body {s = rest} a) = (rest, (a, long_front type body t z rest))

same_reading : (free : List ℕ) (l : List (ℕ × List ℕ)) (s t : List ℕ) → Fitting l → Spelling free l s
    → Spelling free l t → (more : ℕ) → read_from s more 0 ≡ read_from t more 0
same_reading free [] s t f done done more = refl
same_reading free (b ∷ l) s t f a c more =
    let x = front_of b f.0 f.1 a in
    let y = front_of b f.0 f.1 c in
    x.1.1 more
    ∙ front_same b.0 b.1 _ _ (same_reading free l x.0 y.0 f.2 x.1.0 y.1.0) more
    ∙ sym (y.1.1 more)

-- ---- where a long size is refused

module _ (s : List ℕ) (p : ℕ) (l : List Mesh) (a : LongAt s p l) where
  refused_by : (k : ℕ) → long_extent s p ≡ declined k → MayCome s p l → read_meshes s ≡ declined k
  refused_by k e m =
      after_boxes a.before 2 k a.few
      (refused_more s p (type_at s p) k (long_says_law s p a.there (declined k) a.one e) (2 - length l)
      (λ y. let h = m y in omega arith))

pub long_laws : LongLaws
long_laws =
    record {
      same = λ free l s t f a b. same_reading free l s t f a b 2;
      written = λ pool coordinates rows points s e.
          let x = tables_mesh pool coordinates rows points in
          let v = written_value pool coordinates rows points s e in
          rw v.1 (box_size_law x (told pool coordinates rows points v.0).size ∙ sym (box_length x));
      cut = λ s p l a m h. refused_by s p l a 3 (long_cut s p h) m;
      small = λ s p l a m h k.
          refused_by s p l a 6 (long_there s p h ∙ extent_small (length s) p 16 (long_size_at s p) k) m;
      past = λ s p l a m h k.
          refused_by s p l a 6 (long_there s p h ∙ extent_past (length s) p 16 (long_size_at s p) k) m;
      third = λ s p x y a t.
          after_boxes a.before 2 18 a.few
          (box_mesh s 0 p (type_at s p) (long_extent s p) (long_says_law s p a.there (long_extent s p) a.one refl) t);
    }
