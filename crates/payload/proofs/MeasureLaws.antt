-- What measuring a list answers, box by box; that the totals of a list fit its bytes; and the lengths of a drawing's three lists. Assumes nothing.
use Rattle.std.proofs.Common.{◌≡◌, ℕ, suc, ◌+◌, ◌-◌, ◌*◌, ◌<◌, ◌≤◌, ◌⊎◌, List, [], ◌∷◌, length, sym, refl, ap, ◌∙◌, inl, inr, mul-le-mul_left, arith, length-append, length-take, eq-eqb, ne_eqb, le-leb}
use native.Mathlib.Decide.{ℕ_discrete}
use borrow.Author.Tests.{lt-leb}
use Rattle.bits.specs.Verdict.{Verdict, accepted, needs, declined, and_then, mapped}
use Rattle.bits.specs.Number.{width_of}
use Rattle.bits.specs.Header.{box, sized, header_at}
use Rattle.bits.proofs.VerdictLaws.{clash, le-or-lt, then_yes, then_no, mapped_value, mapped_declined}
use Rattle.payload.specs.Mesh.{Submesh, Mesh}
use Rattle.payload.specs.MeshSpells.{submesh_bits, SubmeshesSpell, mesh_vertices, submeshes_at, MeshSpells, mesh_type}
use Rattle.payload.specs.MeshSpells.{part, header_bytes, body_at, end_at, sizes, BoxesSpell, ends, holds, skips}
use Rattle.payload.specs.MeshRead.{read_mesh, read_mesh_box, read_from, read_meshes}
use Rattle.payload.specs.MeshDrawing.{drawn_numbers, run_words, submesh_words, mesh_words, coordinate, drawn_floats, submesh_records, records_from, first_eye, drawn_records, point_count, submesh_total, point_total}
use Rattle.payload.specs.Internal.{body_size, no_totals, with_mesh, totals_of, with_body, Room, box_totals, box_refusal}
use Rattle.payload.specs.Meshes.{list_size}
use Rattle.payload.specs.declared.mesh.measure.Totals.{Totals}
use Rattle.payload.specs.declared.mesh.measure.MeshListSize.{MeshListSize}
use Rattle.payload.proofs.RangeLaws.{width_some}
use Rattle.payload.proofs.MeshReadLaws.{mesh_spells}
use Rattle.payload.proofs.BoxReadLaws.{body_after, header_value, mesh_then, box_mesh, box_other, more_mesh, more_other, refused_more}
use Rattle.payload.proofs.MeshTheorems.{meshes_reads}
use Rattle.payload.proofs.CheckLaws.{run_fits}

-- ---- what is counted takes a bit or more, and a submesh 48

submeshes_bits : (s : List ℕ) (w m p : ℕ) (l : List Submesh) → 1 ≤ w → p ≤ 8 * length s → SubmeshesSpell s w m p l → p + 48 * length l + point_count l ≤ 8 * length s
submeshes_bits s w m p [] o h e = omega arith
submeshes_bits s w m p (x ∷ l) o h e =
    let c : p + 48 + length x.points * w ≤ 8 * length s = run_fits (length x.points) e.0.run refl e.0.some in
    omega (arith, submeshes_bits s w m (p + submesh_bits w x) l o (omega arith) e.1, mul-le-mul_left (length x.points) o)

pub mesh_bits : (s : List ℕ) (x : Mesh) → MeshSpells s x → 5 * mesh_vertices x + 48 * length x.submeshes + point_count x.submeshes ≤ 8 * length s
mesh_bits s x e =
    omega (
      arith,
      submeshes_bits s (width_of (mesh_vertices x)) (mesh_vertices x) (submeshes_at x + 32) x.submeshes (width_some (mesh_vertices x) e.vertex_some) e.tail e.submeshes_run,
      mul-le-mul_left (length x.vertices) (width_some (length x.pool) e.pool_some),
      e.fives,
    )

pub body_bits : (s : List ℕ) (m k points : ℕ) → accepted (m, k, points) ≡ mapped body_size (read_mesh s) → 5 * m + 48 * k + points ≤ 8 * length s
body_bits s m k points e =
    let v = mapped_value body_size (read_mesh s) (m, k, points) e in
    let x = v.0.0 in
    let a : mesh_vertices x ≡ m = ap (λ (y : ℕ × ℕ × ℕ). y.0) v.2 in
    let b : length x.submeshes ≡ k = ap (λ (y : ℕ × ℕ × ℕ). y.1) v.2 in
    let c : point_count x.submeshes ≡ points = ap (λ (y : ℕ × ℕ × ℕ). y.2) v.2 in
    omega (arith, mesh_bits s x (mesh_spells s x v.0.1 v.1))

-- a mesh in the bytes from body to end has its room there
room_mesh : (s : List ℕ) (t : Totals) (x : Mesh) (p body end : ℕ) → p + header_bytes ≤ body → body ≤ end → MeshSpells (part s body end) x → Room t p → Room (with_mesh t x) end
room_mesh s t x p body end h k e r =
    let b = mesh_bits (part s body end) x e in
    let n : length (part s body end) ≤ end - body = simp length-take (omega arith) in
    record { few = omega (arith, r.few); bits = omega (arith, r.bits) }

pub room_on : (t : Totals) (p end : ℕ) → p ≤ end → Room t p → Room t end
room_on t p end h r = record { few = omega (arith, r.few); bits = omega (arith, r.bits) }

-- ---- a mesh body

abbrev pub with_counts : Totals → ℕ × ℕ × ℕ → Totals
with_counts t z =
    record {
      meshes = t.meshes + 1;
      coordinates = t.coordinates + 5 * z.0;
      submeshes = t.submeshes + z.1;
      points = t.points + z.2;
    }

pub body_added : (s : List ℕ) (t : Totals) (r : Verdict (ℕ × ℕ × ℕ)) → r ≡ mapped body_size (read_mesh s) → mapped (with_counts t) r ≡ mapped (with_body t) (read_mesh s)
body_added s t r e = rw e (go (read_mesh s))
  where
    go : (v : Verdict (Mesh × ℕ)) → mapped (with_counts t) (mapped body_size v) ≡ mapped (with_body t) v
    go (accepted x) = refl
    go (needs l) = refl
    go (declined k) = refl

-- ---- a box

module _ (s : List ℕ) (type body end : ℕ) (t : Totals) where
  pub box_skipped : (type ≡ mesh_type → ⊥) → box_totals s type body end t ≡ accepted t
  box_skipped n = simp (ne_eqb type mesh_type n)

  pub box_third : type ≡ mesh_type → 2 ≤ t.meshes → box_totals s type body end t ≡ declined 18
  box_third y h = simp (eq-eqb type mesh_type y, le-leb 2 t.meshes h)

  pub box_counted : type ≡ mesh_type → t.meshes < 2
      → box_totals s type body end t ≡ mapped (with_body t) (read_mesh (part s body end))
  box_counted y h = simp (eq-eqb type mesh_type y, lt-leb 2 t.meshes h)

-- ---- the boxes that are left

-- how many meshes more may come
abbrev pub more_after : Totals → ℕ
more_after t = 2 - t.meshes

-- a box whose long size is refused
pub measure_refused : (s : List ℕ) (p type k : ℕ) (t : Totals) → header_at s p ≡ accepted (box type (declined k))
    → mapped (totals_of t) (read_from s (more_after t) p) ≡ declined (box_refusal type k t)
measure_refused s p type k t h = ap (mapped (totals_of t)) (go (ℕ_discrete type mesh_type) (le-or-lt 2 t.meshes))
  where
    go : Dec (type ≡ mesh_type) → (2 ≤ t.meshes) ⊎ (t.meshes < 2)
        → read_from s (more_after t) p ≡ declined (box_refusal type k t)
    go (no n) d = box_other s (more_after t) p type (declined k) h n ∙ simp (ne_eqb type mesh_type n)
    go (yes y) (inl two) =
        let z : more_after t ≡ 0 = omega arith in
        box_mesh s (more_after t) p type (declined k) h y
        ∙ ap (λ (r : ℕ). read_mesh_box s (read_from s) r (declined k)) z
        ∙ simp (eq-eqb type mesh_type y, le-leb 2 t.meshes two)
    go (yes y) (inr few) =
        refused_more s p type k h (more_after t) (λ y. omega arith)
        ∙ simp (eq-eqb type mesh_type y, lt-leb 2 t.meshes few)

module _ (s : List ℕ) (p type body end : ℕ) (t : Totals) (h : header_at s p ≡ accepted (sized type body end)) where
  -- a mesh box: the third is refused
  mesh_refused : type ≡ mesh_type → 2 ≤ t.meshes → read_from s (more_after t) p ≡ declined 18
  mesh_refused y two =
      let z : more_after t ≡ 0 = omega arith in
      more_mesh s (more_after t) p type body end h y
      ∙ ap (λ (r : ℕ). read_mesh_box s (read_from s) r (accepted (body, end))) z

  mesh_counted : type ≡ mesh_type → t.meshes < 2
      → read_from s (more_after t) p ≡ and_then (read_mesh (part s body end)) (mesh_then (read_from s (2 - (t.meshes + 1)) end))
  mesh_counted y few =
      let z : more_after t ≡ suc (2 - (t.meshes + 1)) = omega arith in
      more_mesh s (more_after t) p type body end h y
      ∙ ap (λ (r : ℕ). read_mesh_box s (read_from s) r (accepted (body, end))) z

  pub measure_declined : (k : ℕ) → declined k ≡ box_totals s type body end t
      → mapped (totals_of t) (read_from s (more_after t) p) ≡ declined k
  measure_declined k a = go (ℕ_discrete type mesh_type) (le-or-lt 2 t.meshes)
    where
      go : Dec (type ≡ mesh_type) → (2 ≤ t.meshes) ⊎ (t.meshes < 2)
          → mapped (totals_of t) (read_from s (more_after t) p) ≡ declined k
      go (yes y) (inl two) =
          let e : k ≡ 18 = let f = box_third s type body end t y two in cc in
          ap (mapped (totals_of t)) (mesh_refused y two) ∙ ap declined (sym e)
      go (yes y) (inr few) =
          let d = mapped_declined (with_body t) (read_mesh (part s body end)) k (a ∙ box_counted s type body end t y few) in
          ap (mapped (totals_of t)) (mesh_counted y few ∙ then_no (read_mesh (part s body end)) (mesh_then (read_from s (2 - (t.meshes + 1)) end)) k d)
      go (no n) o = let f = box_skipped s type body end t n in clash (cc)

  pub measure_on : (u : Totals) → accepted u ≡ box_totals s type body end t
      → mapped (totals_of t) (read_from s (more_after t) p) ≡ mapped (totals_of u) (read_from s (more_after u) end)
  measure_on u a = go (ℕ_discrete type mesh_type) (le-or-lt 2 t.meshes)
    where
      more : (x : Mesh) (v : Verdict (List Mesh)) → mapped (totals_of t) (and_then v (λ l. accepted (x ∷ l))) ≡ mapped (totals_of (with_mesh t x)) v
      more x (accepted l) = refl
      more x (needs l) = refl
      more x (declined k) = refl

      go : Dec (type ≡ mesh_type) → (2 ≤ t.meshes) ⊎ (t.meshes < 2)
          → mapped (totals_of t) (read_from s (more_after t) p) ≡ mapped (totals_of u) (read_from s (more_after u) end)
      go (yes y) (inl two) = let f = box_third s type body end t y two in clash (cc)
      go (yes y) (inr few) =
          let v = mapped_value (with_body t) (read_mesh (part s body end)) u (a ∙ box_counted s type body end t y few) in
          ap (mapped (totals_of t)) (mesh_counted y few ∙ then_yes (read_mesh (part s body end)) (mesh_then (read_from s (2 - (t.meshes + 1)) end)) v.0 v.1)
          ∙ more v.0.0 (read_from s (2 - (t.meshes + 1)) end)
          ∙ ap (λ (w : Totals). mapped (totals_of w) (read_from s (more_after w) end)) v.2
      go (no n) o =
          let f = box_skipped s type body end t n in
          let i : t ≡ u = cc in
          ap (mapped (totals_of t)) (more_other s (more_after t) p type body end h n) ∙ rw i

  pub measure_room : (u : Totals) → accepted u ≡ box_totals s type body end t → Room t p → Room u end
  measure_room u a r = go (ℕ_discrete type mesh_type) (le-or-lt 2 t.meshes)
    where
      go : Dec (type ≡ mesh_type) → (2 ≤ t.meshes) ⊎ (t.meshes < 2) → Room u end
      go (yes y) (inl two) = let f = box_third s type body end t y two in clash (cc)
      go (yes y) (inr few) =
          let b = header_value s p type body end h in
          let v = mapped_value (with_body t) (read_mesh (part s body end)) u (a ∙ box_counted s type body end t y few) in
          rw (← v.2) (room_mesh s t v.0.0 p body end (omega (arith, body_after s p, b.2)) (omega (arith, b.0.least, b.2, b.3)) (mesh_spells (part s body end) v.0.0 v.0.1 v.1) r)
      go (no n) o =
          let b = header_value s p type body end h in
          let f = box_skipped s type body end t n in
          let i : t ≡ u = cc in
          rw (← i) (room_on t p end (omega (arith, body_after s p, b.0.least, b.3)) r)

-- ---- the totals of a list that was read

pub totals_room : {s : List ℕ} {p : ℕ} {l : List Mesh} (t : Totals) → BoxesSpell s p l → Room t p → Room (totals_of t l) (length s)
totals_room {s} {p} t (ends (i, e)) r = room_on t p (length s) i r
totals_room {s} {p} t (holds {x = x} {l = l} b y m e) r =
    totals_room (with_mesh t x) e (room_mesh s t x p (body_at s p) (end_at s p) (body_after s p) b.least m r)
totals_room {s} {p} t (skips b n e) r = totals_room t e (room_on t p (end_at s p) (omega (arith, body_after s p, b.least)) r)

-- the coordinates counted
abbrev pub coordinate_total : List Mesh → ℕ
coordinate_total l = sizes (λ (x : Mesh). 5 * mesh_vertices x) l

pub totals_are : (t : Totals) (l : List Mesh) → ((totals_of t l).meshes ≡ t.meshes + length l) × ((totals_of t l).coordinates ≡ t.coordinates + coordinate_total l)
    × ((totals_of t l).submeshes ≡ t.submeshes + submesh_total l) × ((totals_of t l).points ≡ t.points + point_total l)
totals_are t [] = (omega arith, omega arith, omega arith, omega arith)
totals_are t (x ∷ l) =
    let i = totals_are (with_mesh t x) l in
    (omega (arith, i.0), omega (arith, i.1), omega (arith, i.2), omega (arith, i.3))

-- ---- the lengths of a drawing's three lists

pub run_floats : (word : ℕ → ℕ) (base : ℕ) (l : List ℕ) → length (run_words word base l) ≡ 5 * length l
unfolding run_words
run_floats word base [] = refl
run_floats word base (v ∷ l) = omega (arith, run_floats word base l)

pub submesh_floats : (word : ℕ → ℕ) (base : ℕ) (l : List Submesh) → length (submesh_words word base l) ≡ 5 * point_count l
unfolding submesh_words
submesh_floats word base [] = refl
submesh_floats word base (x ∷ l) = length-append (run_words word base x.points) (submesh_words word base l) ∙ omega (arith, run_floats word base x.points, submesh_floats word base l)

pub floats-length : (l : List Mesh) → length (drawn_floats l) ≡ 5 * point_total l
unfolding drawn_floats
floats-length [] = refl
floats-length (x ∷ l) = length-append (mesh_words x) (drawn_floats l) ∙ omega (arith, submesh_floats (coordinate x) 0 x.submeshes, floats-length l)

pub submesh_records_lem : (eye first : ℕ) (l : List Submesh) → length (submesh_records eye first l) ≡ 5 * length l
unfolding submesh_records
submesh_records_lem eye first [] = refl
submesh_records_lem eye first (x ∷ l) = omega (arith, submesh_records_lem eye (first + length x.points) l)

pub records_on : (eye first : ℕ) (l : List Mesh) → length (records_from eye first l) ≡ 5 * submesh_total l
unfolding records_from
records_on eye first [] = refl
records_on eye first (x ∷ l) =
    length-append (submesh_records eye first x.submeshes) (records_from (eye + 1) (first + point_count x.submeshes) l)
    ∙ omega (arith, submesh_records_lem eye first x.submeshes, records_on (eye + 1) (first + point_count x.submeshes) l)

pub records-length : (l : List Mesh) → length (drawn_records l) ≡ 5 * submesh_total l
records-length l = records_on (first_eye (length l)) 0 l

-- of a list that was spelled: each mesh has five numbers for each vertex
pub numbers_spelled : {s : List ℕ} {p : ℕ} {l : List Mesh} → BoxesSpell s p l → length (drawn_numbers l) ≡ coordinate_total l
unfolding drawn_numbers
numbers_spelled (ends (i, e)) = refl
numbers_spelled (holds {x = x} {l = l} b y m e) = length-append x.vertices (drawn_numbers l) ∙ omega (arith, m.fives, numbers_spelled e)
numbers_spelled (skips b n e) = numbers_spelled e

pub numbers_length : (s : List ℕ) (l : List Mesh) → read_meshes s ≡ accepted l → length (drawn_numbers l) ≡ coordinate_total l
numbers_length s l e = numbers_spelled ((meshes_reads.reads l s).0 e).boxes

-- ---- a list's size, from its totals

read-room : (s : List ℕ) (l : List Mesh) → read_meshes s ≡ accepted l → Room (totals_of no_totals l) (length s)
read-room s l e = totals_room no_totals ((meshes_reads.reads l s).0 e).boxes (record { few = omega arith; bits = omega arith })

-- what a list that was read counts takes a bit or more of its bytes, and a submesh 48
pub list_fits : (s : List ℕ) (l : List Mesh) → read_meshes s ≡ accepted l → (length l ≤ length s) × (coordinate_total l + 48 * submesh_total l + point_total l ≤ 8 * length s)
list_fits s l e =
    let i = totals_are no_totals l in
    let r = read-room s l e in
    (omega (arith, i.0, r.few), omega (arith, i.1, i.2, i.3, r.bits))

abbrev pub size_of : Totals → MeshListSize
size_of t =
    record {
      meshes = t.meshes;
      submeshes = t.submeshes;
      points = t.points;
      numbers = t.coordinates;
      floats = 5 * t.points;
      records = 5 * t.submeshes;
    }

size_of_lem : (s : List ℕ) (l : List Mesh) → read_meshes s ≡ accepted l → size_of (totals_of no_totals l) ≡ list_size l
unfolding list_size
size_of_lem s l e =
    let i = totals_are no_totals l in
    let a : (totals_of no_totals l).meshes ≡ length l = omega (arith, i.0) in
    let b : (totals_of no_totals l).coordinates ≡ coordinate_total l = omega (arith, i.1) in
    let c : (totals_of no_totals l).submeshes ≡ submesh_total l = omega (arith, i.2) in
    let d : (totals_of no_totals l).points ≡ point_total l = omega (arith, i.3) in
    rw (a, b, c, d, floats-length l, records-length l, numbers_length s l e)

module _ (s : List ℕ) where
  pub measured_says_law : (r : Verdict Totals) → r ≡ mapped (totals_of no_totals) (read_meshes s) → mapped size_of r ≡ mapped list_size (read_meshes s)
  measured_says_law r e = rw e (go (read_meshes s) refl)
    where
      go : (v : Verdict (List Mesh)) → read_meshes s ≡ v → mapped size_of (mapped (totals_of no_totals) v) ≡ mapped list_size v
      go (accepted l) d = ap accepted (size_of_lem s l d)
      go (needs l) d = refl
      go (declined k) d = refl

  pub measured_room : (t : Totals) → accepted t ≡ mapped (totals_of no_totals) (read_meshes s) → Room t (length s)
  measured_room t e =
      let v = mapped_value (totals_of no_totals) (read_meshes s) t e in
      rw (← v.2) (read-room s v.0 v.1)
