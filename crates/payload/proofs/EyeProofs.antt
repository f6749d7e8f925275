-- The theorems of specs/EyeLaws.antt. Assumes nothing.
use Rattle.std.proofs.Common.{◌≡◌, ℕ, zero, suc, ◌+◌, ◌-◌, ◌*◌, ◌<◌, ◌≤◌, List, [], ◌∷◌, ◌++◌, length, get_or, refl, ap, ◌∙◌, append-nil, arith, get_or-append-add}
use Rattle.bits.specs.Verdict.{accepted, declined}
use Rattle.bits.proofs.VerdictLaws.{then_yes, then_no}
use Rattle.payload.specs.Mesh.{Submesh, Mesh}
use Rattle.payload.specs.MeshSpells.{type_at, body_at, end_at, mesh_type, part, WholeBox}
use Rattle.payload.specs.MeshSpells.{ends, holds, skips}
use Rattle.payload.specs.MeshRead.{read_mesh, read_from}
use Rattle.payload.specs.MeshDrawing.{submesh_records, point_count, records_from, first_eye}
use Rattle.payload.specs.EyeLaws.{BoxesUpTo, EyeLaws}
use Rattle.payload.proofs.BoxReadLaws.{header_bad, header_whole, mesh_then, more_declined, more_mesh, more_other}
use Rattle.payload.proofs.MeshReadLaws.{spells_mesh}
use Rattle.payload.proofs.MeshTheorems.{meshes_reads}
use Rattle.payload.proofs.MeasureLaws.{submesh_records_lem}

-- boxes that were read leave the refusal to what comes after them, where so many meshes fewer may come
pub after_boxes : {s : List ℕ} {q p : ℕ} {l : List Mesh} → BoxesUpTo s p q l → (more k : ℕ) → length l ≤ more
    → read_from s (more - length l) q ≡ declined k → read_from s more p ≡ declined k
after_boxes {s = s} {p = p} (ends i) more k h e =
    let z : more - 0 ≡ more = omega arith in
    rw (z, ← i) at e
after_boxes (holds b y m r) zero k h e = absurd (omega arith)
after_boxes {s = s} {q = q} {p = p} (holds {x = x} {l = l} b y m r) (suc more) k h e =
    let f = spells_mesh (part s (body_at s p) (end_at s p)) x m in
    let z : suc more - suc (length l) ≡ more - length l = omega arith in
    more_mesh s (suc more) p (type_at s p) (body_at s p) (end_at s p) (header_whole s p b) y
    ∙ then_yes (read_mesh (part s (body_at s p) (end_at s p))) (mesh_then (read_from s more (end_at s p))) (x, f.0) f.1
    ∙ then_no (read_from s more (end_at s p)) (λ l. accepted (x ∷ l)) k (after_boxes r more k (omega arith) (rw z at e))
after_boxes {s = s} {p = p} (skips b n r) more k h e =
    more_other s more p (type_at s p) (body_at s p) (end_at s p) (header_whole s p b) n ∙ after_boxes r more k h e

-- a mesh box where one more may come is refused as its body is
body_declined : (s : List ℕ) (more p k : ℕ) → 0 < more → WholeBox s p → type_at s p ≡ mesh_type
    → read_mesh (part s (body_at s p) (end_at s p)) ≡ declined k → read_from s more p ≡ declined k
body_declined s zero p k h b y e = absurd (omega arith)
body_declined s (suc more) p k h b y e =
    more_mesh s (suc more) p (type_at s p) (body_at s p) (end_at s p) (header_whole s p b) y
    ∙ then_no (read_mesh (part s (body_at s p) (end_at s p))) (mesh_then (read_from s more (end_at s p))) k e

-- of some submeshes' records the first word is the eye
first_word : (eye first : ℕ) (l : List Submesh) (after : List ℕ) (k other : ℕ) → k < length l
    → get_or (submesh_records eye first l ++ after) (5 * k) other ≡ eye
unfolding submesh_records
first_word eye first [] after k other h = absurd (omega arith)
first_word eye first (x ∷ l) after zero other h = refl
first_word eye first (x ∷ l) after (suc k) other h =
    let z : 5 * suc k ≡ suc (suc (suc (suc (suc (5 * k))))) = omega arith in
    rw z (first_word eye (first + length x.points) l after k other (omega arith))

-- and behind those of a mesh there stand the next one's
next_word : (eye first : ℕ) (l : List Submesh) (after : List ℕ) (k other : ℕ)
    → get_or (submesh_records eye first l ++ after) (5 * (length l + k)) other ≡ get_or after (5 * k) other
next_word eye first l after k other =
    let z : 5 * (length l + k) ≡ length (submesh_records eye first l) + 5 * k
    = omega (arith, submesh_records_lem eye first l) in
    rw z (get_or-append-add (submesh_records eye first l) after (5 * k) other)

pub eye_laws : EyeLaws
unfolding records_from first_eye
eye_laws =
    record {
      both = λ x. append-nil (submesh_records 0 0 x.submeshes);
      left_right = λ x y.
          let n = point_count x.submeshes in
          let z : 0 + n ≡ n = omega arith in
          ap (λ (l : List ℕ). submesh_records 1 0 x.submeshes ++ l)
          (append-nil (submesh_records 2 (0 + n) y.submeshes) ∙ ap (λ (k : ℕ). submesh_records 2 k y.submeshes) z);
      both_word = λ x k other h. first_word 0 0 x.submeshes [] k other h;
      left_word = λ x y k other h. first_word 1 0 x.submeshes _ k other h;
      right_word = λ x y k other h.
          next_word 1 0 x.submeshes _ k other ∙ first_word 2 (0 + point_count x.submeshes) y.submeshes [] k other h;
      most = λ s l e. ((meshes_reads.reads l s).0 e).most;
      third = λ s p x y before b t.
          after_boxes before 2 18 (omega arith)
          (more_mesh s 0 p (type_at s p) (body_at s p) (end_at s p) (header_whole s p b) t);
      size_first = λ s p l before h i n e.
          after_boxes before 2 6 h (more_declined s (2 - length l) p 6 (header_bad s p i n e));
      earlier_first = λ s p k l before h b t e.
          after_boxes before 2 k (omega arith) (body_declined s (2 - length l) p k (omega arith) b t e);
    }
