-- Kind 2, and a mesh body alone, are read exactly where they are spelled. Assumes nothing.
use Rattle.std.proofs.Common.{◌≡◌, ℕ, zero, suc, ◌+◌, ◌<◌, ◌≤◌, ◌↔◌, List, [], ◌∷◌, length, sym, ap, ◌∙◌, arith}
use native.Mathlib.Decide.{ℕ_discrete}
use Rattle.bits.specs.Verdict.{Verdict, accepted, mapped}
use Rattle.bits.proofs.VerdictLaws.{clash, then_yes, then_value, mapped_value}
use Rattle.bits.proofs.HeaderLaws.{header_end}
use Rattle.payload.specs.Mesh.{Mesh}
use Rattle.payload.specs.MeshSpells.{type_at, body_at, end_at, mesh_type, part, WholeBox, BoxesSpell, ends, holds}
use Rattle.payload.specs.MeshSpells.{skips, MeshesSpell}
use Rattle.payload.specs.MeshRead.{read_mesh, read_mesh_box, read_from, read_meshes}
use Rattle.payload.specs.Internal.{WasRead, any_from}
use Rattle.payload.specs.Tables.{body_read}
use Rattle.payload.specs.Laws.{MeshesReads, BodySpells, MeshReads}
use Rattle.bits.proofs.VerdictLaws.{limited_yes}
use Rattle.payload.proofs.PayloadLaws.{limited_value}
use Rattle.payload.proofs.ReadLaws.{reads_laws}
use Rattle.payload.proofs.StepLaws.{read_value}
use Rattle.payload.proofs.MeshReadLaws.{mesh_spells, spells_mesh}
use Rattle.payload.proofs.BoxReadLaws.{body_after, header_whole, Way, over, broken, refused, whole, way, mesh_then}
use Rattle.payload.proofs.BoxReadLaws.{more_end, more_declined, more_mesh, more_other, refused_any}

-- by turns, since the places go up
boxes_spell : (s : List ℕ) (turns more p : ℕ) (l : List Mesh) → p ≤ length s → length s < p + turns
    → read_from s more p ≡ accepted l → BoxesSpell s p l × (length l ≤ more)
boxes_spell s zero more p l i h e = absurd (omega arith)
boxes_spell s (suc turns) more p l i h e =
    go (way s p) (ℕ_discrete (type_at s p) mesh_type)
    (λ b r m u. boxes_spell s turns r (end_at s p) m b.most (omega (arith, body_after s p, b.least)) u)
  where
    -- a mesh that was read, and the list that follows
    put : WholeBox s p → type_at s p ≡ mesh_type
        → (x : Mesh) (q r : ℕ) → read_mesh (part s (body_at s p) (end_at s p)) ≡ accepted (x, q)
        → (m : List Mesh) → BoxesSpell s (end_at s p) m × (length m ≤ r)
        → ◌≡◌ {A = Verdict (List Mesh)} (accepted (x ∷ m)) (accepted l) → BoxesSpell s p l × (length l ≤ suc r)
    put b y x q r k m f d =
        let z : x ∷ m ≡ l = cc in
        rw (← z) (holds b y (mesh_spells (part s (body_at s p) (end_at s p)) x q k) f.0, omega (arith, f.1))

    go : Way s p → Dec (type_at s p ≡ mesh_type)
        → (WholeBox s p → (r : ℕ) (m : List Mesh) → read_from s r (end_at s p) ≡ accepted m
        → BoxesSpell s (end_at s p) m × (length m ≤ r))
        → BoxesSpell s p l × (length l ≤ more)
    go (over a c) d ih =
        let f = more_end s more p c in
        let z : l ≡ [] = cc in
        rw z (ends (i, a), omega arith)
    go (broken c) d ih = let f = more_declined s more p 6 c in clash (cc)
    go (refused k h c) d ih = let f = refused_any s p (type_at s p) k c more in let g = f.1 in clash (cc)
    go (whole b c) (no n) ih =
        let f = ih b more l (sym (more_other s more p (type_at s p) (body_at s p) (end_at s p) c n) ∙ e) in
        (skips b n f.0, f.1)
    go (whole b c) (yes y) ih = mesh more (sym (more_mesh s more p (type_at s p) (body_at s p) (end_at s p) c y) ∙ e)
      where
        mesh : (r : ℕ) → read_mesh_box s (read_from s) r (accepted (body_at s p, end_at s p)) ≡ accepted l
            → BoxesSpell s p l × (length l ≤ r)
        mesh zero d = clash (cc)
        mesh (suc r) d =
            let f = then_value (read_mesh (part s (body_at s p) (end_at s p))) (mesh_then (read_from s r (end_at s p))) l d in
            let g = then_value (read_from s r (end_at s p)) (λ l. accepted (f.0.0 ∷ l)) l f.2 in
            put b y f.0.0 f.0.1 r f.1 g.0 (ih b r g.0 g.1) g.2

spelled_boxes : {s : List ℕ} {p : ℕ} {l : List Mesh} → BoxesSpell s p l → (more : ℕ) → length l ≤ more
    → read_from s more p ≡ accepted l
spelled_boxes {s} {p} (ends (i, e)) more h = more_end s more p (header_end s p e)
spelled_boxes {s} {p} (holds {x = x} {l = l} b y m r) zero h = absurd (omega arith)
spelled_boxes {s} {p} (holds {x = x} {l = l} b y m r) (suc more) h =
    let f = spells_mesh (part s (body_at s p) (end_at s p)) x m in
    more_mesh s (suc more) p (type_at s p) (body_at s p) (end_at s p) (header_whole s p b) y
    ∙ then_yes (read_mesh (part s (body_at s p) (end_at s p))) (mesh_then (read_from s more (end_at s p))) (x, f.0) f.1
    ∙ then_yes (read_from s more (end_at s p)) (λ l. accepted (x ∷ l)) l (spelled_boxes r more (omega arith))
spelled_boxes {s} {p} (skips b n r) more h =
    more_other s more p (type_at s p) (body_at s p) (end_at s p) (header_whole s p b) n ∙ spelled_boxes r more h

both : (l : List Mesh) (s : List ℕ) → (read_meshes s ≡ accepted l) ↔ MeshesSpell l s
both l s = (forth, λ m. spelled_boxes m.boxes 2 m.most)
  where
    forth : read_meshes s ≡ accepted l → MeshesSpell l s
    forth e =
        let r = boxes_spell s (suc (length s)) 2 0 l (omega arith) (omega arith) e in
        record { boxes = r.0; most = r.1 }

-- a mesh takes a byte or more, so there are no more than bytes
boxes_few : {s : List ℕ} {p : ℕ} {l : List Mesh} → BoxesSpell s p l → p + length l ≤ length s
boxes_few (ends (i, e)) = omega arith
boxes_few {s} {p} (holds b y m r) = omega (arith, boxes_few r, body_after s p, b.least)
boxes_few {s} {p} (skips b n r) = omega (arith, boxes_few r, body_after s p, b.least)

-- what is read of at most two is read of however many
pub any_read : (s : List ℕ) (l : List Mesh) → read_meshes s ≡ accepted l → any_from s 0 ≡ accepted l
any_read s l e = let m = (both l s).0 e in spelled_boxes m.boxes (length s) (omega (arith, boxes_few m.boxes))

pub any_was : (s : List ℕ) → WasRead (read_meshes s) → WasRead (any_from s 0)
any_was s r = let v = read_value (read_meshes s) r in rw (any_read s v.0 v.1) tt

pub meshes_reads : MeshesReads
meshes_reads = reads_laws read_meshes both

-- ---- a mesh body alone

body_both : (x : Mesh) (s : List ℕ) → (body_read s ≡ accepted x) ↔ BodySpells x s
body_both x s = (forth, λ b. back b.0 (spells_mesh s x b.1))
  where
    forth : body_read s ≡ accepted x → BodySpells x s
    forth e =
        let l = limited_value s (mapped (λ (y : Mesh × ℕ). y.0) (read_mesh s)) x e in
        let m = mapped_value (λ (y : Mesh × ℕ). y.0) (read_mesh s) x (sym l.1) in
        (l.0, rw m.2 at (mesh_spells s m.0.0 m.0.1 m.1))

    back : length s ≤ 67108864 → (q : ℕ) × (read_mesh s ≡ accepted (x, q)) → body_read s ≡ accepted x
    back l (q, e) = limited_yes s (mapped (λ (y : Mesh × ℕ). y.0) (read_mesh s)) l ∙ ap (mapped (λ (y : Mesh × ℕ). y.0)) e

pub mesh_reads : MeshReads
mesh_reads = reads_laws body_read body_both
