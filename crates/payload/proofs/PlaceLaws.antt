-- The next mesh body by what a header says, and what it is in a list that was read. Assumes nothing.
use Rattle.std.proofs.Common.{◌≡◌, ℕ, zero, suc, ◌+◌, ◌*◌, ◌<◌, ◌≤◌, cond, eqb, List, [], ◌∷◌, ◌++◌, length, sym, refl, ap, ◌∙◌, arith, eq-eqb, ne_eqb}
use native.Mathlib.Decide.{ℕ_discrete}
use Rattle.bits.specs.Verdict.{Verdict, accepted, needs, declined}
use Rattle.bits.specs.Header.{Item, list_end, box, sized, header_at}
use Rattle.bits.proofs.HeaderLaws.{header_end}
use Rattle.payload.specs.Mesh.{Mesh}
use Rattle.payload.specs.MeshSpells.{type_at, body_at, end_at, mesh_type, part, WholeBox}
use Rattle.payload.specs.MeshRead.{read_mesh}
use Rattle.payload.specs.MeshSpells.{ends, skips}
use Rattle.payload.specs.EyeLaws.{BoxesUpTo}
use Rattle.payload.specs.Internal.{WasRead, value_or, any_from, mesh_read, meshes_from}
use Rattle.payload.specs.Places.{Spot, nowhere, spot, next_item, next_in, next_body}
use Rattle.payload.proofs.StepLaws.{not-read}
use Rattle.payload.proofs.BoxReadLaws.{Way, over, broken, refused, whole, way, body_after, header_value}
use Rattle.payload.proofs.BoxReadLaws.{at_declined, at_refused}
use Rattle.payload.proofs.TurnLaws.{box_turn, box_held, box_skipped, list_end_lem}

-- ---- by what the header says

item_mesh : (rest : ℕ → Spot) (type body end : ℕ) → type ≡ mesh_type
    → next_item rest (accepted (sized type body end)) ≡ spot body end
item_mesh rest type body end e = simp (eq-eqb type mesh_type e)

item_other : (rest : ℕ → Spot) (type body end : ℕ) → (type ≡ mesh_type → ⊥)
    → next_item rest (accepted (sized type body end)) ≡ rest end
item_other rest type body end n = simp (ne_eqb type mesh_type n)

-- two numbers of turns that are enough find the same
same_turns : (s : List ℕ) (f g p : ℕ) → length s < p + 8 * f + 8 → length s < p + 8 * g + 8
    → next_in s f p ≡ next_in s g p
unfolding next_in
same_turns s zero zero p h k = refl
same_turns s zero (suc g) p h k = sym (ap (next_item (next_in s g)) (header_end s p (omega arith)))
same_turns s (suc f) zero p h k = ap (next_item (next_in s f)) (header_end s p (omega arith))
same_turns s (suc f) (suc g) p h k = go (header_at s p) refl (λ end b. same_turns s f g end (omega arith) (omega arith))
  where
    go : (v : Verdict Item) → header_at s p ≡ v → ((end : ℕ) → p + 8 ≤ end → next_in s f end ≡ next_in s g end)
        → next_item (next_in s f) v ≡ next_item (next_in s g) v
    go (accepted list_end) e i = refl
    go (accepted (box type (accepted x))) e i =
        let b = header_value s p type x.0 x.1 e in
        ap (λ (y : Spot). cond (eqb type mesh_type) (spot x.0 x.1) y)
        (i x.1 (omega (arith, body_after s p, b.0.least, b.3)))
    go (accepted (box type (needs l))) e i = refl
    go (accepted (box type (declined k))) e i = refl
    go (needs l) e i = refl
    go (declined j) e i = refl

module _ (s : List ℕ) (p : ℕ) where
  by_header : next_body s p ≡ next_item (next_body s) (header_at s p)
  unfolding next_body next_in
  by_header = same_turns s (length s) (suc (length s)) p (omega arith) (omega arith)

  pub next_end : header_at s p ≡ accepted list_end → next_body s p ≡ nowhere
  next_end e = by_header ∙ ap (next_item (next_body s)) e

  pub next_declined : (k : ℕ) → header_at s p ≡ declined k → next_body s p ≡ nowhere
  next_declined k e = by_header ∙ ap (next_item (next_body s)) e

  pub next_refused : (type k : ℕ) → header_at s p ≡ accepted (box type (declined k)) → next_body s p ≡ nowhere
  next_refused type k e = by_header ∙ ap (next_item (next_body s)) e

  module _ (type body end : ℕ) (e : header_at s p ≡ accepted (sized type body end)) where
    pub next_mesh : type ≡ mesh_type → next_body s p ≡ spot body end
    next_mesh y = by_header ∙ ap (next_item (next_body s)) e ∙ item_mesh (next_body s) type body end y

    pub next_other : (type ≡ mesh_type → ⊥) → next_body s p ≡ next_body s end
    next_other n = by_header ∙ ap (next_item (next_body s)) e ∙ item_other (next_body s) type body end n

    -- the box reaches on, within the bytes
    pub header_on : (p + 8 ≤ body) × (body ≤ end) × (end ≤ length s)
    header_on =
        let b = header_value s p type body end e in
        (omega (arith, b.2), omega (arith, b.0.least, b.2, b.3), omega (arith, b.0.most, b.3))

-- ---- in a list that was read

-- the box at byte `at` is the first mesh box from byte p on
pub record MeshBox (s : List ℕ) (p body end : ℕ) : Type 0 where
  pub at : ℕ
  pub skipped : BoxesUpTo s p at []
  pub box : WholeBox s at
  pub type : type_at s at ≡ mesh_type
  pub starts : body ≡ body_at s at
  pub ends : end ≡ end_at s at

-- of the list from byte p on, the first mesh is read from the bytes `body` up to `end`, and the others follow from there
pub record MeshNext (s : List ℕ) (p body end : ℕ) : Type 0 where
  pub first : MeshBox s p body end
  pub starts : p + 8 ≤ body
  pub whole : body ≤ end
  pub ends : end ≤ length s
  pub read : WasRead (read_mesh (part s body end))
  pub is : meshes_from s p ≡ mesh_read (part s body end) ∷ meshes_from s end
  pub rest : WasRead (any_from s end)

-- the same by cases
abbrev pub NextIs : List ℕ → ℕ → Spot → Type 0
NextIs s p (spot body end) = MeshNext s p body end
NextIs s p nowhere = meshes_from s p ≡ []

-- behind a box that is skipped
behind : (s : List ℕ) (p : ℕ) → WholeBox s p → (type_at s p ≡ mesh_type → ⊥) → meshes_from s p ≡ meshes_from s (end_at s p)
    → (v : Spot) → NextIs s (end_at s p) v → NextIs s p v
behind s p b n e nowhere i = e ∙ i
behind s p b n e (spot body end) i =
    let B = i.first in
    record {
      first =
          record {
            at = B.at;
            skipped = skips b n B.skipped;
            box = B.box;
            type = B.type;
            starts = B.starts;
            ends = B.ends;
          };
      starts = omega (arith, i.starts, body_after s p, b.least);
      whole = i.whole;
      ends = i.ends;
      read = i.read;
      is = e ∙ i.is;
      rest = i.rest;
    }

held : (s : List ℕ) (p type body end : ℕ) → WasRead (any_from s p) → header_at s p ≡ accepted (sized type body end)
    → type ≡ mesh_type → MeshNext s p body end
held s p type body end r e y =
    let T = box_turn s p type body end r e in
    let h = box_held s type body end y T.read in
    let b = header_value s p type body end e in
    record {
      first =
          record {
            at = p;
            skipped = ends refl;
            box = b.0;
            type = sym b.1 ∙ y;
            starts = b.2;
            ends = b.3;
          };
      starts = T.starts;
      whole = T.whole;
      ends = T.ends;
      read = h.0;
      is = T.is ∙ ap (λ (l : List Mesh). l ++ meshes_from s end) h.1;
      rest = T.rest;
    }

next_in_lem : (s : List ℕ) (turns p : ℕ) → length s < p + 8 * turns → WasRead (any_from s p) → NextIs s p (next_body s p)
next_in_lem s zero p h r = let e = header_end s p (omega arith) in rw (next_end s p e) (list_end_lem s p e)
next_in_lem s (suc turns) p h r = go (way s p) (λ end o k. next_in_lem s turns end o k)
  where
    go : Way s p
        → ((end : ℕ) → length s < end + 8 * turns → WasRead (any_from s end) → NextIs s end (next_body s end))
        → NextIs s p (next_body s p)
    go (over o e) rec = rw (next_end s p e) (list_end_lem s p e)
    go (broken e) rec = absurd (not-read (any_from s p) 6 (at_declined s p 6 e) r)
    go (refused k i e) rec =
        let d = at_refused s p (type_at s p) k e in
        absurd (not-read (any_from s p) d.0 d.1 r)
    go (whole w e) rec = by (ℕ_discrete (type_at s p) mesh_type)
      where
        by : Dec (type_at s p ≡ mesh_type) → NextIs s p (next_body s p)
        by (yes y) =
            rw (next_mesh s p (type_at s p) (body_at s p) (end_at s p) e y)
            (held s p (type_at s p) (body_at s p) (end_at s p) r e y)
        by (no n) =
            let T = box_turn s p (type_at s p) (body_at s p) (end_at s p) r e in
            let same : meshes_from s p ≡ meshes_from s (end_at s p) =
            T.is
            ∙ ap (λ l. value_or [] l ++ meshes_from s (end_at s p)) (box_skipped s (type_at s p) (body_at s p) (end_at s p) n) in
            rw (next_other s p (type_at s p) (body_at s p) (end_at s p) e n)
            (behind s p w n same (next_body s (end_at s p))
            (rec (end_at s p) (omega (arith, T.starts, T.whole)) T.rest))

pub next_read : (s : List ℕ) (p : ℕ) → WasRead (any_from s p) → NextIs s p (next_body s p)
next_read s p r = next_in_lem s (suc (length s)) p (omega arith) r
