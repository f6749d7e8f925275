-- A list of boxes: what stands at a byte, and one law for each way through reading on from there. Assumes nothing.
use Rattle.std.proofs.Common.{◌≡◌, ℕ, zero, suc, ◌+◌, ◌<◌, ◌≤◌, ◌⊎◌, List, [], ◌∷◌, length, sym, refl, ap, ◌∙◌, ap₂, inl, inr, arith, eq-eqb, ne_eqb}
use native.Mathlib.Decide.{ℕ_discrete}
use Rattle.bits.specs.Verdict.{Verdict, accepted, needs, declined, and_then, mapped}
use Rattle.bits.specs.Header.{Item, list_end, box, sized, extent_of, long_extent, header_at}
use Rattle.bits.proofs.VerdictLaws.{le-or-lt, clash, then_yes, then_no}
use Rattle.bits.proofs.HeaderLaws.{header_end, header_sized, sized_long, sized_short, extent_small, extent_past}
use Rattle.bits.proofs.HeaderLaws.{extent_whole, long_cut, long_there}
use Rattle.payload.specs.Mesh.{Mesh}
use Rattle.payload.specs.MeshSpells.{header_bytes, size_at, type_at, long_size_at, body_at, end_at, mesh_type, part, WholeBox}
use Rattle.payload.specs.MeshRead.{read_mesh, read_mesh_box, read_item, read_boxes, read_from}
use Rattle.payload.specs.Internal.{any_from}

-- ---- what stands at a byte

-- by a size of 1, and by another
module _ (s : List ℕ) (p : ℕ) where
  module _ (e : size_at s p ≡ 1) where
    pub long_body : body_at s p ≡ p + 16
    long_body = simp (eq-eqb (size_at s p) 1 e) (omega arith)

    pub long_end : end_at s p ≡ p + long_size_at s p
    long_end = simp (eq-eqb (size_at s p) 1 e)

  module _ (n : size_at s p ≡ 1 → ⊥) where
    pub short_body : body_at s p ≡ p + header_bytes
    short_body = simp (ne_eqb (size_at s p) 1 n) (omega arith)

    pub short_end : end_at s p ≡ p + size_at s p
    short_end = simp (ne_eqb (size_at s p) 1 n)

-- a body begins behind its header
pub body_after : (s : List ℕ) (p : ℕ) → p + header_bytes ≤ body_at s p
body_after s p = omega arith

-- what a header says: of a short size at once, of a long one with its type
module _ (s : List ℕ) (p : ℕ) (h : p + header_bytes ≤ length s) (v : Verdict (ℕ × ℕ)) where
  pub short_says : (size_at s p ≡ 1 → ⊥) → extent_of (length s) p header_bytes (size_at s p) ≡ v
      → header_at s p ≡ mapped (λ e. box (type_at s p) (accepted e)) v
  short_says n e =
      header_sized s p h ∙ sized_short s p (size_at s p) (type_at s p) n
      ∙ ap (mapped (λ e. box (type_at s p) (accepted e))) e

  pub long_says_law : size_at s p ≡ 1 → long_extent s p ≡ v → header_at s p ≡ accepted (box (type_at s p) v)
  long_says_law i e =
      header_sized s p h ∙ sized_long s p (size_at s p) (type_at s p) i
      ∙ ap (λ (x : Verdict (ℕ × ℕ)). accepted (box (type_at s p) x)) e

pub header_whole : (s : List ℕ) (p : ℕ) → WholeBox s p
    → header_at s p ≡ accepted (sized (type_at s p) (body_at s p) (end_at s p))
header_whole s p w = go (ℕ_discrete (size_at s p) 1)
  where
    go : Dec (size_at s p ≡ 1) → header_at s p ≡ accepted (sized (type_at s p) (body_at s p) (end_at s p))
    go (yes e) =
        let b = long_body s p e in
        let z = long_end s p e in
        let l = long_there s p (omega (arith, w.least, w.most, b)) in
        long_says_law s p w.header _ e
        (l ∙ extent_whole (length s) p 16 (long_size_at s p) (omega (arith, w.least, b, z)) (omega (arith, w.most, z)))
        ∙ ap₂ (λ (x y : ℕ). accepted (sized (type_at s p) x y)) (sym b) (sym z)
    go (no n) =
        let b = short_body s p n in
        let z = short_end s p n in
        short_says s p w.header _ n
        (extent_whole (length s) p header_bytes (size_at s p) (omega (arith, w.least, b, z)) (omega (arith, w.most, z)))
        ∙ ap₂ (λ (x y : ℕ). accepted (sized (type_at s p) x y)) (sym b) (sym z)

-- the end of the list, a box that is refused, by its size or by its long one, or a whole one, with what its header says
pub data Way (s : List ℕ) (p : ℕ) : Type 0 where
  over : length s < p + header_bytes → header_at s p ≡ accepted list_end → Way s p
  broken : header_at s p ≡ declined 6 → Way s p
  refused : (k : ℕ) → p + header_bytes ≤ length s → header_at s p ≡ accepted (box (type_at s p) (declined k)) → Way s p
  whole : WholeBox s p → header_at s p ≡ accepted (sized (type_at s p) (body_at s p) (end_at s p)) → Way s p

module _ (s : List ℕ) (p : ℕ) (h : p + header_bytes ≤ length s) where
  put : body_at s p ≤ end_at s p → end_at s p ≤ length s → Way s p
  put l u = let w : WholeBox s p = record { header = h; least = l; most = u } in whole w (header_whole s p w)

  pub header_bad : (size_at s p ≡ 1 → ⊥) → (size_at s p < header_bytes) ⊎ (length s < p + size_at s p)
      → header_at s p ≡ declined 6
  header_bad n e = short_says s p h _ n (go e)
    where
      go : (size_at s p < header_bytes) ⊎ (length s < p + size_at s p)
          → extent_of (length s) p header_bytes (size_at s p) ≡ declined 6
      go (inl l) = extent_small (length s) p header_bytes (size_at s p) l
      go (inr u) = extent_past (length s) p header_bytes (size_at s p) u

  short_way : (size_at s p ≡ 1 → ⊥) → Way s p
  short_way n = go (le-or-lt header_bytes (size_at s p)) (le-or-lt (p + size_at s p) (length s))
    where
      go : (header_bytes ≤ size_at s p) ⊎ (size_at s p < header_bytes)
          → (p + size_at s p ≤ length s) ⊎ (length s < p + size_at s p) → Way s p
      go (inr l) u = broken (header_bad n (inl l))
      go (inl l) (inr u) = broken (header_bad n (inr u))
      go (inl l) (inl u) = put (omega (arith, short_body s p n, short_end s p n)) (omega (arith, short_end s p n))

  long_way : size_at s p ≡ 1 → Way s p
  long_way e =
      go (le-or-lt (p + 16) (length s)) (le-or-lt 16 (long_size_at s p)) (le-or-lt (p + long_size_at s p) (length s))
    where
      go : (p + 16 ≤ length s) ⊎ (length s < p + 16) → (16 ≤ long_size_at s p) ⊎ (long_size_at s p < 16)
          → (p + long_size_at s p ≤ length s) ⊎ (length s < p + long_size_at s p) → Way s p
      go (inr k) l u = refused 3 h (long_says_law s p h _ e (long_cut s p k))
      go (inl k) (inr l) u =
          refused 6 h (long_says_law s p h _ e (long_there s p k ∙ extent_small (length s) p 16 (long_size_at s p) l))
      go (inl k) (inl l) (inr u) =
          refused 6 h (long_says_law s p h _ e (long_there s p k ∙ extent_past (length s) p 16 (long_size_at s p) u))
      go (inl k) (inl l) (inl u) = put (omega (arith, long_body s p e, long_end s p e)) (omega (arith, long_end s p e))

pub way : (s : List ℕ) (p : ℕ) → Way s p
way s p = go (le-or-lt (p + header_bytes) (length s)) (ℕ_discrete (size_at s p) 1)
  where
    go : (p + header_bytes ≤ length s) ⊎ (length s < p + header_bytes) → Dec (size_at s p ≡ 1) → Way s p
    go (inr h) d = over h (header_end s p h)
    go (inl h) (yes e) = long_way s p h e
    go (inl h) (no n) = short_way s p h n

-- a header that was found
sized_same : {t t' b b' e e' : ℕ} → ◌≡◌ {A = Verdict Item} (accepted (sized t b e)) (accepted (sized t' b' e'))
    → (t ≡ t') × (b ≡ b') × (e ≡ e')
sized_same {t} {t'} {b} {b'} {e} {e'} h =
    let z : ◌≡◌ {A = ℕ × ℕ} (b, e) (b', e') = cc in
    (cc, ap (λ (x : ℕ × ℕ). x.0) z, ap (λ (x : ℕ × ℕ). x.1) z)

pub header_value : (s : List ℕ) (p type body end : ℕ) → header_at s p ≡ accepted (sized type body end)
    → WholeBox s p × (type ≡ type_at s p) × (body ≡ body_at s p) × (end ≡ end_at s p)
header_value s p type body end e = go (way s p)
  where
    go : Way s p → WholeBox s p × (type ≡ type_at s p) × (body ≡ body_at s p) × (end ≡ end_at s p)
    go (over a f) = clash (cc)
    go (broken f) = clash (cc)
    go (refused k h f) = clash (cc)
    go (whole b f) = let z = sized_same (sym e ∙ f) in (b, z.0, z.1, z.2)

-- ---- a box of the list

-- a mesh in front of what follows
abbrev pub mesh_then : Verdict (List Mesh) → Mesh × ℕ → Verdict (List Mesh)
mesh_then rest x = and_then rest (λ l. accepted (x.0 ∷ l))

module _ (s : List ℕ) (rest : ℕ → ℕ → Verdict (List Mesh)) (more type : ℕ) (extent : Verdict (ℕ × ℕ)) where
  item_mesh : type ≡ mesh_type → read_item s rest more (box type extent) ≡ read_mesh_box s rest more extent
  item_mesh e = simp (eq-eqb type mesh_type e)

  item_other : (type ≡ mesh_type → ⊥) → read_item s rest more (box type extent) ≡ and_then extent (λ e. rest more e.1)
  item_other n = simp (ne_eqb type mesh_type n)

-- only what follows the box matters
mesh_same : (s : List ℕ) (f g : ℕ → ℕ → Verdict (List Mesh)) (more body end : ℕ) → ((r : ℕ) → f r end ≡ g r end)
    → read_mesh_box s f more (accepted (body, end)) ≡ read_mesh_box s g more (accepted (body, end))
mesh_same s f g zero body end e = refl
mesh_same s f g (suc more) body end e = rw (e more)

-- and nothing where it has no body
pub needs_same : (s t : List ℕ) (f g : ℕ → ℕ → Verdict (List Mesh)) (more : ℕ) (l : List ℕ)
    → read_mesh_box s f more (needs l) ≡ read_mesh_box t g more (needs l)
needs_same s t f g zero l = refl
needs_same s t f g (suc more) l = refl

pub refused_same : (s t : List ℕ) (f g : ℕ → ℕ → Verdict (List Mesh)) (more k : ℕ)
    → read_mesh_box s f more (declined k) ≡ read_mesh_box t g more (declined k)
refused_same s t f g zero k = refl
refused_same s t f g (suc more) k = refl

item_same : (s : List ℕ) (f g : ℕ → ℕ → Verdict (List Mesh)) (more type body end : ℕ) → ((r : ℕ) → f r end ≡ g r end)
    → read_item s f more (sized type body end) ≡ read_item s g more (sized type body end)
item_same s f g more type body end e = rw (mesh_same s f g more body end e, e more)

-- ---- the list from a byte on

-- two numbers of turns that are enough read the same
same_turns : (s : List ℕ) (f g more p : ℕ) → length s < p + header_bytes + f → length s < p + header_bytes + g
    → read_boxes s f more p ≡ read_boxes s g more p
unfolding read_boxes
same_turns s zero zero more p h k = refl
same_turns s zero (suc g) more p h k =
    sym (then_yes (header_at s p) (read_item s (read_boxes s g) more) list_end (header_end s p (omega arith)))
same_turns s (suc f) zero more p h k =
    then_yes (header_at s p) (read_item s (read_boxes s f) more) list_end (header_end s p (omega arith))
same_turns s (suc f) (suc g) more p h k =
    go (header_at s p) refl (λ end b r. same_turns s f g r end (omega arith) (omega arith))
  where
    go : (v : Verdict Item) → header_at s p ≡ v
        → ((end : ℕ) → p < end → (r : ℕ) → read_boxes s f r end ≡ read_boxes s g r end)
        → and_then v (read_item s (read_boxes s f) more) ≡ and_then v (read_item s (read_boxes s g) more)
    go (accepted list_end) e i = refl
    go (accepted (box type (accepted x))) e i =
        let b = header_value s p type x.0 x.1 e in
        item_same s (read_boxes s f) (read_boxes s g) more type x.0 x.1
        (i x.1 (omega (arith, body_after s p, b.0.least, b.3)))
    go (accepted (box type (needs l))) e i = rw (needs_same s s (read_boxes s f) (read_boxes s g) more l)
    go (accepted (box type (declined j))) e i = rw (refused_same s s (read_boxes s f) (read_boxes s g) more j)
    go (needs l) e i = refl
    go (declined j) e i = refl

-- one law for each way, where so many more meshes may come
module _ (s : List ℕ) (more p : ℕ) where
  pub from_header : read_from s more p ≡ and_then (header_at s p) (read_item s (read_from s) more)
  unfolding read_from read_boxes
  from_header = same_turns s (length s) (suc (length s)) more p (omega arith) (omega arith)

  pub more_end : header_at s p ≡ accepted list_end → read_from s more p ≡ accepted []
  more_end e = from_header ∙ then_yes (header_at s p) (read_item s (read_from s) more) list_end e

  pub more_declined : (k : ℕ) → header_at s p ≡ declined k → read_from s more p ≡ declined k
  more_declined k e = from_header ∙ then_no (header_at s p) (read_item s (read_from s) more) k e

  module _ (type : ℕ) (extent : Verdict (ℕ × ℕ)) (e : header_at s p ≡ accepted (box type extent)) where
    at_box : read_from s more p ≡ read_item s (read_from s) more (box type extent)
    at_box = from_header ∙ then_yes (header_at s p) (read_item s (read_from s) more) (box type extent) e

    pub box_mesh : type ≡ mesh_type → read_from s more p ≡ read_mesh_box s (read_from s) more extent
    box_mesh y = at_box ∙ item_mesh s (read_from s) more type extent y

    pub box_other : (type ≡ mesh_type → ⊥) → read_from s more p ≡ and_then extent (λ e. read_from s more e.1)
    box_other n = at_box ∙ item_other s (read_from s) more type extent n

  module _ (type body end : ℕ) (e : header_at s p ≡ accepted (sized type body end)) where
    pub more_mesh : type ≡ mesh_type → read_from s more p ≡ read_mesh_box s (read_from s) more (accepted (body, end))
    more_mesh = box_mesh type (accepted (body, end)) e

    pub more_other : (type ≡ mesh_type → ⊥) → read_from s more p ≡ read_from s more end
    more_other = box_other type (accepted (body, end)) e

-- a box whose long size is refused: that refusal stands where it is no mesh, or a mesh may come; else there is another
module _ (s : List ℕ) (p type k : ℕ) (e : header_at s p ≡ accepted (box type (declined k))) where
  pub refused_more : (more : ℕ) → (type ≡ mesh_type → 0 < more) → read_from s more p ≡ declined k
  refused_more more h = pick (ℕ_discrete type mesh_type)
    where
      mesh : (more : ℕ) → 0 < more → read_mesh_box s (read_from s) more (declined k) ≡ declined k
      mesh zero l = absurd (omega arith)
      mesh (suc more) l = refl

      pick : Dec (type ≡ mesh_type) → read_from s more p ≡ declined k
      pick (yes y) = box_mesh s more p type (declined k) e y ∙ mesh more (h y)
      pick (no n) = box_other s more p type (declined k) e n

  pub refused_any : (more : ℕ) → (j : ℕ) × (read_from s more p ≡ declined j)
  refused_any zero = pick (ℕ_discrete type mesh_type)
    where
      pick : Dec (type ≡ mesh_type) → (j : ℕ) × (read_from s 0 p ≡ declined j)
      pick (yes y) = (18, box_mesh s 0 p type (declined k) e y)
      pick (no n) = (k, box_other s 0 p type (declined k) e n)
  refused_any (suc more) = (k, refused_more (suc more) (λ y. omega arith))

-- ---- however many

-- where a mesh may come at every 8 bytes, more of them read the same
same_more : (s : List ℕ) (turns r q p : ℕ) → length s < p + turns → length s < p + header_bytes + r
    → length s < p + header_bytes + q → read_from s r p ≡ read_from s q p
same_more s zero r q p h a b =
    let e = header_end s p (omega arith) in more_end s r p e ∙ sym (more_end s q p e)
same_more s (suc turns) r q p h a b =
    go (way s p) (λ w i k m n. same_more s turns i k (end_at s p) (omega (arith, body_after s p, w.least)) m n)
  where
    end_after : WholeBox s p → p + header_bytes ≤ end_at s p
    end_after w = omega (arith, body_after s p, w.least)

    go : Way s p
        → (WholeBox s p → (i k : ℕ) → length s < end_at s p + header_bytes + i → length s < end_at s p + header_bytes + k
        → read_from s i (end_at s p) ≡ read_from s k (end_at s p))
        → read_from s r p ≡ read_from s q p
    go (over o e) ih = more_end s r p e ∙ sym (more_end s q p e)
    go (broken e) ih = more_declined s r p 6 e ∙ sym (more_declined s q p 6 e)
    go (refused k i e) ih =
        refused_more s p (type_at s p) k e r (λ y. omega arith) ∙ sym (refused_more s p (type_at s p) k e q (λ y. omega arith))
    go (whole w e) ih = pick (ℕ_discrete (type_at s p) mesh_type)
      where
        meshes : (i k : ℕ) → length s < p + header_bytes + i → length s < p + header_bytes + k
            → read_mesh_box s (read_from s) i (accepted (body_at s p, end_at s p))
            ≡ read_mesh_box s (read_from s) k (accepted (body_at s p, end_at s p))
        meshes zero k m n = absurd (omega (arith, w.header))
        meshes (suc i) zero m n = absurd (omega (arith, w.header))
        meshes (suc i) (suc k) m n =
            ap (λ (v : Verdict (List Mesh)). and_then (read_mesh (part s (body_at s p) (end_at s p))) (mesh_then v))
            (ih w i k (omega (arith, end_after w)) (omega (arith, end_after w)))

        pick : Dec (type_at s p ≡ mesh_type) → read_from s r p ≡ read_from s q p
        pick (yes y) =
            more_mesh s r p (type_at s p) (body_at s p) (end_at s p) e y ∙ meshes r q a b
            ∙ sym (more_mesh s q p (type_at s p) (body_at s p) (end_at s p) e y)
        pick (no n) =
            more_other s r p (type_at s p) (body_at s p) (end_at s p) e n
            ∙ ih w r q (omega (arith, end_after w)) (omega (arith, end_after w))
            ∙ sym (more_other s q p (type_at s p) (body_at s p) (end_at s p) e n)

module _ (s : List ℕ) (p : ℕ) where
  pub at_end : header_at s p ≡ accepted list_end → any_from s p ≡ accepted []
  at_end e = more_end s (length s) p e

  pub at_declined : (k : ℕ) → header_at s p ≡ declined k → any_from s p ≡ declined k
  at_declined k e = more_declined s (length s) p k e

  pub at_refused : (type k : ℕ) → header_at s p ≡ accepted (box type (declined k)) → (j : ℕ) × (any_from s p ≡ declined j)
  at_refused type k e = refused_any s p type k e (length s)

  module _ (type body end : ℕ) (e : header_at s p ≡ accepted (sized type body end)) where
    pub at_mesh : type ≡ mesh_type → any_from s p ≡ and_then (read_mesh (part s body end)) (mesh_then (any_from s end))
    at_mesh y =
        let b = header_value s p type body end e in
        more_mesh s (length s) p type body end e y
        ∙ go (length s) refl (omega (arith, body_after s p, b.0.least, b.3)) (omega (arith, b.0.header))
      where
        go : (n : ℕ) → length s ≡ n → p + header_bytes ≤ end → header_bytes ≤ length s
            → read_mesh_box s (read_from s) n (accepted (body, end))
            ≡ and_then (read_mesh (part s body end)) (mesh_then (any_from s end))
        go zero z h k = absurd (omega arith)
        go (suc n) z h k =
            ap (λ (v : Verdict (List Mesh)). and_then (read_mesh (part s body end)) (mesh_then v))
            (same_more s (suc (length s)) n (length s) end (omega arith) (omega arith) (omega arith))

    pub at_other : (type ≡ mesh_type → ⊥) → any_from s p ≡ any_from s end
    at_other n = more_other s (length s) p type body end e n
