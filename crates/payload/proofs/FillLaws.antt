-- Laws of lists made piece by piece, of buffers filled with them, and of the lengths of two lists. Assumes nothing.
use Rattle.std.proofs.Common.{◌≡◌, ℕ, zero, suc, ◌+◌, ◌*◌, ◌<◌, ◌≤◌, ◌⊎◌, List, [], ◌∷◌, ◌++◌, map, length, get_or, take, drop, set, sym, refl, ap, ◌∙◌, ap₂, inl, inr, le_refl, add-zero, add-suc, suc-mul, suc-add, zero-mul, add-one, arith, take-suc, length-append, length-take-le, get_or-append-add}
use lib.ListN.{get_or-append}
use lib.Seq.{sets, sets-eq, length-sets}
use Rattle.bits.specs.Verdict.{Verdict, accepted, declined}
use Rattle.bits.proofs.VerdictLaws.{le-or-lt}
use Rattle.payload.specs.Fill.{each, both_lengths}

-- ---- pieces

pub each_more : {A : Type 0} (f : ℕ → List A) (n : ℕ) → each f (n + 1) ≡ each f n ++ f n
unfolding each
each_more f n = rw add-one

-- an element of a mapped list, whatever is said where there is none
pub get_d_mapped : {A B : Type 0} (f : A → B) (d : A) (e : B) (l : List A) (k : ℕ) → k < length l
    → get_or (map f l) k e ≡ f (get_or l k d)
get_d_mapped f d e [] k h = absurd (omega arith)
get_d_mapped f d e (x ∷ l) zero h = refl
get_d_mapped f d e (x ∷ l) (suc k) h = get_d_mapped f d e l k (omega arith)

pub each_same : (f g : ℕ → List ℕ) → ((j : ℕ) → f j ≡ g j) → (n : ℕ) → each f n ≡ each g n
unfolding each
each_same f g e zero = refl
each_same f g e (suc n) = ap₂ ◌++◌ (each_same f g e n) (e n)

-- there is room for piece j where there is room for n pieces
pub each-room : {A : Type 0} (f : ℕ → List A) (j n : ℕ) → j < n → length (each f j) + length (f j) ≤ length (each f n)
unfolding each
each-room f j zero h = absurd (omega arith)
each-room f j (suc n) h = go (each-room f j n) (le-or-lt n j)
  where
    go : (j < n → length (each f j) + length (f j) ≤ length (each f n)) → (n ≤ j) ⊎ (j < n) → length (each f j) + length (f j) ≤ length (each f n ++ f n)
    go r (inl l) = let e : j ≡ n = omega arith in rw (e, length-append) (le_refl _)
    go r (inr l) = omega (arith, r l, length-append (each f n) (f n))

-- pieces of one length
pub each-length : (f : ℕ → List ℕ) (k : ℕ) → ((j : ℕ) → length (f j) ≡ k) → (n : ℕ) → length (each f n) ≡ n * k
unfolding each
each-length f k e zero = sym (zero-mul k)
each-length f k e (suc n) = length-append (each f n) (f n) ∙ rw (each-length f k e n, e n, suc-mul)

-- ---- stores in a row

pub sets-append : {A : Type 0} (p q d : List A) (o : ℕ) → sets d o (p ++ q) ≡ sets (sets d o p) (o + length p) q
sets-append [] q d o = ap (λ (k : ℕ). sets d k q) (sym (add-zero o))
sets-append (x ∷ p) q d o = sets-append p q (set d o x) (suc o) ∙ ap (λ (k : ℕ). sets (sets (set d o x) (suc o) p) k q) (suc-add o (length p) ∙ sym (add-suc o (length p)))

-- one run after another
pub sets_then : (p q d l m : List ℕ) (o : ℕ) → l ≡ sets d o p → m ≡ sets l (o + length p) q → m ≡ sets d o (p ++ q)
sets_then p q d l m o e h = h ∙ ap (λ (x : List ℕ). sets x (o + length p) q) e ∙ sym (sets-append p q d o)

-- one piece more: l holds n pieces from o on, and w is the place after them
pub sets-each : {A : Type 0} (f : ℕ → List A) (n : ℕ) (d l : List A) (o w : ℕ) → l ≡ sets d o (each f n) → w ≡ o + length (each f n) → sets l w (f n) ≡ sets d o (each f (n + 1))
sets-each {A} f n d l o w e h =
    ap₂ (λ (x : List A) (k : ℕ). sets x k (f n)) e h
    ∙ sym (sets-append (each f n) (f n) d o)
    ∙ ap (λ (x : List A). sets d o x) (sym (each_more f n))

pub set-five : (d : List ℕ) (o x₁ x₂ x₃ x₄ x₅ : ℕ) → set (set (set (set (set d o x₁) (o + 1) x₂) (o + 2) x₃) (o + 3) x₄) (o + 4) x₅ ≡ sets d o (x₁ ∷ x₂ ∷ x₃ ∷ x₄ ∷ x₅ ∷ [])
set-five d o x₁ x₂ x₃ x₄ x₅ =
    let e₁ : o + 1 ≡ suc o = omega arith in
    let e₂ : o + 2 ≡ suc (suc o) = omega arith in
    let e₃ : o + 3 ≡ suc (suc (suc o)) = omega arith in
    let e₄ : o + 4 ≡ suc (suc (suc (suc o))) = omega arith in
    rw (e₁, e₂, e₃, e₄)

-- one item more of s
pub sets_next : {A : Type 0} (s d l : List A) (o i : ℕ) (x : A) → i < length s → x ≡ get_or s i x → l ≡ sets d o (take i s)
    → set l (o + i) x ≡ sets d o (take (i + 1) s)
sets_next s d l o i x h e k =
    let n : length (take i s) ≡ i = length-take-le i s (omega arith) in
    rw (add-one i, take-suc s i x h, sets-append (take i s) (get_or s i x ∷ []) d o, n, ← e, k)

-- two lists, where t is the place after the first
pub sets-after : (p q d : List ℕ) (o t : ℕ) → o + length p ≡ t → sets d o (p ++ q) ≡ sets (sets d o p) t q
sets-after p q d o t e = sets-append p q d o ∙ ap (λ (k : ℕ). sets (sets d o p) k q) e

-- what was stored is read back
pub get_d_sets : (d : List ℕ) (o : ℕ) (vs : List ℕ) (i : ℕ) → o + length vs ≤ length d → i < length vs → get_or (sets d o vs) (o + i) 0 ≡ get_or vs i 0
get_d_sets d o vs i h l =
    let e : length (take o d) ≡ o = length-take-le o d (omega arith) in
    let g : o + i < length (take o d ++ vs) = omega (arith, length-append (take o d) vs) in
    ap (λ (x : List ℕ). get_or x (o + i) 0) (sets-eq vs d o h)
    ∙ get_or-append (take o d ++ vs) (drop (o + length vs) d) 0 (o + i) g
    ∙ ap (λ (k : ℕ). get_or (take o d ++ vs) (k + i) 0) (sym e)
    ∙ get_or-append-add (take o d) vs i 0

-- ---- a buffer that a `for` fills piece by piece

-- d with f 0, f 1, .. f (j - 1) from place o on: l is the buffer, and w the place after them
pub record Placed {A : Type 0} (f : ℕ → List A) (d : List A) (o : ℕ) (l : List A) (w j : ℕ) : Type 0 where
  pub place : w ≡ o + length (each f j)
  pub items : l ≡ sets d o (each f j)

pub placed_none : {A : Type 0} {f : ℕ → List A} {d : List A} {o : ℕ} → Placed f d o d o 0
unfolding each
placed_none {A} {f} {d} {o} = record { place = sym (add-zero o); items = refl }

module _ {A : Type 0} {f : ℕ → List A} {d : List A} {o : ℕ} {l : List A} {w j : ℕ} (i : Placed f d o l w j) where
  pub placed_length : length l ≡ length d
  placed_length = ap length i.items ∙ length-sets d o (each f j)

  -- there is room for the next piece, p, where there is room for n
  pub placed_room : (n : ℕ) {p : List A} → p ≡ f j → j < n → o + length (each f n) ≤ length d → w + length p ≤ length l
  placed_room n e h r = omega (arith, i.place, placed_length, each-room f j n h, ap length e)

  -- p is put
  pub placed_more : {p r : List A} {v : ℕ} → p ≡ f j → v ≡ w + length p → r ≡ sets l w p → Placed f d o r v (j + 1)
  placed_more e h k = record {
    place = h ∙ rw (each_more, length-append) (omega (arith, i.place, ap length e));
    items = k ∙ ap (sets l w) e ∙ sets-each f j d l o w i.items i.place;
  }

  pub placed_all : (n : ℕ) → j ≡ n → Placed f d o l w n
  placed_all n e = rw e at i

-- ---- the same in a loop that counts its pieces by hand

-- d with the list p from place o on: l is the buffer, and w the place after p
abbrev pub Holds : List ℕ → ℕ → List ℕ → List ℕ → ℕ → Type 0
Holds d o p l w = (w ≡ o + length p) × (l ≡ sets d o p)

pub holds_none : (f : ℕ → List ℕ) (d : List ℕ) (o : ℕ) → Holds d o (each f 0) d o
unfolding each
holds_none f d o = (sym (add-zero o), refl)

module _ (d : List ℕ) (o : ℕ) (p l : List ℕ) (w : ℕ) (h : Holds d o p l w) where
  pub holds_length : length l ≡ length d
  holds_length = ap length h.1 ∙ length-sets d o p

module _ (f : ℕ → List ℕ) (n : ℕ) (d l : List ℕ) (o w : ℕ) (h : Holds d o (each f n) l w) where
  -- one piece more
  pub holds_next : (m : List ℕ) (r : ℕ) → Holds l w (f n) m r → Holds d o (each f (n + 1)) m r
  holds_next m r k = (k.0 ∙ rw (each_more, length-append) (omega (arith, h.0)), k.1 ∙ sets-each f n d l o w h.1 h.0)

  -- it has room where there is room for k pieces
  pub holds_room : (k : ℕ) → n < k → o + length (each f k) ≤ length d → (w + length (f n) ≤ length d) × (length l ≡ length d)
  holds_room k b r = (omega (arith, h.0, each-room f n k b), holds_length d o (each f n) l w h)

-- the invariant of a loop over n pieces, of which j are there
pub record Filling (f : ℕ → List ℕ) (n : ℕ) (d : List ℕ) (o : ℕ) (l : List ℕ) (w j : ℕ) : Type 0 where
  pub few : j ≤ n
  pub held : Holds d o (each f j) l w

pub filling_none : {f : ℕ → List ℕ} {n : ℕ} {d : List ℕ} {o : ℕ} → Filling f n d o d o 0
filling_none {f} {n} {d} {o} = record { few = omega arith; held = holds_none f d o }

module _ {f : ℕ → List ℕ} {n : ℕ} {d : List ℕ} {o : ℕ} {l : List ℕ} {w j : ℕ} (i : Filling f n d o l w j) where
  pub filling_length : length l ≡ length d
  filling_length = holds_length d o (each f j) l w i.held

  -- there is room for the next piece where there is room for all
  pub filling_room : j < n → o + length (each f n) ≤ length d → w + length (f j) ≤ length l
  filling_room h r = let k = holds_room f j d l o w i.held n h r in omega (arith, k.0, k.1)

  pub filling_more : (r : List ℕ) (v : ℕ) → j < n → v ≡ w + length (f j) → r ≡ sets l w (f j) → Filling f n d o r v (j + 1)
  filling_more r v h p q = record { few = omega arith; held = holds_next f j d l o w i.held r v (p, q) }

  pub filling_all : n ≤ j → Holds d o (each f n) l w
  filling_all h = let e : n ≡ j = omega arith in rw e i.held

-- ---- the lengths of two lists

module _ (v w : Verdict (List ℕ)) where
  pub both_first : (k : ℕ) → v ≡ declined k → declined k ≡ both_lengths v w
  both_first k e = sym (rw e)

  pub both_second : (l : List ℕ) (k : ℕ) → v ≡ accepted l → w ≡ declined k → declined k ≡ both_lengths v w
  both_second l k e f = sym (rw (e, f))

  pub both_yes : (l m : List ℕ) (n f : ℕ) → v ≡ accepted l → w ≡ accepted m → n ≡ length l → f ≡ length m → accepted (n, f) ≡ both_lengths v w
  both_yes l m n f e g h i = rw (e, g, h, i)
