-- Counts and completeness in kind 2: the widths that counts give, a count in its range, fields that are complete, n
-- things one after the other, and the words of a pool. Assumes nothing.
use Rattle.std.proofs.Common.{◌≡◌, ℕ, zero, suc, ◌+◌, ◌*◌, ◌^◌, ◌<◌, ◌≤◌, Bool, true, false, cond, leb, ◌⊎◌, List, [], ◌∷◌, length, get_or, sym, refl, ap, ◌∙◌, inl, inr, le_of_suc-le-suc, arith, eq-eqb, ne_eqb, le-leb, leb-true}
use borrow.Author.Tests.{lt-leb}
use Rattle.bits.specs.Verdict.{Verdict, accepted, declined, and_then}
use Rattle.bits.specs.Field.{field}
use Rattle.bits.specs.Number.{width_of}
use Rattle.bits.proofs.VerdictLaws.{le-or-lt, clash, tested_value, then_yes, then_no, then_value}
use Rattle.bits.proofs.NumberLaws.{width_enough, width_least}
use Rattle.bits.specs.Run.{Found, complete}
use Rattle.payload.specs.MeshSpells.{EachSpells, sizes}
use Rattle.payload.specs.MeshRead.{in_range, not_zero, many}
use Rattle.payload.specs.Internal.{read_words}
use Rattle.bits.proofs.RunLaws.{complete_yes, complete_no}

-- ---- widths

-- of a count of coordinates or of vertices
pub width_small : (c : ℕ) → c ≤ 32000 → width_of c ≤ 16
width_small c h = width_least c 16 (omega arith)

pub width_some : (c : ℕ) → 1 ≤ c → 1 ≤ width_of c
width_some c h = go (width_of c) (width_enough c)
  where
    go : (w : ℕ) → 2 * c ≤ 2 ^ w → 1 ≤ w
    go zero e = absurd (omega arith)
    go (suc w) e = omega arith

-- ---- a count

module _ {A : Type 0} (low high n : ℕ) (v : Verdict A) where
  pub inrange_low : n < low → in_range low high n v ≡ declined 7
  unfolding in_range
  inrange_low h = simp (lt-leb low n h)

  pub inrange_high : high < n → in_range low high n v ≡ declined 7
  unfolding in_range
  inrange_high h = go (le-or-lt low n)
    where
      go : (low ≤ n) ⊎ (n < low) → cond (leb low n) (cond (leb n high) v (declined 7)) (declined 7) ≡ declined 7
      go (inl l) = simp (le-leb low n l, lt-leb n high h)
      go (inr l) = inrange_low l

  pub inrange_yes : low ≤ n → n ≤ high → in_range low high n v ≡ v
  unfolding in_range
  inrange_yes l h = simp (le-leb low n l, le-leb n high h)

  pub inrange_value : (a : A) → in_range low high n v ≡ accepted a → (low ≤ n) × (n ≤ high) × (v ≡ accepted a)
  unfolding in_range
  inrange_value a e =
      let t = tested_value (leb low n) (cond (leb n high) v (declined 7)) 7 a e in
      let u = tested_value (leb n high) v 7 a t.1 in
      (leb-true low n t.0, leb-true n high u.0, u.1)

module _ {A : Type 0} (n : ℕ) (v : Verdict A) where
  pub notzero_no : n < 1 → not_zero n v ≡ declined 7
  notzero_no h = let z : n ≡ 0 = omega arith in simp (eq-eqb n 0 z)

  pub notzero_yes : 1 ≤ n → not_zero n v ≡ v
  notzero_yes h = let z : n ≡ 0 → ⊥ = λ e. omega arith in simp (ne_eqb n 0 z)

  pub notzero_value : (a : A) → not_zero n v ≡ accepted a → (1 ≤ n) × (v ≡ accepted a)
  notzero_value a e = go (le-or-lt 1 n)
    where
      go : (1 ≤ n) ⊎ (n < 1) → (1 ≤ n) × (v ≡ accepted a)
      go (inl h) = (h, sym (notzero_yes h) ∙ e)
      go (inr h) = let f = notzero_no h in clash (cc)

-- ---- fields that are complete

-- what follows them
pub complete_then : {A B : Type 0} (s : List ℕ) (e : ℕ) (v : Verdict A) (f : A → Verdict B)
    → and_then (complete s e v) f ≡ complete s e (and_then v f)
unfolding complete
complete_then s e v f = go (leb e (8 * length s))
  where
    go : (b : Bool) → and_then (cond b v (declined 3)) f ≡ cond b (and_then v f) (declined 3)
    go true = refl
    go false = refl

-- those that end sooner need no test of their own
pub complete_sooner : {A : Type 0} (s : List ℕ) (d e : ℕ) (v : Verdict A) → d ≤ e
    → complete s d (complete s e v) ≡ complete s e v
complete_sooner s d e v h = go (le-or-lt d (8 * length s))
  where
    go : (d ≤ 8 * length s) ⊎ (8 * length s < d) → complete s d (complete s e v) ≡ complete s e v
    go (inl l) = complete_yes s d (complete s e v) l
    go (inr l) = complete_no s d (complete s e v) l ∙ sym (complete_no s e v (omega arith))

-- ---- n things, one after the other

-- a thing that was found, and the place after it
pub found_same : {A : Type 0} {a b : A} {p q : ℕ} → ◌≡◌ {A = Found A} (accepted (a, p)) (accepted (b, q))
    → (a ≡ b) × (p ≡ q)
found_same {A} {a} {b} {p} {q} e =
    let z : ◌≡◌ {A = A × ℕ} (a, p) (b, q) = cc in
    (ap (λ (y : A × ℕ). y.0) z, ap (λ (y : A × ℕ). y.1) z)

module _ {A : Type 0} (read : ℕ → Found A) where
  pub many_none : (p : ℕ) → many read 0 p ≡ accepted ([], p)
  unfolding many
  many_none p = refl

  pub many_declined : (n p k : ℕ) → read p ≡ declined k → many read (suc n) p ≡ declined k
  unfolding many
  many_declined n p k e = then_no (read p) _ k e

  pub many_on : (n p : ℕ) (a : A) (q : ℕ) → read p ≡ accepted (a, q)
      → many read (suc n) p ≡ and_then (many read n q) (λ l. accepted (a ∷ l.0, l.1))
  unfolding many
  many_on n p a q e = then_yes (read p) _ (a, q) e

-- where each thing's end is told by the thing, a list of them is read where each is spelled, from where the one before
-- ends
module _ {A : Type 0} (read : ℕ → Found A) (size : A → ℕ) (Spells : ℕ → A → Type 0)
    (reads : (p : ℕ) (a : A) (q : ℕ) → read p ≡ accepted (a, q) → Spells p a × (q ≡ p + size a))
    (spells : (p : ℕ) (a : A) → Spells p a → read p ≡ accepted (a, p + size a)) where
  pub many_spells : (n p : ℕ) (l : List A) (q : ℕ) → many read n p ≡ accepted (l, q)
      → EachSpells size Spells p l × (length l ≡ n) × (q ≡ p + sizes size l)
  unfolding many
  many_spells zero p l q e =
      let z : l ≡ [] = sym (found_same e).0 in
      let y : p ≡ q = (found_same e).1 in
      rw z (tt, refl, omega arith)
  many_spells (suc n) p l q e =
      let b = then_value (read p) (λ x. and_then (many read n x.1) (λ l. accepted (x.0 ∷ l.0, l.1))) (l, q) e in
      let d = then_value (many read n b.0.1) (λ l. accepted (b.0.0 ∷ l.0, l.1)) (l, q) b.2 in
      let f = reads p b.0.0 b.0.1 b.1 in
      let ih = many_spells n b.0.1 d.0.0 d.0.1 d.1 in
      from b.0.0 b.0.1 d.0.0 d.0.1 d.2 f.0 f.1 ih.0 ih.1 ih.2
    where
      from : (a : A) (t : ℕ) (l' : List A) (u : ℕ) → ◌≡◌ {A = Found (List A)} (accepted (a ∷ l', u)) (accepted (l, q))
          → Spells p a → t ≡ p + size a → EachSpells size Spells t l' → length l' ≡ n → u ≡ t + sizes size l'
          → EachSpells size Spells p l × (length l ≡ suc n) × (q ≡ p + sizes size l)
      from a t l' u d f g h i j =
          let x : a ∷ l' ≡ l = (found_same d).0 in
          let y : u ≡ q = (found_same d).1 in
          rw (← x, ← y) ((f, rw g at h), ap suc i, omega arith)

  pub spells_many : (p : ℕ) (l : List A) → EachSpells size Spells p l
      → many read (length l) p ≡ accepted (l, p + sizes size l)
  unfolding many
  spells_many p [] e = ap (λ (k : ℕ). accepted ([], k)) (omega arith)
  spells_many p (a ∷ l) e =
      let g : p + size a + sizes size l ≡ p + (size a + sizes size l) = omega arith in
      many_on read (length l) p a (p + size a) (spells p a e.0)
      ∙ then_yes (many read (length l) (p + size a)) (λ l. accepted (a ∷ l.0, l.1)) (l, p + size a + sizes size l)
      (spells_many (p + size a) l e.1)
      ∙ rw g

-- ---- words

pub words-length : (s : List ℕ) (p n : ℕ) → length (read_words s p n) ≡ n
unfolding read_words
words-length s p zero = refl
words-length s p (suc n) = ap suc (words-length s (p + 32) n)

pub words_at : (s : List ℕ) (p n i : ℕ) → i < n → get_or (read_words s p n) i 0 ≡ field s (p + i * 32) 32
unfolding read_words
words_at s p zero i h = absurd (omega arith)
words_at s p (suc n) zero h = ap (λ (k : ℕ). field s k 32) (omega arith)
words_at s p (suc n) (suc i) h =
    words_at s (p + 32) n i (le_of_suc-le-suc h) ∙ ap (λ (k : ℕ). field s k 32) (omega arith)
