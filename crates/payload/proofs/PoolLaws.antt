-- The words of a pool: each is read exactly where its bits are there and its f32 is finite, and so are all of them; the
-- first that is not decides. Assumes nothing.
use Rattle.std.proofs.Common.{◌≡◌, ℕ, zero, suc, ◌+◌, ◌-◌, ◌*◌, ◌/◌, ◌%◌, ◌^◌, ◌<◌, ◌≤◌, Bool, true, false, cond, not, eqb, List, [], ◌∷◌, length, sym, refl, ap, ◌∙◌, arith}
use mathlib.Core.List.Memᴰ
use lib.Ieee.{binary32, of_bits, of_fields, odd, inf, nan}
use lib.Ieee.Scale.{finite}
use Rattle.bits.specs.Verdict.{Verdict, accepted, needs, declined, and_then, mapped}
use Rattle.bits.specs.Field.{field}
use Rattle.bits.specs.Run.{Found}
use Rattle.bits.proofs.VerdictLaws.{clash, tested_value, then_no}
use Rattle.bits.proofs.RunLaws.{complete_yes, complete_no, complete_value}
use Rattle.payload.specs.Float.{finite_word, AllFinite}
use Rattle.payload.specs.MeshSpells.{EachSpells, sizes}
use Rattle.payload.specs.MeshRead.{if_finite, many, read_word}
use Rattle.payload.specs.Internal.{read_words, PoolThere, nothing}
use Rattle.payload.proofs.AllLaws.{nil_all, cons_all}
use Rattle.payload.proofs.RangeLaws.{found_same, many_none, many_on, many_declined, many_spells, spells_many}
use Rattle.payload.proofs.RangeLaws.{words-length}

-- ---- a word by its bits

odd_finite : (d : ℕ) (s : Bool) (q k l : ℕ) → finite (odd d s q k l) ≡ true
unfolding odd
odd_finite d s zero k l = refl
odd_finite d s (suc q) k l = refl

fields_finite : (s : Bool) (x t : ℕ) → finite (of_fields binary32 s x t) ≡ not (eqb x 255)
unfolding of_fields
fields_finite s zero t = odd_finite 24 s t 0 149
fields_finite s (suc x) t = go (eqb (suc x) 255) (eqb t 0)
  where
    go : (b c : Bool) → finite (cond b (cond c (inf s) nan) (odd 24 s (8388608 + t) x 149)) ≡ not b
    go true true = refl
    go true false = refl
    go false c = odd_finite 24 s (8388608 + t) x 149

exponent : (b : ℕ) → b % 2147483648 / 8388608 ≡ b / 8388608 % 256
exponent b = omega arith

pub finite_bits : (b : ℕ) → finite_word b ≡ not (eqb (b / 2 ^ 23 % 256) 255)
unfolding of_bits
finite_bits b = fields_finite _ (b % 2147483648 / 8388608) (b % 8388608) ∙ ap (λ (x : ℕ). not (eqb x 255)) (exponent b)

-- ---- one word

-- what `AllFinite` says of each word
abbrev pub IsFinite : ℕ → Type 0
IsFinite w = finite_word w ≡ true

finite_yes : {A : Type 0} (w : ℕ) (v : Verdict A) → finite_word w ≡ true → if_finite w v ≡ v
unfolding if_finite
finite_yes w v e = rw e

finite_no : {A : Type 0} (w : ℕ) (v : Verdict A) → finite_word w ≡ false → if_finite w v ≡ declined 17
unfolding if_finite
finite_no w v e = rw e

finite_value : {A : Type 0} (w : ℕ) (v : Verdict A) (a : A) → if_finite w v ≡ accepted a
    → (finite_word w ≡ true) × (v ≡ accepted a)
unfolding if_finite
finite_value w v a e = tested_value (finite_word w) v 17 a e

-- it stands at bit p, and is finite
pub record WordSpells (s : List ℕ) (p w : ℕ) : Type 0 where
  pub there : p + 32 ≤ 8 * length s
  pub is : field s p 32 ≡ w
  pub finite : finite_word w ≡ true

-- its bits
abbrev pub word_bits : ℕ → ℕ
word_bits w = 32

module _ (s : List ℕ) where
  word_spells : (p w q : ℕ) → read_word s p ≡ accepted (w, q) → WordSpells s p w × (q ≡ p + 32)
  word_spells p w q e =
      let c = complete_value s (p + 32) _ (w, q) e in
      let f = finite_value (field s p 32) _ (w, q) c.1 in
      let i : field s p 32 ≡ w = (found_same f.1).0 in
      (record { there = c.0; is = i; finite = rw (sym i) f.0 }, sym (found_same f.1).1)

  spells_word : (p w : ℕ) → WordSpells s p w → read_word s p ≡ accepted (w, p + 32)
  spells_word p w e =
      complete_yes s (p + 32) _ e.there ∙ rw e.is (finite_yes w _ e.finite)

  -- one that is cut off, one that is not finite, and a good one
  pub word_cut : (p : ℕ) → 8 * length s < p + 32 → read_word s p ≡ declined 3
  word_cut p h = complete_no s (p + 32) _ h

  pub word_other : (p : ℕ) → p + 32 ≤ 8 * length s → finite_word (field s p 32) ≡ false → read_word s p ≡ declined 17
  word_other p h f = complete_yes s (p + 32) _ h ∙ finite_no (field s p 32) _ f

  pub word_good : (p : ℕ) → p + 32 ≤ 8 * length s → finite_word (field s p 32) ≡ true
      → read_word s p ≡ accepted (field s p 32, p + 32)
  word_good p h f = spells_word p (field s p 32) (record { there = h; is = refl; finite = f })

  -- ---- all words

  abbrev PoolSpells : ℕ → List ℕ → Type 0
  PoolSpells p l = EachSpells word_bits (WordSpells s) p l

  words_size : (l : List ℕ) → sizes word_bits l ≡ 32 * length l
  words_size [] = refl
  words_size (w ∷ l) = omega (arith, words_size l)

  words_are : (p : ℕ) (l : List ℕ) → PoolSpells p l → read_words s p (length l) ≡ l
  unfolding read_words
  words_are p [] e = refl
  words_are p (w ∷ l) e = rw (e.0.is, words_are (p + 32) l e.1)

  words_there : (p : ℕ) (l : List ℕ) → p ≤ 8 * length s → PoolSpells p l → p + 32 * length l ≤ 8 * length s
  words_there p [] h e = omega arith
  words_there p (w ∷ l) h e = omega (arith, words_there (p + 32) l e.0.there e.1)

  words_finite : (p : ℕ) (l : List ℕ) → PoolSpells p l → AllFinite l
  words_finite p [] e = nil_all IsFinite
  words_finite p (w ∷ l) e = cons_all IsFinite e.0.finite (words_finite (p + 32) l e.1)

  words_spelled : (p n : ℕ) → p + 32 * n ≤ 8 * length s → AllFinite (read_words s p n) → PoolSpells p (read_words s p n)
  unfolding read_words
  words_spelled p zero h f = tt
  words_spelled p (suc n) h f = (
    record { there = omega arith; is = refl; finite = f (field s p 32) (Memᴰ.head refl) },
    words_spelled (p + 32) n (omega arith) (λ w k. f w (Memᴰ.tail k)),
  )

  -- ---- the pool

  pub pool_yes : (n : ℕ) → PoolThere s n → many (read_word s) n 32 ≡ accepted (read_words s 32 n, 32 + 32 * n)
  pool_yes n P =
      let l = read_words s 32 n in
      let k : length l ≡ n = words-length s 32 n in
      let e = spells_many (read_word s) word_bits (WordSpells s) word_spells spells_word 32 l
      (words_spelled 32 n (omega (arith, P.there)) P.finite) in
      let z : 32 + sizes word_bits l ≡ 32 + 32 * n = omega (arith, words_size l, k) in
      ap (λ (i : ℕ). many (read_word s) i 32) (sym k) ∙ e ∙ ap (λ (q : ℕ). accepted (l, q)) z

  pub pool_value : (n : ℕ) (l : List ℕ) (q : ℕ) → 32 ≤ 8 * length s → many (read_word s) n 32 ≡ accepted (l, q)
      → PoolThere s n
  pool_value n l q h e =
      let m = many_spells (read_word s) word_bits (WordSpells s) word_spells spells_word n 32 l q e in
      let i : read_words s 32 n ≡ l = ap (read_words s 32) (sym m.1) ∙ words_are 32 l m.0 in
      record {
        there = omega (arith, words_there 32 l h m.0, m.1);
        finite = rw i (words_finite 32 l m.0);
      }

  -- ---- one after the other, as `check_pool` goes

  -- what it says of the n words from bit p on
  abbrev pub pool_from : ℕ → ℕ → Verdict (Unit {0})
  pool_from n p = mapped nothing (many (read_word s) n p)

  pub pool_none : (n p : ℕ) → n ≤ 0 → accepted tt ≡ pool_from n p
  pool_none zero p z = ap (mapped nothing) (sym (many_none (read_word s) p))
  pool_none (suc n) p z = absurd (omega arith)

  pub pool_stop : (n p k : ℕ) → 0 < n → read_word s p ≡ declined k → declined k ≡ pool_from n p
  pool_stop zero p k z e = absurd (omega arith)
  pool_stop (suc n) p k z e = ap (mapped nothing) (sym (many_declined (read_word s) n p k e))

  pub pool_next : (n p w q : ℕ) → 0 < n → read_word s p ≡ accepted (w, q) → pool_from n p ≡ pool_from (n - 1) q
  pool_next zero p w q z e = absurd (omega arith)
  pool_next (suc n) p w q z e =
      ap (mapped nothing) (many_on (read_word s) n p w q e)
      ∙ go (many (read_word s) n q)
      ∙ ap (λ (k : ℕ). pool_from k q) (omega arith)
    where
      go : (v : Found (List ℕ))
          → mapped {A = List ℕ × ℕ} nothing (and_then v (λ l. accepted (w ∷ l.0, l.1))) ≡ mapped nothing v
      go (accepted l) = refl
      go (needs l) = refl
      go (declined k) = refl

  -- ---- the first that is not good decides

  pub pool_at : (i n p k : ℕ) → i < n
      → ((j : ℕ) → j < i → read_word s (p + 32 * j) ≡ accepted (field s (p + 32 * j) 32, p + 32 * j + 32))
      → read_word s (p + 32 * i) ≡ declined k → many (read_word s) n p ≡ declined k
  pool_at i zero p k h good e = absurd (omega arith)
  pool_at zero (suc n) p k h good e =
      let z : p + 32 * 0 ≡ p = omega arith in
      many_declined (read_word s) n p k (rw z at e)
  pool_at (suc i) (suc n) p k h good e =
      let z : p + 32 * 0 ≡ p = omega arith in
      let y : p + 32 * suc i ≡ p + 32 + 32 * i = omega arith in
      many_on (read_word s) n p (field s p 32) (p + 32) (rw z at (good 0 (omega arith)))
      ∙ then_no (many (read_word s) n (p + 32)) (λ l. accepted (field s p 32 ∷ l.0, l.1)) k
      (pool_at i n (p + 32) k (omega arith) (λ j l. moved j (good (suc j) (omega arith))) (rw y at e))
    where
      moved : (j : ℕ)
          → read_word s (p + 32 * suc j) ≡ accepted (field s (p + 32 * suc j) 32, p + 32 * suc j + 32)
          → read_word s (p + 32 + 32 * j) ≡ accepted (field s (p + 32 + 32 * j) 32, p + 32 + 32 * j + 32)
      moved j g = let z : p + 32 * suc j ≡ p + 32 + 32 * j = omega arith in rw z at g

-- what `check_pool` told
pub pool_good : (s : List ℕ) (n : ℕ) → 32 ≤ 8 * length s → accepted tt ≡ mapped nothing (many (read_word s) n 32) → PoolThere s n
pool_good s n h e = go (many (read_word s) n 32) refl e
  where
    go : (v : Found (List ℕ)) → many (read_word s) n 32 ≡ v → accepted tt ≡ mapped nothing v → PoolThere s n
    go (accepted l) i j = pool_value s n l.0 l.1 h i
    go (needs l) i j = clash (cc)
    go (declined k) i j = clash (cc)
