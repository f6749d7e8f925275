-- Expanded vertices, whose words a buffer holds from a place on: how they are made, that stores before them leave them, and that what is stored over them at last hides them. Assumes nothing.
use Rattle.std.proofs.Common.{◌≡◌, ℕ, zero, suc, ◌+◌, ◌-◌, ◌*◌, ◌<◌, ◌≤◌, List, [], ◌∷◌, ◌++◌, length, get_or, take, drop, set, sym, refl, ap, ◌∙◌, ap₂, arith, get_or-set_other, drop-set-lt}
use lib.Seq.{sets, sets-eq, length-sets, take-set-le}
use Rattle.payload.specs.MeshDrawing.{point_words, run_words}
use Rattle.payload.specs.Internal.{word_at, word_in, words_from, Expanded, ExpandedFrom, PointsBelow}
use Rattle.payload.proofs.FillLaws.{get_d_sets}
use Rattle.payload.proofs.MeasureLaws.{run_floats}
use Rattle.payload.proofs.PointLaws.{points_first, point_agrees, run_agrees}

-- ---- stores leave what lies before and after them

take-sets : (vs d : List ℕ) (o n : ℕ) → n ≤ o → take n (sets d o vs) ≡ take n d
take-sets [] d o n h = refl
take-sets (v ∷ vs) d o n h = take-sets vs (set d o v) (suc o) n (omega arith) ∙ take-set-le n d o v h

drop-sets : (vs d : List ℕ) (o n : ℕ) → o + length vs ≤ n → drop n (sets d o vs) ≡ drop n d
drop-sets [] d o n h = refl
drop-sets (v ∷ vs) d o n h = drop-sets vs (set d o v) (suc o) n (omega arith) ∙ drop-set-lt n d o v (omega arith)

pub get_d_sets_after : (vs d : List ℕ) (o i : ℕ) → o + length vs ≤ i → get_or (sets d o vs) i 0 ≡ get_or d i 0
get_d_sets_after [] d o i h = refl
get_d_sets_after (v ∷ vs) d o i h = get_d_sets_after vs (set d o v) (suc o) i (omega arith) ∙ get_or-set_other d o i v 0 (λ e. omega (arith, e))

-- stores that cover earlier ones hide them
pub sets_over : (d xs vs : List ℕ) (t o : ℕ) → o ≤ t → t + length xs ≤ o + length vs → o + length vs ≤ length d → sets (sets d t xs) o vs ≡ sets d o vs
sets_over d xs vs t o h k l =
    let e : length (sets d t xs) ≡ length d = length-sets d t xs in
    sets-eq vs (sets d t xs) o (omega arith)
    ∙ ap₂ (λ (x y : List ℕ). x ++ vs ++ y) (take-sets xs d t o h) (drop-sets xs d t (o + length vs) k)
    ∙ sym (sets-eq vs d o l)

-- ---- expanded vertices

module _ (f : ℕ → ℕ) where
  pub words_long : (k n : ℕ) → length (words_from f k n) ≡ n
  unfolding words_from
  words_long k zero = refl
  words_long k (suc n) = ap suc (words_long (k + 1) n)

  words_get : (k n i : ℕ) → i < n → get_or (words_from f k n) i 0 ≡ f (k + i)
  unfolding words_from
  words_get k zero i h = absurd (omega arith)
  words_get k (suc n) zero h = ap f (omega arith)
  words_get k (suc n) (suc i) h = words_get (k + 1) n i (omega arith) ∙ ap f (omega arith)

  pub words_none : (k n : ℕ) → n ≤ 0 → words_from f k n ≡ []
  unfolding words_from
  words_none k zero h = refl
  words_none k (suc n) h = absurd (omega arith)

  -- word i of n is stored, and the others are left
  pub words_next : (d : List ℕ) (k n o i : ℕ) {x : ℕ} → i < n → x ≡ f (k + i)
      → sets d (o + i) (words_from f (k + i) (n - i)) ≡ sets (set d (o + i) x) (o + (i + 1)) (words_from f (k + (i + 1)) (n - (i + 1)))
  unfolding words_from
  words_next d k n o i h e =
      let a : k + (i + 1) ≡ k + i + 1 = omega arith in
      let b : o + (i + 1) ≡ suc (o + i) = omega arith in
      let c : n - i ≡ suc (n - (i + 1)) = omega arith in
      rw (e, a, b, c) refl

pub expanded_made : (s numbers d e : List ℕ) (base n expanded : ℕ) → expanded + n ≤ length d → e ≡ sets d expanded (words_from (word_at s numbers) base n) → Expanded s numbers base n e expanded
expanded_made s numbers d e base n expanded h k =
    let f = word_at s numbers in
    let w = words_long f base n in
    rw k
    (record {
      there = omega (arith, length-sets d expanded (words_from f base n));
      same = λ i l. get_d_sets d expanded (words_from f base n) i (omega arith) (omega arith) ∙ words_get f base n i l;
    })

-- what is stored over all of it hides it
pub expanded_hidden : (f : ℕ → ℕ) (base n : ℕ) (d e r vs : List ℕ) (expanded o : ℕ) → o ≤ expanded → expanded + n ≤ o + length vs → o + length vs ≤ length d
    → e ≡ sets d expanded (words_from f base n) → r ≡ sets e o vs → r ≡ sets d o vs
expanded_hidden f base n d e r vs expanded o h k l ee er =
    let w = words_long f base n in
    er ∙ ap (λ (x : List ℕ). sets x o vs) ee ∙ sets_over d (words_from f base n) vs expanded o h (omega arith) l

-- stores before it leave it
pub expanded_kept : {s numbers : List ℕ} {base n expanded : ℕ} {d : List ℕ} (vs e : List ℕ) (o : ℕ) → e ≡ sets d o vs → o + length vs ≤ expanded → Expanded s numbers base n d expanded → Expanded s numbers base n e expanded
expanded_kept {expanded = expanded} {d = d} vs e o k h S =
    rw k
    (record {
      there = omega (arith, length-sets d o vs, S.there);
      same = λ i l. get_d_sets_after vs d o (expanded + i) (omega arith) ∙ S.same i l;
    })

-- the words of a run of c points were stored, up to place o'
pub expanded_after_run : {s numbers : List ℕ} {b n expanded : ℕ} (f : ℕ → ℕ) (base : ℕ) (d e : List ℕ) (o c : ℕ) (l : List ℕ) → e ≡ sets d o (run_words f base l) → length l ≡ c
    → ExpandedFrom o s numbers b n d expanded → ExpandedFrom (o + 5 * c) s numbers b n e expanded
expanded_after_run f base d e o c l k g S h =
    let r = run_floats f base l in
    expanded_kept (run_words f base l) e o k (omega arith) (S (omega arith))

-- the words of some vertices that were copied from it
pub points_expanded : {s numbers : List ℕ} {base m expanded : ℕ} {d : List ℕ} → Expanded s numbers base (5 * m) d expanded → (points : List ℕ) (o : ℕ) (e : List ℕ) → PointsBelow m points
    → e ≡ sets d o (run_words (word_in d) expanded points) → e ≡ sets d o (run_words (word_at s numbers) base points)
points_expanded {s} {numbers} {base} {m} {expanded} {d} S points o e u k =
    k ∙ ap (λ (l : List ℕ). sets d o l) (run_agrees (word_in d) (word_at s numbers) expanded base m S.same points u)

-- what a loop that copies points keeps: storing those that are left gives `all`, and what stands from `expanded` on is as it was
pub record Copying (words₀ all words points : List ℕ) (expanded i to : ℕ) : Type 0 where
  pub same : all ≡ sets words to (run_words (word_in words₀) expanded (drop i points))
  pub kept : (k : ℕ) → expanded ≤ k → word_in words k ≡ word_in words₀ k

pub copying_on : {words₀ all words points : List ℕ} {expanded i to : ℕ} → Copying words₀ all words points expanded i to
    → (words' : List ℕ) (to' : ℕ) → i < length points → to' ≡ to + 5 → to' ≤ expanded
    → words' ≡ sets words to (point_words (word_in words) (expanded + 5 * get_or points i 0))
    → Copying words₀ all words' points expanded (i + 1) to'
copying_on {words₀} {all} {words} {points} {expanded} {i} {to} C words' to' l t h e =
    let v = get_or points i 0 in
    let f = word_in words₀ in
    let a : point_words (word_in words) (expanded + 5 * v) ≡ point_words f (expanded + 5 * v) =
    point_agrees (word_in words) f (expanded + 5 * v) (expanded + 5 * v) (λ k u. C.kept (expanded + 5 * v + k) (omega arith)) in
    record {
      same = C.same ∙ points_first f expanded points i words words' to to' l t (e ∙ ap (sets words to) a);
      kept = λ k u. ap (λ (t : List ℕ). get_or t k 0) e ∙ get_d_sets_after (point_words (word_in words) (expanded + 5 * v)) words to k (omega arith) ∙ C.kept k u;
    }
