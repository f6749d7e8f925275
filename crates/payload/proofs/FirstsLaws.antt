-- Numbers noted in order of first appearance: which they are, that none stands twice, and their order. Assumes nothing.
use Rattle.std.proofs.Common.{◌≡◌, ℕ, zero, suc, ◌+◌, ◌<◌, ◌≤◌, Bool, true, false, cond, ◌||◌, eqb, List, [], ◌∷◌, ◌++◌, length, get_or, sym, refl, ap, ◌∙◌, append_assoc, append-nil, le_of_suc-le-suc, arith, ne_eqb, eqb-true}
use mathlib.Core.Bool.{or_assoc, or-false}
use borrow.Author.Tests.{eqb-false}
use Rattle.bits.specs.Refusals.{among}
use Rattle.bits.proofs.VerdictLaws.{clash}
use Rattle.payload.specs.Firsts.{note, noted, firsts, Distinct, Below, place_of}

-- ---- whether a number stands in a list

pub or_no : (a b : Bool) → (a || b) ≡ false → (a ≡ false) × (b ≡ false)
or_no true b e = clash (cc)
or_no false b e = (refl, e)

pub or_yes : (a b : Bool) → b ≡ true → (a || b) ≡ true
or_yes true b e = refl
or_yes false b e = e

among-append : (t : ℕ) (a b : List ℕ) → among t (a ++ b) ≡ (among t a || among t b)
among-append t [] b = refl
among-append t (u ∷ a) b =
    ap (λ (x : Bool). eqb t u || x) (among-append t a b) ∙ sym (or_assoc (eqb t u) (among t a) (among t b))

-- ---- what is noted

pub noted-append : (seen a b : List ℕ) → noted seen (a ++ b) ≡ noted (noted seen a) b
unfolding noted
noted-append seen [] b = refl
noted-append seen (t ∷ a) b = noted-append (note seen t) a b

pub note_old : (seen : List ℕ) (t : ℕ) → among t seen ≡ true → note seen t ≡ seen
unfolding note
note_old seen t e = rw e

pub note-new : (seen : List ℕ) (t : ℕ) → among t seen ≡ false → note seen t ≡ seen ++ (t ∷ [])
unfolding note
note-new seen t e = rw e

pub among-note : (t u : ℕ) (seen : List ℕ) → among t (note seen u) ≡ (among t seen || eqb t u)
unfolding note
among-note t u seen = go (among u seen) refl (eqb t u) refl
  where
    go : (b : Bool) → among u seen ≡ b → (d : Bool) → eqb t u ≡ d
        → among t (cond b seen (seen ++ (u ∷ []))) ≡ (among t seen || d)
    go true e true d = let i = eqb-true t u d in rw (i, e) refl
    go true e false d = sym (or-false (among t seen))
    go false e v d = among-append t seen (u ∷ []) ∙ ap (λ (x : Bool). among t seen || x) (or-false (eqb t u) ∙ d)

among-noted : (t : ℕ) (seen l : List ℕ) → among t (noted seen l) ≡ (among t seen || among t l)
unfolding noted
among-noted t seen [] = sym (or-false (among t seen))
among-noted t seen (u ∷ l) =
    among-noted t (note seen u) l ∙ ap (λ (x : Bool). x || among t l) (among-note t u seen)
    ∙ or_assoc (among t seen) (eqb t u) (among t l)

pub among-firsts : (t : ℕ) (l : List ℕ) → among t (firsts l) ≡ among t l
among-firsts t l = among-noted t [] l

-- ---- none twice, and all of them below n: so at most n

distinct_snoc : (l : List ℕ) (t : ℕ) → Distinct l → among t l ≡ false → Distinct (l ++ (t ∷ []))
distinct_snoc [] t d h = (refl, tt)
distinct_snoc (u ∷ l) t d h =
    let o = or_no (eqb t u) (among t l) h in
    let n : eqb u t ≡ false = ne_eqb u t (λ e. eqb-false t u o.0 (sym e)) in
    (among-append u l (t ∷ []) ∙ rw (d.0, n) refl, distinct_snoc l t d.1 o.1)

distinct-noted : (seen l : List ℕ) → Distinct seen → Distinct (noted seen l)
unfolding noted note
distinct-noted seen [] d = d
distinct-noted seen (t ∷ l) d = distinct-noted (note seen t) l (go (among t seen) refl)
  where
    go : (b : Bool) → among t seen ≡ b → Distinct (note seen t)
    go true e = rw e d
    go false e = rw e (distinct_snoc seen t d e)

pub distinct-firsts : (l : List ℕ) → Distinct (firsts l)
distinct-firsts l = distinct-noted [] l tt

below_snoc : (n : ℕ) (l : List ℕ) (t : ℕ) → Below n l → t < n → Below n (l ++ (t ∷ []))
below_snoc n [] t d h = (h, tt)
below_snoc n (u ∷ l) t d h = (d.0, below_snoc n l t d.1 h)

pub below-noted : (n : ℕ) (seen l : List ℕ) → Below n seen → Below n l → Below n (noted seen l)
unfolding noted note
below-noted n seen [] d b = d
below-noted n seen (t ∷ l) d b = below-noted n (note seen t) l (go (among t seen) refl) b.1
  where
    go : (v : Bool) → among t seen ≡ v → Below n (note seen t)
    go true e = rw e d
    go false e = rw e (below_snoc n seen t d b.0)

-- a list without a number
abbrev without : ℕ → List ℕ → List ℕ
without n [] = []
without n (t ∷ l) = cond (eqb n t) (without n l) (t ∷ without n l)

among-without : (n t : ℕ) (l : List ℕ) → among t l ≡ false → among t (without n l) ≡ false
among-without n t [] h = refl
among-without n t (u ∷ l) h =
    let o = or_no (eqb t u) (among t l) h in go (eqb n u) (among-without n t l o.1) o.0
  where
    go : (b : Bool) → among t (without n l) ≡ false → eqb t u ≡ false
        → among t (cond b (without n l) (u ∷ without n l)) ≡ false
    go true r e = r
    go false r e = rw (e, r) refl

distinct_without : (n : ℕ) (l : List ℕ) → Distinct l → Distinct (without n l)
distinct_without n [] d = tt
distinct_without n (t ∷ l) d = go (eqb n t) (distinct_without n l d.1)
  where
    go : (b : Bool) → Distinct (without n l) → Distinct (cond b (without n l) (t ∷ without n l))
    go true r = r
    go false r = (among-without n t l d.0, r)

below_without : (n : ℕ) (l : List ℕ) → Below (suc n) l → Below n (without n l)
below_without n [] b = tt
below_without n (t ∷ l) b = go (eqb n t) refl (below_without n l b.1)
  where
    go : (v : Bool) → eqb n t ≡ v → Below n (without n l) → Below n (cond v (without n l) (t ∷ without n l))
    go true e r = r
    go false e r = (below (eqb-false n t e) b.0, r)
      where
        below : (n ≡ t → ⊥) → t < suc n → t < n
        below f h = omega arith

without-none : (n : ℕ) (l : List ℕ) → among n l ≡ false → length (without n l) ≡ length l
without-none n [] h = refl
without-none n (t ∷ l) h =
    let o = or_no (eqb n t) (among n l) h in rw o.0 (ap suc (without-none n l o.1))

without-one : (n : ℕ) (l : List ℕ) → Distinct l → length l ≤ suc (length (without n l))
without-one n [] d = omega arith
without-one n (t ∷ l) d = go (eqb n t) refl (without-one n l d.1)
  where
    go : (b : Bool) → eqb n t ≡ b → length l ≤ suc (length (without n l))
        → suc (length l) ≤ suc (length (cond b (without n l) (t ∷ without n l)))
    go true e r = let i = eqb-true n t e in omega (arith, without-none n l (rw (← i) at d.0))
    go false e r = omega arith

pub few : (n : ℕ) (l : List ℕ) → Distinct l → Below n l → length l ≤ n
few zero [] d b = omega arith
few zero (t ∷ l) d b = absurd (omega (arith, b.0))
few (suc n) l d b =
    omega (arith, few n (without n l) (distinct_without n l d) (below_without n l b), without-one n l d)

pub below_at : (n : ℕ) (l : List ℕ) → Below n l → (i : ℕ) → i < length l → get_or l i 0 < n
below_at n [] b i h = absurd (omega arith)
below_at n (t ∷ l) b zero h = b.0
below_at n (t ∷ l) b (suc i) h = below_at n l b.1 i (le_of_suc-le-suc h)

-- ---- the order

begins : (seen l : List ℕ) → (rest : List ℕ) × (noted seen l ≡ seen ++ rest)
unfolding noted note
begins seen [] = ([], sym (append-nil seen))
begins seen (t ∷ l) = let r = begins (note seen t) l in go (among t seen) refl r.0 r.1
  where
    go : (b : Bool) → among t seen ≡ b → (rest : List ℕ) → noted (note seen t) l ≡ note seen t ++ rest
        → (rest : List ℕ) × (noted (note seen t) l ≡ seen ++ rest)
    go true e rest i = (rest, i ∙ rw e refl)
    go false e rest i = ((t ∷ []) ++ rest, i ∙ rw e (append_assoc seen (t ∷ []) rest))

place_left : (t : ℕ) (a b : List ℕ) → among t a ≡ true → place_of t (a ++ b) < length a
unfolding place_of
place_left t [] b h = clash (cc)
place_left t (u ∷ a) b h = go (eqb t u) h (place_left t a b)
  where
    go : (v : Bool) → (v || among t a) ≡ true → (among t a ≡ true → place_of t (a ++ b) < length a)
        → cond v 0 (suc (place_of t (a ++ b))) < suc (length a)
    go true e r = omega arith
    go false e r = omega (arith, r e)

place-right : (t : ℕ) (a b : List ℕ) → among t a ≡ false → place_of t (a ++ b) ≡ length a + place_of t b
unfolding place_of
place-right t [] b h = omega arith
place-right t (u ∷ a) b h =
    let o = or_no (eqb t u) (among t a) h in rw o.0 (omega (arith, place-right t a b o.1))

module _ (t u : ℕ) where
  pub order_from : (seen l : List ℕ) → among t seen ≡ false → among u seen ≡ false → place_of t l < place_of u l
      → place_of t (noted seen l) < place_of u (noted seen l)
  unfolding noted place_of
  order_from seen [] a b h = absurd (omega arith)
  order_from seen (v ∷ l) a b h = go (eqb t v) refl (eqb u v) refl h (order_from (note seen v) l)
    where
      go : (x : Bool) → eqb t v ≡ x → (y : Bool) → eqb u v ≡ y
          → cond x 0 (suc (place_of t l)) < cond y 0 (suc (place_of u l))
          → (among t (note seen v) ≡ false → among u (note seen v) ≡ false → place_of t l < place_of u l
          → place_of t (noted (note seen v) l) < place_of u (noted (note seen v) l))
          → place_of t (noted (note seen v) l) < place_of u (noted (note seen v) l)
      go true x true y k r = absurd (omega arith)
      go false x true y k r = absurd (omega arith)
      go false x false y k r =
          r (among-note t v seen ∙ rw (a, x) refl) (among-note u v seen ∙ rw (b, y) refl) (le_of_suc-le-suc k)
      go true x false y k r =
          let w = begins (note seen v) l in
          let there : among t (note seen v) ≡ true = among-note t v seen ∙ rw (a, x) refl in
          let not : among u (note seen v) ≡ false = among-note u v seen ∙ rw (b, y) refl in
          rw w.1
          (omega (arith, place_left t (note seen v) w.0 there, place-right u (note seen v) w.0 not))
