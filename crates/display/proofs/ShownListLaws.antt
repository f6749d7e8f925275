-- Lists of record numbers: where a number stands, one more at the end, one taken out, and the points of all. Assumes
-- nothing.
use Prim.Native.Nat.{ℕ, suc, ◌+◌, ◌*◌, ◌^◌, ◌≤◌, ◌<◌}
use mathlib.Core.Path.{◌≡◌, refl, sym, ap}
use mathlib.Core.List.{List, [], ◌∷◌, ◌++◌}
use mathlib.Core.Bool.{Bool, true, false, cond, not, ◌||◌}
use native.Mathlib.Omega.{arith}
use lib.Dec.{ltb, eqb}
use lib.ListN.{length, take, drop}
use borrow.Author.Tests.{eq-eqb, ne_eqb, eqb-true, eqb-false, lt-ltb, ltb-true, not-true}
use Rattle.std.proofs.Common.{Option}
use Rattle.std.specs.List.{list_any, AllWithin, HoldsAt}
use Rattle.std.specs.Option.{MatchOption, unwrap_or}
use Rattle.std.proofs.lemmas.Iterator.{index_from_first}
use Rattle.bits.specs.Refusals.{among}
use Rattle.bits.proofs.VerdictLaws.{both_true, clash}
use Rattle.payload.specs.Firsts.{Distinct, Below, place_of}
use Rattle.payload.specs.MeshWrite.{all_below, all_of}
use Rattle.payload.proofs.FirstsLaws.{or_no, or_yes}
use Rattle.payload.proofs.RowLaws.{cond_inv, not_so}
use Rattle.display.specs.ShownRules.{points_of, points_of_all, without}
use Rattle.display.specs.ShownKept.{distinct}

-- ---- where a number stands

eqb_swap : (m n : ℕ) → eqb m n ≡ eqb n m
eqb_swap m n = grind arith

-- as the code looks for it
module _ (n : ℕ) where
  pub place_first : (l : List ℕ) (r : Option ℕ)
      → MatchOption r (AllWithin (λ m. m ≡ n → ⊥) l 0 (length l))
      (λ i. (i < length l) × HoldsAt (λ m. m ≡ n) l i × AllWithin (λ m. m ≡ n → ⊥) l 0 i)
      → place_of n l ≡ unwrap_or r (length l)
  unfolding place_of
  place_first l r f =
      index_from_first (place_of n) (λ m. m ≡ n) (λ m. m ≡ n → ⊥) refl (λ m k e. rw (eq-eqb n m (sym e)))
      (λ m k e. rw (ne_eqb n m (λ z. e (sym z))) (omega arith)) l r f

  pub among_is : (l : List ℕ) → list_any (λ (m : ℕ). eqb m n) l ≡ among n l
  among_is [] = refl
  among_is (m ∷ l) = rw (eqb_swap m n, among_is l)

pub among_there : (n : ℕ) (l : List ℕ) → place_of n l < length l → among n l ≡ true
unfolding place_of
among_there n [] h = absurd (omega arith)
among_there n (m ∷ l) h = go (eqb n m) h (among_there n l)
  where
    go : (b : Bool) → cond b 0 (suc (place_of n l)) < suc (length l) → (place_of n l < length l → among n l ≡ true)
        → (b || among n l) ≡ true
    go true h r = refl
    go false h r = r (omega arith)

pub among_nowhere : (n : ℕ) (l : List ℕ) → length l ≤ place_of n l → among n l ≡ false
unfolding place_of
among_nowhere n [] h = refl
among_nowhere n (m ∷ l) h = go (eqb n m) h (among_nowhere n l)
  where
    go : (b : Bool) → suc (length l) ≤ cond b 0 (suc (place_of n l)) → (length l ≤ place_of n l → among n l ≡ false)
        → (b || among n l) ≡ false
    go true h r = absurd (omega arith)
    go false h r = r (omega arith)

-- the list without it, by its place
pub without_there : (n : ℕ) (l : List ℕ) → without n l ≡ take (place_of n l) l ++ drop (suc (place_of n l)) l
unfolding place_of without
without_there n [] = refl
without_there n (m ∷ l) = go (eqb n m) (without_there n l)
  where
    go : (b : Bool) → without n l ≡ take (place_of n l) l ++ drop (suc (place_of n l)) l
        → cond b l (m ∷ without n l)
        ≡ take (cond b 0 (suc (place_of n l))) (m ∷ l) ++ drop (suc (cond b 0 (suc (place_of n l)))) (m ∷ l)
    go true r = refl
    go false r = ap (λ (k : List ℕ). m ∷ k) r

pub length_without : (n : ℕ) (l : List ℕ) → among n l ≡ true → suc (length (without n l)) ≡ length l
unfolding without
length_without n [] h = not_so h
length_without n (m ∷ l) h = go (eqb n m) h (length_without n l)
  where
    go : (b : Bool) → (b || among n l) ≡ true → (among n l ≡ true → suc (length (without n l)) ≡ length l)
        → suc (length (cond b l (m ∷ without n l))) ≡ suc (length l)
    go true h r = refl
    go false h r = ap suc (r h)

-- what stands on both sides of it stays, where it is there once
pub among-between : (n : ℕ) (a b : List ℕ) → among n (a ++ (n ∷ b)) ≡ true
among-between n [] b = rw (eq-eqb n n refl)
among-between n (m ∷ a) b = or_yes (eqb n m) (among n (a ++ (n ∷ b))) (among-between n a b)

pub without-between : (n : ℕ) (a b : List ℕ) → Distinct (a ++ (n ∷ b)) → without n (a ++ (n ∷ b)) ≡ a ++ b
unfolding without
without-between n [] b d = rw (eq-eqb n n refl)
without-between n (m ∷ a) b d =
    let t = among-between n a b in
    let f = d.0 in
    rw (ne_eqb n m (λ e. clash (cc))) (ap (λ (l : List ℕ). m ∷ l) (without-between n a b d.1))

-- ---- the points of all

module _ (words : List ℕ) where
  pub points_snoc : (l : List ℕ) (n : ℕ) → points_of_all words (l ++ (n ∷ [])) ≡ points_of_all words l + points_of words n
  points_snoc [] n = omega arith
  points_snoc (m ∷ l) n = omega (arith, points_snoc l n)

  pub points_without : (n : ℕ) (l : List ℕ) → among n l ≡ true
      → points_of_all words l ≡ points_of words n + points_of_all words (without n l)
  unfolding without
  points_without n [] h = not_so h
  points_without n (m ∷ l) h = go (eqb n m) refl h (points_without n l)
    where
      go : (b : Bool) → eqb n m ≡ b → (b || among n l) ≡ true
          → (among n l ≡ true → points_of_all words l ≡ points_of words n + points_of_all words (without n l))
          → points_of words m + points_of_all words l
          ≡ points_of words n + points_of_all words (cond b l (m ∷ without n l))
      go true e h r = let z : m ≡ n = sym (eqb-true n m e) in rw z
      go false e h r = omega (arith, r h)

  -- counts of 32 bits
  pub points_most : ((k : ℕ) → points_of words k < 2 ^ 32) → (l : List ℕ) → points_of_all words l ≤ length l * 2 ^ 32
  points_most w [] = omega arith
  points_most w (n ∷ l) = omega (arith, w n, points_most w l)

-- ---- none twice

pub distinct_told : (l : List ℕ) → distinct l ≡ true → Distinct l
unfolding distinct
distinct_told [] e = tt
distinct_told (n ∷ l) e =
    let q = both_true (not (among n l)) (distinct l) e in
    (not-true (among n l) q.0, distinct_told l q.1)

pub distinct_yes : (l : List ℕ) → Distinct l → distinct l ≡ true
unfolding distinct
distinct_yes [] d = refl
distinct_yes (n ∷ l) d = rw (d.0, distinct_yes l d.1)

among-snoc : (m n : ℕ) (l : List ℕ) → among m l ≡ false → (n ≡ m → ⊥) → among m (l ++ (n ∷ [])) ≡ false
among-snoc m n [] e h = rw (ne_eqb m n (λ z. h (sym z)))
among-snoc m n (k ∷ l) e h = let q = or_no (eqb m k) (among m l) e in rw q.0 (among-snoc m n l q.1 h)

among-without : (m n : ℕ) (l : List ℕ) → among m l ≡ false → among m (without n l) ≡ false
unfolding without
among-without m n [] e = refl
among-without m n (k ∷ l) e = go (eqb n k) (or_no (eqb m k) (among m l) e) (among-without m n l)
  where
    go : (b : Bool) → (eqb m k ≡ false) × (among m l ≡ false)
        → (among m l ≡ false → among m (without n l) ≡ false) → among m (cond b l (k ∷ without n l)) ≡ false
    go true q r = q.1
    go false q r = rw q.0 (r q.1)

module _ (n : ℕ) where
  pub distinct_snoc : (l : List ℕ) → Distinct l → among n l ≡ false → Distinct (l ++ (n ∷ []))
  distinct_snoc [] d h = (refl, tt)
  distinct_snoc (m ∷ l) d h =
      let q = or_no (eqb n m) (among n l) h in
      (among-snoc m n l d.0 (eqb-false n m q.0), distinct_snoc l d.1 q.1)

  pub distinct_without : (l : List ℕ) → Distinct l → Distinct (without n l)
  unfolding without
  distinct_without [] d = tt
  distinct_without (m ∷ l) d = go (eqb n m) (distinct_without l d.1)
    where
      go : (b : Bool) → Distinct (without n l) → Distinct (cond b l (m ∷ without n l))
      go true r = d.1
      go false r = (among-without m n l d.0, r)

-- ---- all below a limit

module _ (limit : ℕ) where
  pub below_told : (l : List ℕ) → all_below limit l ≡ true → Below limit l
  unfolding all_of
  below_told [] e = tt
  below_told (n ∷ l) e =
      let q = cond_inv (ltb n limit) (all_below limit l) e in (ltb-true n limit q.0, below_told l q.1)

  pub below_yes : (l : List ℕ) → Below limit l → all_below limit l ≡ true
  unfolding all_of
  below_yes [] b = refl
  below_yes (n ∷ l) b = rw (lt-ltb n limit b.0) (below_yes l b.1)

  module _ (n : ℕ) where
    pub below_snoc : (l : List ℕ) → Below limit l → n < limit → Below limit (l ++ (n ∷ []))
    below_snoc [] b h = (h, tt)
    below_snoc (m ∷ l) b h = (b.0, below_snoc l b.1 h)

    pub below_without : (l : List ℕ) → Below limit l → Below limit (without n l)
    unfolding without
    below_without [] b = tt
    below_without (m ∷ l) b = go (eqb n m) (below_without l b.1)
      where
        go : (v : Bool) → Below limit (without n l) → Below limit (cond v l (m ∷ without n l))
        go true r = b.1
        go false r = (b.0, r)
