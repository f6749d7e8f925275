-- What the verdicts of a step behind a test, of `within`, of two steps and of a step's value tell. Assumes nothing.
use Rattle.std.proofs.Common.{◌≡◌, ℕ, ◌<◌, ◌≤◌, Bool, true, false, cond, ◌&&◌, leb, ◌⊎◌, List, length, sym, refl, inl, inr, arith, le-leb, leb-false, leb-true}
use borrow.Author.Tests.{lt-leb}
use Rattle.bits.specs.Verdict.{Verdict, accepted, needs, declined, within, limited, width_limited, and_then, mapped}

pub le-or-lt : (m n : ℕ) → (m ≤ n) ⊎ (n < m)
le-or-lt m n = go (leb m n) refl
  where
    go : (b : Bool) → leb m n ≡ b → (m ≤ n) ⊎ (n < m)
    go true e = inl (leb-true m n e)
    go false e = inr (leb-false m n e)

-- the equations at hand contradict each other
pub clash : {X : Type 0} → ◌≡◌ {A = ℕ} 0 1 → X
clash e = absurd (omega arith)

pub both_true : (a b : Bool) → (a && b) ≡ true → (a ≡ true) × (b ≡ true)
both_true true b e = (refl, e)
both_true false b e = clash (cc)

-- ---- a step behind a test

module _ {A : Type 0} (b : Bool) (v : Verdict A) (k : ℕ) where
  -- a value was accepted: the test held
  pub tested_value : (a : A) → cond b v (declined k) ≡ accepted a → (b ≡ true) × (v ≡ accepted a)
  tested_value a e = go b e
    where
      go : (b : Bool) → cond b v (declined k) ≡ accepted a → (b ≡ true) × (v ≡ accepted a)
      go true e = (refl, e)
      go false e = clash (cc)

  -- it was declined: by the test, or behind it
  pub tested_declined : (j : ℕ) → cond b v (declined k) ≡ declined j → ((b ≡ false) × (k ≡ j)) ⊎ ((b ≡ true) × (v ≡ declined j))
  tested_declined j e = go b e
    where
      go : (b : Bool) → cond b v (declined k) ≡ declined j → ((b ≡ false) × (k ≡ j)) ⊎ ((b ≡ true) × (v ≡ declined j))
      go true e = inr (refl, e)
      go false e = inl (refl, cc)

-- ---- a value in its limit

module _ {A : Type 0} (m n : ℕ) (v : A) where
  pub within_yes : (o : Verdict A) → m ≤ n → within m n v o ≡ accepted v
  unfolding within
  within_yes o h = simp (le-leb m n h)

  pub within_no : (o : Verdict A) → n < m → within m n v o ≡ o
  unfolding within
  within_no o h = simp (lt-leb m n h)

  -- a value was accepted: the test held, and it is this value
  pub within_value : (k : ℕ) (u : A) → within m n v (declined k) ≡ accepted u → (m ≤ n) × (v ≡ u)
  unfolding within
  within_value k u e =
      let t = tested_value (leb m n) (accepted v) k u e in
      let d = t.1 in
      (leb-true m n t.0, cc)

  -- it was declined: the test failed, and this is the number
  pub within_refused : (k j : ℕ) → within m n v (declined k) ≡ declined j → (n < m) × (k ≡ j)
  unfolding within
  within_refused k j e = go (tested_declined (leb m n) (accepted v) k j e)
    where
      go : ((leb m n ≡ false) × (k ≡ j)) ⊎ ((leb m n ≡ true) × (accepted v ≡ declined j)) → (n < m) × (k ≡ j)
      go (inl t) = (leb-false m n t.0, t.1)
      go (inr (t, d)) = clash (cc)

-- ---- bytes within the limit of a payload

module _ {A : Type 0} (s : List ℕ) (v : Verdict A) where
  pub limited_yes : length s ≤ 67108864 → limited s v ≡ v
  unfolding limited
  limited_yes h = simp (le-leb (length s) 67108864 h)

  pub limited_no : 67108864 < length s → limited s v ≡ declined 2
  unfolding limited
  limited_no h = simp (lt-leb (length s) 67108864 h)

-- ---- a field's width within its limit

module _ {A : Type 0} (w : ℕ) (v : Verdict A) where
  pub width_yes : w ≤ 32 → width_limited w v ≡ v
  unfolding width_limited
  width_yes h = simp (le-leb w 32 h)

  pub width_no : 32 < w → width_limited w v ≡ declined 16
  unfolding width_limited
  width_no h = simp (lt-leb w 32 h)

  -- a value was accepted, so behind the test too
  pub width_value : (a : A) → width_limited w v ≡ accepted a → v ≡ accepted a
  unfolding width_limited
  width_value a e = (tested_value (leb w 32) v 16 a e).1

-- ---- one step after another

module _ {A B : Type 0} where
  -- both steps were accepted
  pub then_value : (v : Verdict A) (f : A → Verdict B) (y : B) → and_then v f ≡ accepted y → (x : A) × (v ≡ accepted x) × (f x ≡ accepted y)
  then_value (accepted x) f y e = (x, refl, e)
  then_value (needs l) f y e = clash (cc)
  then_value (declined k) f y e = clash (cc)

  pub then_yes : (v : Verdict A) (f : A → Verdict B) (x : A) → v ≡ accepted x → and_then v f ≡ f x
  then_yes v f x e = rw e

  pub then_no : (v : Verdict A) (f : A → Verdict B) (k : ℕ) → v ≡ declined k → and_then v f ≡ declined k
  then_no v f k e = rw e

  -- one of the two was declined
  pub then_declined : (v : Verdict A) (f : A → Verdict B) (k : ℕ) → and_then v f ≡ declined k → (v ≡ declined k) ⊎ ((x : A) × ((v ≡ accepted x) × (f x ≡ declined k)))
  then_declined (accepted x) f k e = inr (x, (refl, e))
  then_declined (needs l) f k e = clash (cc)
  then_declined (declined j) f k e = let z : j ≡ k = cc in inl (rw z)

-- ---- a verdict on another value

module _ {A B : Type 0} (f : A → B) (v : Verdict A) where
  pub mapped_value : (b : B) → accepted b ≡ mapped f v → (a : A) × (v ≡ accepted a) × (f a ≡ b)
  mapped_value b e =
      let t = then_value v (λ x. accepted (f x)) b (sym e) in
      let d = t.2 in
      (t.0, t.1, cc)

  pub mapped_declined : (k : ℕ) → declined k ≡ mapped f v → v ≡ declined k
  mapped_declined k e = go v e
    where
      go : (v : Verdict A) → declined k ≡ mapped f v → v ≡ declined k
      go (accepted a) e = clash (cc)
      go (needs l) e = clash (cc)
      go (declined j) e = cc
