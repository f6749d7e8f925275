-- Laws of the asked numbers: the nearer of two, and the farthest. Assumes nothing.
use Prim.Native.Nat.{ℕ, zero, suc, ◌+◌, ◌≤◌, ◌<◌, max, suc-le-suc}
use mathlib.Core.Path.{◌≡◌, refl}
use mathlib.Core.Bool.{true, false, cond}
use mathlib.Core.List.{List, [], ◌∷◌}
use mathlib.Core.Logic.{◌⊎◌, inl, inr}
use native.Mathlib.Omega.{arith}
use native.Mathlib.Nat.{le_of_suc-le-suc, zero-lt-suc}
use lib.Dec.{ltb}
use lib.ListN.{length, get_or, drop}
use borrow.Author.Tests.{le-leb, lt-leb, le-ltb, lt-ltb}
use Rattle.bits.proofs.VerdictLaws.{clash, le-or-lt}
use Rattle.payload.specs.MeshWrite.{all_of, all_below}
use Rattle.payload.proofs.PutRunLaws.{rest-cons, rest-none}
use Rattle.alignment.specs.LookUp.{farthest}
use Rattle.alignment.specs.Internal.{nearest}

-- ---- the nearer of two

module _ (after k best : ℕ) where
  pub nearest_early : k ≤ after → nearest after k best ≡ best
  nearest_early h = rw (le-leb k after h)

  pub nearest_late : best ≤ k → nearest after k best ≡ best
  nearest_late h = go (le-or-lt k after)
    where
      go : (k ≤ after) ⊎ (after < k) → nearest after k best ≡ best
      go (inl l) = nearest_early l
      go (inr l) = rw (lt-leb k after l, le-leb best k h)

  pub nearest_here : after < k → k < best → nearest after k best ≡ k
  nearest_here h l = rw (lt-leb k after h, lt-leb best k l)

  data Near : Type 0 where
    kept : nearest after k best ≡ best → (k ≤ after) ⊎ (best ≤ k) → Near
    taken : nearest after k best ≡ k → after < k → k < best → Near

  near : Near
  near = go (le-or-lt k after) (le-or-lt best k)
    where
      go : (k ≤ after) ⊎ (after < k) → (best ≤ k) ⊎ (k < best) → Near
      go (inl a) b = kept (nearest_early a) (inl a)
      go (inr a) (inl b) = kept (nearest_late b) (inr b)
      go (inr a) (inr b) = taken (nearest_here a b) a b

  -- it stays above, and is neither above best nor above k
  pub nearest_above : after < best → after < nearest after k best
  nearest_above h = go near
    where
      go : Near → after < nearest after k best
      go (kept e d) = rw e h
      go (taken e a b) = rw e a

  pub nearest_best : nearest after k best ≤ best
  nearest_best = go near
    where
      go : Near → nearest after k best ≤ best
      go (kept e d) = rw e (omega arith)
      go (taken e a b) = rw e (omega arith)

  pub nearest_least : after < k → nearest after k best ≤ k
  nearest_least h = go near
    where
      go : Near → nearest after k best ≤ k
      go (kept e (inl d)) = absurd (omega arith)
      go (kept e (inr d)) = rw e d
      go (taken e a b) = rw e (omega arith)

-- ---- the farthest

pub far_at : (l : List ℕ) (i : ℕ) → i < length l → get_or l i 0 < farthest l
unfolding farthest
far_at [] i h = absurd (omega arith)
far_at (k ∷ l) zero h = omega arith
far_at (k ∷ l) (suc i) h = omega (arith, far_at l i (le_of_suc-le-suc h))

-- the farthest of those from place i on
pub far_first : (l : List ℕ) (i : ℕ) → i < length l → farthest (drop i l) ≡ max (farthest (drop (i + 1) l)) (suc (get_or l i 0))
unfolding farthest
far_first l i h = rw (rest-cons l i h)

pub far_end : (l : List ℕ) (i : ℕ) → length l ≤ i → farthest (drop i l) ≡ 0
unfolding farthest
far_end l i h = rw (rest-none l i h)

-- all numbers are below n where the farthest is at most n
pub below_far : (n : ℕ) (l : List ℕ) → farthest l ≤ n → all_below n l ≡ true
unfolding farthest all_of
below_far n [] h = refl
below_far n (k ∷ l) h = rw (lt-ltb k n (omega arith)) (below_far n l (omega arith))

pub not-below : (n : ℕ) (l : List ℕ) → n < farthest l → all_below n l ≡ false
unfolding farthest all_of
not-below n [] h = absurd (omega arith)
not-below n (k ∷ l) h = go (le-or-lt n k) (not-below n l)
  where
    go : (n ≤ k) ⊎ (k < n) → (n < farthest l → all_below n l ≡ false) → cond (ltb k n) (all_below n l) false ≡ false
    go (inl a) rec = rw (le-ltb k n a)
    go (inr a) rec = rw (lt-ltb k n a) (rec (omega arith))

pub far_below : (n : ℕ) (l : List ℕ) → all_below n l ≡ true → farthest l ≤ n
far_below n l e = go (le-or-lt (farthest l) n)
  where
    go : (farthest l ≤ n) ⊎ (n < farthest l) → farthest l ≤ n
    go (inl h) = h
    go (inr h) = let d = not-below n l h in clash (cc)

pub far_least : (l : List ℕ) (n : ℕ) → ((i : ℕ) → i < length l → get_or l i 0 < n) → farthest l ≤ n
unfolding farthest
far_least [] n h = omega arith
far_least (k ∷ l) n h =
    let a : k < n = h 0 (zero-lt-suc (length l)) in
    let b = far_least l n (λ i o. h (suc i) (suc-le-suc o)) in
    omega arith
