-- Sums of numbers, of which at most one is not 0. Assumes nothing.
use Prim.Native.Nat.{ℕ, zero, suc, ◌+◌, ◌*◌, ◌≤◌, ◌<◌}
use mathlib.Core.Path.{◌≡◌, sym, ap}
use mathlib.Core.Logic.{◌⊎◌, inl, inr}
use native.Mathlib.Nat.{mul-le-mul_right}
use native.Mathlib.Omega.{arith}
use Rattle.bits.proofs.VerdictLaws.{le-or-lt}

-- f 0 + f 1 + .. + f (n - 1)
unfoldable pub sum : (ℕ → ℕ) → ℕ → ℕ
sum f zero = 0
sum f (suc n) = sum f n + f n

pub sum_most : (f g : ℕ → ℕ) → ((j : ℕ) → f j ≤ g j) → (n : ℕ) → sum f n ≤ sum g n
unfolding sum
sum_most f g e zero = omega arith
sum_most f g e (suc n) = omega (arith, sum_most f g e n, e n)

module _ (f : ℕ → ℕ) where
  pub sum_least : (n j : ℕ) → j < n → f j ≤ sum f n
  unfolding sum
  sum_least zero j h = absurd (omega arith)
  sum_least (suc n) j h = go (sum_least n j) (le-or-lt n j)
    where
      go : (j < n → f j ≤ sum f n) → (n ≤ j) ⊎ (j < n) → f j ≤ sum f n + f n
      go r (inl l) = let e : j ≡ n = omega arith in rw e (omega arith)
      go r (inr l) = omega (arith, r l)

  -- a sum that is not 0 has a place that is not
  pub sum_found : (n : ℕ) → 0 < sum f n → (j : ℕ) × (j < n) × (0 < f j)
  unfolding sum
  sum_found zero h = absurd (omega arith)
  sum_found (suc n) h = go (sum_found n) (le-or-lt (sum f n) 0)
    where
      go : (0 < sum f n → (j : ℕ) × (j < n) × (0 < f j)) → (sum f n ≤ 0) ⊎ (0 < sum f n)
          → (j : ℕ) × (j < suc n) × (0 < f j)
      go r (inl l) = (n, omega arith, omega arith)
      go r (inr l) = let t = r l in (t.0, omega (arith, t.1), t.2)

  pub sum_once : (n : ℕ) → ((j : ℕ) → f j ≤ 1) → ((i j : ℕ) → i < n → j < n → 0 < f i → 0 < f j → i ≡ j)
      → sum f n ≤ 1
  unfolding sum
  sum_once zero a u = omega arith
  sum_once (suc n) a u =
      go (sum_once n a (λ i j h k. u i j (omega arith) (omega arith))) (le-or-lt (f n) 0) (le-or-lt (sum f n) 0)
    where
      go : sum f n ≤ 1 → (f n ≤ 0) ⊎ (0 < f n) → (sum f n ≤ 0) ⊎ (0 < sum f n) → sum f n + f n ≤ 1
      go r (inl l) m = omega arith
      go r (inr l) (inl m) = omega (arith, a n)
      go r (inr l) (inr m) =
          let t = sum_found n m in
          let e : t.0 ≡ n = u t.0 n (omega (arith, t.1)) (omega arith) t.2 l in
          absurd (omega (arith, t.1))

-- ---- numbers of which at most one is not 0, and that is 1

pub record Single (f : ℕ → ℕ) : Type 0 where
  pub most : (y : ℕ) → f y ≤ 1
  pub same : (y z : ℕ) → 0 < f y → 0 < f z → y ≡ z

-- division with remainder
pub split : (k y z c d : ℕ) → c < k → d < k → y * k + c ≡ z * k + d → (y ≡ z) × (c ≡ d)
split k y z c d a b e = go (le-or-lt y z) (le-or-lt z y)
  where
    less : (y z c d : ℕ) → c < k → d < k → y * k + c ≡ z * k + d → y < z → ⊥
    less y z c d a b e h = let m : suc y * k ≤ z * k = mul-le-mul_right k h in omega arith

    go : (y ≤ z) ⊎ (z < y) → (z ≤ y) ⊎ (y < z) → (y ≡ z) × (c ≡ d)
    go (inr h) v = absurd (less z y d c b a (sym e) h)
    go (inl h) (inr v) = absurd (less y z c d a b e v)
    go (inl h) (inl v) =
        let q : y ≡ z = omega arith in
        let r : y * k ≡ z * k = ap (λ (x : ℕ). x * k) q in
        (q, omega arith)

-- the numbers in lines of n + 1, less the last of each line
abbrev pub lines : ℕ → (ℕ → ℕ) → ℕ → ℕ
lines n f y = sum (λ c. f (y * (n + 1) + c)) n

pub lines_single : (n : ℕ) (f : ℕ → ℕ) → Single f → Single (lines n f)
lines_single n f s = record { most = most; same = same }
  where
    most : (y : ℕ) → lines n f y ≤ 1
    most y = sum_once (λ c. f (y * (n + 1) + c)) n (λ c. s.most (y * (n + 1) + c)) (λ i j _ _ a b.
        omega (arith, s.same (y * (n + 1) + i) (y * (n + 1) + j) a b))

    same : (y z : ℕ) → 0 < lines n f y → 0 < lines n f z → y ≡ z
    same y z a b =
        let t = sum_found (λ c. f (y * (n + 1) + c)) n a in
        let u = sum_found (λ c. f (z * (n + 1) + c)) n b in
        let e = s.same (y * (n + 1) + t.0) (z * (n + 1) + u.0) t.2 u.2 in
        (split (n + 1) y z t.0 u.0 (omega (arith, t.1)) (omega (arith, u.1)) e).0
