-- How large the results of operations of binary32 can be, so which are finite; and which are no NaN. Assumes nothing.
use Rattle.std.proofs.Common.{◌≡◌, ℕ, zero, suc, ◌+◌, ◌-◌, ◌*◌, ◌%◌, ◌^◌, ◌<◌, ◌≤◌, Bool, true, false, cond, ◌&&◌, ◌||◌, T, eqb, ltb, leb, ◌⊎◌, ℤ, pos, negsuc, sym, refl, ap, ◌∙◌, inl, inr, true≢false, le_trans, le_of_eq, lt_of_lt_of_le, le_of_suc-le-suc, le_of_lt, mul-le-mul_right, mul_assoc, mul_comm, mul-le-mul, lt_of_mul-lt-mul_right, eq-or-lt_of_le, mul-le-mul_left, mul-lt-mul_of_pos_right, mul-pos, one-mul, lt_of_not-le, zero-mul, mul-one, mul_right_comm, not-le_of_lt, le_of_mul-le-mul_right, arith, lit<, lit≤, eqb→eq, ltb→lt, leb→le, pow_pos, pow_mono, pow-add, le-ltb, lt-ltb, eq-eqb, ne_eqb}
use mathlib.Core.Bool.{beq}
use native.Mathlib.Nat.{mul-mul-mul_comm}
use lib.Pow.{pow-lt}
use lib.Ieee.{Float, nan, inf, fin, Format, binary32, prec, low, emax, unlike, up, down, odd, units, round, neg, sum}
use lib.Ieee.{add, sub, mul, div, of_int, of_bits, to_bits, is_nan, nan_bits, le, lt, fits}
use lib.Ieee.Digits.{back}
use lib.Ieee.Exact.{HasValue, round_exact}
use lib.Ieee.Back.{round_whole}
use lib.Ieee.Order.{round_mono}
use lib.Ieee.Fits.{and_l, and_r, up_pos, down_pos, round_is}
use lib.Ieee.Bits.{of_bits-to_bits, nan_bits_is}
use lib.Ieee.Scale.{finite}
use Rattle.bits.specs.Float.{nearest, scaled}
use Rattle.payload.specs.Float.{f0, f½, f1, ratio, ◌⊕◌, ◌⊖◌, ◌⊗◌, ◌⊘◌}

-- ---- bounds

-- finite, and at most N in size
pub data Within : ℕ → Float → Type 0 where
  within : {N : ℕ} {s : Bool} {m : ℕ} {e : ℤ} → m * up e ≤ N * down e → Within N (fin s m e)

-- and not negative
pub data Upto : ℕ → Float → Type 0 where
  upto : {N m : ℕ} {e : ℤ} → m * up e ≤ N * down e → Upto N (fin false m e)

-- finite, and at least 1 in size
pub data Least : Float → Type 0 where
  least : {s : Bool} {m : ℕ} {e : ℤ} → 0 < m → down e ≤ m * up e → Least (fin s m e)

-- x is at most N times y in size, and y is not zero
pub data Under : ℕ → Float → Float → Type 0 where
  under : {N : ℕ} {s : Bool} {m : ℕ} {e : ℤ} {t : Bool} {n : ℕ} {d : ℤ}
      → 0 < n → m * up e * down d ≤ N * (n * up d * down e) → Under N (fin s m e) (fin t n d)

pub upto_within : {N : ℕ} {x : Float} → Upto N x → Within N x
upto_within (upto h) = within h

pub within_finite : {N : ℕ} {x : Float} → Within N x → finite x ≡ true
within_finite (within h) = refl

pub within-number : {N : ℕ} {x : Float} → Within N x → is_nan x ≡ false
unfolding is_nan
within-number (within h) = refl

within_neg : {N : ℕ} {x : Float} → Within N x → Within N (neg x)
unfolding neg
within_neg (within h) = within h

times : (a d : ℕ) → 0 < d → a ≤ a * d
times a d h = omega (arith, mul-le-mul_left a h)

-- a bound of a finite float; 2 where there is none
abbrev pub weight : Float → ℕ
weight nan = 2
weight (inf s) = 2
weight (fin s m e) = m * up e

pub weight-within : (x : Float) → weight x ≤ 1 → Within (weight x) x
weight-within nan h = absurd (omega arith)
weight-within (inf s) h = absurd (omega arith)
weight-within (fin s m e) h = within (times (m * up e) (down e) (down_pos e))

-- ---- rounding: the sign

-- no NaN, and of the sign s
abbrev Signed : Bool → Float → Type 0
Signed s nan = ⊥
Signed s (inf t) = t ≡ s
Signed s (fin t m e) = t ≡ s

to_upto : {N : ℕ} {x : Float} → Within N x → Signed false x → Upto N x
to_upto (within {s = true} h) k = absurd (true≢false k)
to_upto (within {s = false} h) k = upto h

signed_number : (s : Bool) (x : Float) → Signed s x → is_nan x ≡ false
unfolding is_nan
signed_number s nan h = absurd h
signed_number s (inf t) h = refl
signed_number s (fin t m e) h = refl

module _ (f : Format) where
  odd_signed : (s : Bool) (q k : ℕ) → Signed s (odd (suc (prec f)) s q k (low f))
  unfolding odd
  odd_signed s zero k = refl
  odd_signed s (suc q) k = refl

  odd_neg : (q k : ℕ) → odd (suc (prec f)) true q k (low f) ≡ neg (odd (suc (prec f)) false q k (low f))
  unfolding odd neg
  odd_neg zero k = refl
  odd_neg (suc q) k = refl

  units_signed : (s : Bool) (q k : ℕ) → Signed s (units f s q k)
  unfolding units
  units_signed s q k = go (ltb (q * 2 ^ k) (2 ^ (low f + suc (emax f))))
    where
      go : (b : Bool) → Signed s (cond b (odd (suc (prec f)) s q k (low f)) (inf s))
      go true = odd_signed s q k
      go false = refl

  units_neg : (q k : ℕ) → units f true q k ≡ neg (units f false q k)
  unfolding units neg
  units_neg q k = go (ltb (q * 2 ^ k) (2 ^ (low f + suc (emax f))))
    where
      go : (b : Bool) → cond b (odd (suc (prec f)) true q k (low f)) (inf true)
          ≡ neg (cond b (odd (suc (prec f)) false q k (low f)) (inf false))
      go true = odd_neg q k
      go false = refl

  round_signed : (s : Bool) (a c : ℕ) → Signed s (round f s a c)
  round_signed s a c = rw round_is (units_signed s _ _)

  round_neg : (a c : ℕ) → round f true a c ≡ neg (round f false a c)
  round_neg a c = round_is f true a c ∙ units_neg _ _ ∙ ap neg (sym (round_is f false a c))

-- ---- rounding: the size

or-le : (a b : ℕ) → T (ltb a b || (eqb a b && true)) → a ≤ b
or-le a b t = go (ltb a b) (eqb a b) (ltb→lt a b) (eqb→eq a b) t
  where
    go : (x y : Bool) → (T x → a < b) → (T y → a ≡ b) → T (x || (y && true)) → a ≤ b
    go true y f g t = le_of_lt (f tt)
    go false true f g t = le_of_eq (g tt)
    go false false f g t = absurd t

-- x / e is at most y / d, which is at most N
through : (x y e d N : ℕ) → 0 < d → x * d ≤ y * e → y ≤ N * d → x ≤ N * e
through x y e d N p h k =
    le_of_mul-le-mul_right (le_trans h (le_trans (mul-le-mul_right e k) (le_of_eq (mul_right_comm N d e)))) p

le_upto : {N : ℕ} {y : Float} (x : Float) → Signed false x → Upto N y → T (le x y) → Upto N x
unfolding le
le_upto nan a (upto h) t = absurd a
le_upto (inf true) a (upto h) t = absurd (true≢false a)
le_upto (inf false) a (upto h) t = absurd t
le_upto (fin true m e) a (upto h) t = absurd (true≢false a)
le_upto {N} (fin false m e) a (upto {m = n} {e = d} h) t =
    let k = or-le (m * up e * down d) (n * up d * down e) t in
    upto (through (m * up e) (n * up d) (down e) (down d) N (down_pos d) k h)

-- a / c is no larger than p / q, which is rounded to N or less
round_below : {N : ℕ} (s : Bool) (a c p q : ℕ) → 0 < c → 0 < q → a * q ≤ p * c → Upto N (round binary32 false p q)
    → Within N (round binary32 s a c)
round_below {N} s a c p q C Q h u = go s
  where
    plain : Within N (round binary32 false a c)
    plain = upto_within (le_upto _ (round_signed binary32 false a c) u (round_mono binary32 a c p q C Q h))

    go : (s : Bool) → Within N (round binary32 s a c)
    go false = plain
    go true = rw round_neg (within_neg plain)

-- a float of the size a / c, which is at most N
value_upto : (x : Float) (a c N : ℕ) → HasValue x false a c → 0 < c → a ≤ N * c → Upto N x
value_upto nan a c N v C h = absurd v
value_upto (inf s) a c N v C h = absurd v
value_upto (fin true m e) a c N v C h = absurd (true≢false v.0)
value_upto (fin false m e) a c N v C h =
    upto (through (m * up e) a (down e) c N C (le_of_eq v.1) h)

-- N is rounded to N or less
pub Exact : ℕ → Type 0
Exact N = Upto N (round binary32 false N 1)

pub exact : (N : ℕ) → N ≤ 2 ^ 24 → Exact N
unfolding Exact
exact N h = value_upto _ N 1 N (round_whole binary32 false N h) (lit≤ tt) (le_of_eq (sym (mul-one N)))

pub exact_u32 : Exact (2 ^ 32)
unfolding Exact round
exact_u32 = upto (lit≤ tt)

round_within : (s : Bool) (a c N : ℕ) → Exact N → 0 < c → a ≤ N * c → Within N (round binary32 s a c)
unfolding Exact
round_within s a c N x C h = round_below s a c N 1 C (lit≤ tt) (rw mul-one h) x

-- ---- sums and differences

sum-within : (s : Bool) (a : ℕ) (t : Bool) (b c N : ℕ) → Exact N → 0 < c
    → (T (beq s t) → a + b ≤ N * c) → a ≤ b + N * c → b ≤ a + N * c → Within N (sum binary32 s a t b c)
unfolding sum
sum-within s a t b c N x C f g h = go (beq s t) (ltb a b) f
  where
    go : (u v : Bool) → (T u → a + b ≤ N * c)
        → Within N (cond u (round binary32 s (a + b) c)
        (cond v (round binary32 t (b - a) c) (round binary32 (s && ltb b a) (a - b) c)))
    go true v f = round_within s (a + b) c N x C (f tt)
    go false true f = round_within t (b - a) c N x C (omega arith)
    go false false f = round_within (s && ltb b a) (a - b) c N x C (omega arith)

pub add-within : {M N : ℕ} {x y : Float} → M + N ≤ 2 ^ 24 → Within M x → Within N y → Within (M + N) (x ⊕ y)
unfolding add
add-within {M} {N} l (within {s = s} {m = m} {e = e} h) (within {s = t} {m = n} {e = d} k) =
    let g = joined (m * up e) (n * up d) (down e) (down d) h k in
    sum-within s (m * up e * down d) t (n * up d * down e) (down e * down d) (M + N) (exact (M + N) l)
    (mul-pos (down_pos e) (down_pos d)) (λ _. g) (omega arith) (omega arith)
  where
    joined : (a b p q : ℕ) → a ≤ M * p → b ≤ N * q → a * q + b * p ≤ (M + N) * (p * q)
    joined a b p q h k = omega (arith, mul-le-mul_right q h, mul-le-mul_right p k)

pub sub_within : {M N : ℕ} {x y : Float} → M + N ≤ 2 ^ 24 → Within M x → Within N y → Within (M + N) (x ⊖ y)
unfolding sub
sub_within l h k = add-within l h (within_neg k)

-- x - 1 and 1 - x
pub from_one : {x : Float} → Upto 2 x → Within 1 (x ⊖ f1)
unfolding sub of_bits
from_one (upto {m = m} {e = e} h) =
    sum-within false (m * up e * 1) true (1 * 1 * down e) (down e * 1) 1 (exact 1 (lit≤ tt)) (omega (arith, down_pos e))
    (λ z. absurd z) (omega arith) (omega arith)

pub to_one : {x : Float} → Upto 1 x → Upto 1 (f1 ⊖ x)
unfolding sub sum of_bits
to_one (upto {m = m} {e = e} h) =
    let a = 1 * 1 * down e in
    let b = m * up e * 1 in
    let p = down_pos e in
    let x = exact 1 (lit≤ tt) in
    to_upto (sum-within false a true b (1 * down e) 1 x (omega arith) (λ z. absurd z) (omega arith) (omega arith))
    (rw (le-ltb a b (omega arith)) (round_signed binary32 false (a - b) (1 * down e)))

-- ---- products

pub mul-within : {M N : ℕ} {x y : Float} → M * N ≤ 2 ^ 24 → Within M x → Within N y → Within (M * N) (x ⊗ y)
unfolding mul
mul-within {M} {N} l (within {s = s} {m = m} {e = e} h) (within {s = t} {m = n} {e = d} k) =
    round_within (unlike s t) (m * up e * (n * up d)) (down e * down d) (M * N) (exact (M * N) l)
    (mul-pos (down_pos e) (down_pos d)) (le_trans (mul-le-mul h k) (le_of_eq (mul-mul-mul_comm M (down e) N (down d))))

mul_signed : {M N : ℕ} {x y : Float} → Upto M x → Upto N y → Signed false (x ⊗ y)
unfolding mul
mul_signed (upto {m = m} {e = e} h) (upto {m = n} {e = d} k) =
    round_signed binary32 false (m * up e * (n * up d)) (down e * down d)

pub mul_upto : {M N : ℕ} {x y : Float} → M * N ≤ 2 ^ 24 → Upto M x → Upto N y → Upto (M * N) (x ⊗ y)
mul_upto l h k = to_upto (mul-within l (upto_within h) (upto_within k)) (mul_signed h k)

-- no NaN, whatever the size of x
pub mul-number : {N : ℕ} (x : Float) {y : Float} → finite x ≡ true → Within N y → is_nan (x ⊗ y) ≡ false
unfolding mul
mul-number nan f h = absurd (true≢false (sym f))
mul-number (inf s) f h = absurd (true≢false (sym f))
mul-number (fin s m e) f (within {s = t} {m = n} {e = d} h) =
    signed_number (unlike s t) _ (round_signed binary32 (unlike s t) (m * up e * (n * up d)) (down e * down d))

-- the smallest float is 2 ^ -149: the size of another is a number of these, m times a power of two
shift : (e : ℤ) → down e ≤ 2 ^ 149 → (j : ℕ) × (up e * 2 ^ 149 ≡ 2 ^ j * down e)
shift (pos k) h = (k + 149, sym (mul-one (2 ^ (k + 149)) ∙ pow-add 2 k 149))
shift (negsuc k) h =
    let p = pow-lt {i = 149} {j = 150} (lit< tt) in
    let l : suc k ≤ 149 = le_of_suc-le-suc (lt_of_not-le (λ g. not-le_of_lt (lt_of_lt_of_le p (pow_mono g)) h)) in
    let j = 149 - suc k in
    (j, one-mul (2 ^ 149) ∙ ap (λ (z : ℕ). 2 ^ z) (sym (back 149 (suc k) l)) ∙ pow-add 2 j (suc k))

-- the size of a float that binary32 holds is rounded to itself
own_value : (s : Bool) (m : ℕ) (e : ℤ) → T (fits binary32 (fin s m e))
    → HasValue (round binary32 false (m * up e) (down e)) false (m * up e) (down e)
unfolding fits
own_value s zero e t =
    round_exact binary32 false (0 * up e) (down e) 0 0 (down_pos e) (lit≤ tt) (lit≤ tt) (simp zero-mul)
own_value s (suc m) e t =
    let x = eqb (suc m % 2) 1 in
    let y = ltb (suc m) (2 ^ 24) in
    let z = leb (down e) (2 ^ 149) in
    let w = ltb (suc m * up e) (2 ^ 128 * down e) in
    let f = and_l (x && y && z) w t in
    let b = shift e (leb→le (down e) (2 ^ 149) (and_r (x && y) z f)) in
    let j = b.0 in
    let v : suc m * up e * 2 ^ 149 ≡ suc m * 2 ^ j * down e =
    mul_assoc (suc m) (up e) (2 ^ 149) ∙ ap (λ (k : ℕ). suc m * k) b.1 ∙ sym (mul_assoc (suc m) (2 ^ j) (down e)) in
    let a = ltb→lt (suc m) (2 ^ 24) (and_r x y (and_l (x && y) z f)) in
    let c = ltb→lt (suc m * up e) (2 ^ 128 * down e) (and_r (x && y && z) w t) in
    let g = rw v at (mul-lt-mul_of_pos_right c (pow_pos 149)) in
    let r = le_of_eq (mul_right_comm (2 ^ 128) (down e) (2 ^ 149)) in
    round_exact binary32 false (suc m * up e) (down e) (suc m) j (down_pos e) a
    (lt_of_mul-lt-mul_right (down e) (lt_of_lt_of_le g r)) v

-- finite, where the other factor is at most 1
pub mul_finite : (x : Float) {y : Float} → T (fits binary32 x) → finite x ≡ true → Within 1 y → finite (x ⊗ y) ≡ true
unfolding mul
mul_finite nan f g h = absurd (true≢false (sym g))
mul_finite (inf s) f g h = absurd (true≢false (sym g))
mul_finite (fin s m e) f g (within {s = t} {m = n} {e = d} h) =
    let a = m * up e in
    let c = down e in
    let C = down_pos e in
    within_finite
    (round_below (unlike s t) (a * (n * up d)) (c * down d) a c (mul-pos C (down_pos d)) C
    (scaled a (n * up d) c (down d) h) (value_upto _ a c a (own_value s m e f) C (times a c C)))
  where
    scaled : (x y e d : ℕ) → y ≤ 1 * d → x * y * e ≤ x * (e * d)
    scaled x y e d h = omega (arith, mul-le-mul_right (x * e) h)

-- ---- quotients

pub div-within : {N : ℕ} {x y : Float} → Exact N → Under N x y → Within N (x ⊘ y)
unfolding div
div-within {N} x (under {s = s} {m = m} {e = e} {t = t} {n = n} {d = d} p h) =
    let C = mul-pos (mul-pos p (up_pos d)) (down_pos e) in
    rw (ne_eqb n 0 (omega arith)) (round_within (unlike s t) (m * up e * down d) (n * up d * down e) N x C h)

pub by_least : {N : ℕ} {x y : Float} → Within N x → Least y → Under N x y
by_least {N} (within {m = m} {e = e} h) (least {m = n} {e = d} p k) =
    under p (le_trans (mul-le-mul h k) (le_of_eq (turned N (down e) (n * up d))))
  where
    turned : (a b c : ℕ) → a * b * c ≡ a * (c * b)
    turned a b c = simp (mul_assoc, mul_comm)

div_signed : {M N K : ℕ} {x y : Float} → Upto M x → Upto N y → Under K x y → Signed false (x ⊘ y)
unfolding div
div_signed (upto {m = m} {e = e} h) (upto {m = n} {e = d} k) (under p q) =
    rw (ne_eqb n 0 (omega arith)) (round_signed binary32 false (m * up e * down d) (n * up d * down e))

over_zero : {x : Float} → Least x → is_nan (x ⊘ f0) ≡ false
unfolding div is_nan of_bits
over_zero (least {m = m} p h) = rw (ne_eqb m 0 (omega arith))

zero-le : (t : Bool) (d : ℤ) → le (fin t 0 d) f0 ≡ true
unfolding le of_bits
zero-le true d = simp zero-mul
zero-le false d = simp zero-mul

-- no NaN, where y is finite and above 0
pub div-number : (x y : Float) → finite x ≡ true → finite y ≡ true → le y f0 ≡ false → is_nan (x ⊘ y) ≡ false
unfolding div
div-number nan y f g h = absurd (true≢false (sym f))
div-number (inf s) y f g h = absurd (true≢false (sym f))
div-number (fin s m e) nan f g h = absurd (true≢false (sym g))
div-number (fin s m e) (inf t) f g h = absurd (true≢false (sym g))
div-number (fin s m e) (fin t zero d) f g h = absurd (true≢false (sym (zero-le t d) ∙ h))
div-number (fin s m e) (fin t (suc n) d) f g h =
    let c = suc n * up d * down e in
    rw (ne_eqb (suc n) 0 (omega arith))
    (signed_number (unlike s t) _ (round_signed binary32 (unlike s t) (m * up e * down d) c))

-- ---- whole numbers as floats, and the quotient of two

pub whole_within : (N n : ℕ) → Exact N → n ≤ N → Within N (nearest n)
unfolding of_int
whole_within N n x h = round_within false n 1 N x (lit≤ tt) (rw mul-one h)

whole_upto : (n : ℕ) → n ≤ 2 ^ 32 → Upto (2 ^ 32) (nearest n)
unfolding of_int
whole_upto n h = to_upto (whole_within (2 ^ 32) n exact_u32 h) (round_signed binary32 false n 1)

le_least : {N : ℕ} {x : Float} → Upto N x → T (le (round binary32 false 1 1) x) → Least x
unfolding le round
le_least (upto {m = m} {e = e} h) t =
    let k : down e ≤ m * up e = omega (arith, or-le (1 * 1 * down e) (m * up e * 1) t) in
    least (first m (up e) (omega (arith, down_pos e))) k
  where
    first : (a b : ℕ) → 0 < a * b → 0 < a
    first zero b h = absurd (omega arith)
    first (suc a) b h = omega arith

whole_least : (n : ℕ) → 1 ≤ n → n ≤ 2 ^ 32 → Least (nearest n)
unfolding of_int
whole_least n h k = le_least (whole_upto n k) (round_mono binary32 1 1 n 1 (lit≤ tt) (lit≤ tt) (omega arith))

le_under : {M N : ℕ} {x y : Float} → Upto M x → Upto N y → Least y → T (le x y) → Under 1 x y
unfolding le
le_under (upto {m = m} {e = e} h) (upto {m = n} {e = d} k) (least p l) t =
    let o = or-le (m * up e * down d) (n * up d * down e) t in
    let g : m * up e * down d ≤ 1 * (n * up d * down e) = omega arith in under p g

pub ratio_upto : (x n : ℕ) → x ≤ n → 1 ≤ n → n ≤ 2 ^ 32 → Upto 1 (ratio x n)
unfolding of_int
ratio_upto x n h k l =
    let a = whole_upto x (omega arith) in
    let b = whole_upto n l in
    let r = le_under a b (whole_least n k l) (round_mono binary32 x 1 n 1 (lit≤ tt) (lit≤ tt) (omega arith)) in
    to_upto (div-within (exact 1 (lit≤ tt)) r) (div_signed a b r)

-- x / 2 ^ 32
pub scaled_upto : (x : ℕ) → x ≤ 2 ^ 32 → Upto 1 (scaled x)
unfolding of_int of_bits round
scaled_upto x h = ratio_upto x (2 ^ 32) h (lit≤ tt) (lit≤ tt)

and_false : (b : Bool) → (b && false) ≡ false
and_false true = refl
and_false false = refl

-- a NaN where both are 0, and only there
pub ratio_nan : (p n : ℕ) → p ≤ 2 ^ 32 → n ≤ 2 ^ 32 → is_nan (ratio p n) ≡ (eqb p 0 && eqb n 0)
ratio_nan zero zero h k = unfold of_int div is_nan round in refl
ratio_nan (suc p) zero h k =
    let l = whole_least (suc p) (omega arith) h in
    rw (ne_eqb (suc p) 0 (omega arith)) (unfold of_int round of_bits in over_zero l)
ratio_nan p (suc n) h k =
    let u = by_least (whole_within (2 ^ 32) p exact_u32 h) (whole_least (suc n) (omega arith) k) in
    rw (ne_eqb (suc n) 0 (omega arith), and_false) (within-number (div-within exact_u32 u))

-- ---- the comparisons of floats

le-or : (a b : ℕ) → a ≤ b → (ltb a b || (eqb a b && true)) ≡ true
le-or a b h = go (eq-or-lt_of_le h)
  where
    go : (a ≡ b) ⊎ (a < b) → (ltb a b || (eqb a b && true)) ≡ true
    go (inl e) = rw (le-ltb a b (le_of_eq (sym e)), eq-eqb a b e)
    go (inr l) = rw (lt-ltb a b l)

pub upto_ge : {N : ℕ} {x : Float} → Upto N x → le f0 x ≡ true
unfolding le of_bits
upto_ge (upto {m = m} {e = e} h) = le-or (0 * 1 * down e) (m * up e * 1) (omega arith)

pub upto_le : {x : Float} → Upto 1 x → le x f1 ≡ true
unfolding le of_bits
upto_le (upto {m = m} {e = e} h) = le-or (m * up e * 1) (1 * 1 * down e) (omega arith)

-- at least 0, or -0.0, and below one half
pub half-within : (x : Float) → T (le f0 x) → T (lt x f½) → Within 1 x
unfolding le lt of_bits
half-within nan a b = absurd b
half-within (inf true) a b = absurd a
half-within (inf false) a b = absurd b
half-within (fin true m e) a b =
    let z = eqb→eq (0 * 1 * down e) (m * up e * 1) (and_l (eqb (0 * 1 * down e) (m * up e * 1)) _ a) in
    let k : m * up e ≤ 1 * down e = omega arith in within k
half-within (fin false m e) a b =
    let l = ltb→lt (m * up e * 2) (1 * 1 * down e) b in
    let k : m * up e ≤ 1 * down e = omega arith in within k

-- ---- bit patterns

-- of a float that binary32 holds: a NaN's where the float is a NaN
pub pattern : (x : Float) → T (fits binary32 x) → nan_bits binary32 (to_bits binary32 x) ≡ is_nan x
pattern x h = nan_bits_is binary32 (to_bits binary32 x) ∙ ap is_nan (of_bits-to_bits binary32 x h)
