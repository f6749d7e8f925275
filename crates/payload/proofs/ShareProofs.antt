-- The quotient of two small whole numbers, held against 0 and one half. Assumes nothing.
use Rattle.std.proofs.Common.{◌≡◌, ℕ, ◌+◌, ◌*◌, ◌^◌, ◌<◌, ◌≤◌, Bool, true, false, not, ◌&&◌, ◌||◌, T, eqb, ltb, sym, refl, ap, ◌∙◌, true≢false, le_of_eq, le_of_lt, mul_assoc, mul_comm, mul-pos, mul-one, mul_left_comm, arith, eqb→eq, ltb→lt, nltb→le, le-ltb, lt-ltb, ne_eqb}
use lib.Ieee.{Float, nan, inf, fin, binary32, up, down, round, div, of_int, of_bits, le, lt}
use lib.Ieee.Exact.{HasValue}
use lib.Ieee.Back.{round_whole}
use lib.Ieee.Scale.{round_same}
use lib.Ieee.Order.{round_mono}
use lib.Ieee.Fits.{down_pos}
use lib.Ieee.Bits.{is_true}
use Rattle.payload.specs.Float.{f0, f½, ratio}
use Rattle.payload.specs.Cube.{share_usable}
use Rattle.payload.specs.ShareLaws.{ShareLaws}

or-le : (a b : ℕ) → T (ltb a b || (eqb a b && true)) → a ≤ b
or-le a b t = go (ltb a b) (eqb a b) (ltb→lt a b) (eqb→eq a b) t
  where
    go : (x y : Bool) → (T x → a < b) → (T y → a ≡ b) → T (x || (y && true)) → a ≤ b
    go true y f g t = le_of_lt (f tt)
    go false true f g t = le_of_eq (g tt)
    go false false f g t = absurd t

and_right : (x y : Bool) → T (x && y) → T y
and_right true y t = t
and_right false y t = absurd t

-- at most 16383 / 32768, so below one half
small : (x : Float) → T (le x (round binary32 false 16383 32768)) → lt x f½ ≡ true
unfolding le lt round of_bits
small nan t = absurd t
small (inf true) t = refl
small (inf false) t = absurd t
small (fin true m e) t = lt-ltb 0 (m * up e * 2 + 1 * 1 * down e) (omega (arith, down_pos e))
small (fin false m e) t = lt-ltb (m * up e * 2) (1 * 1 * down e) (omega (arith, down_pos e, or-le (m * up e * 32768) (16383 * 1 * down e) t))

large : (x : Float) → T (le (round binary32 false 1 2) x) → lt x f½ ≡ false
unfolding le lt round of_bits
large nan t = refl
large (inf true) t = absurd t
large (inf false) t = refl
large (fin true n d) t = absurd (omega (arith, down_pos d, eqb→eq (1 * 1 * down d) 0 (and_right (eqb (1 * 1 * down d) (n * up d * 2)) (eqb (1 * 1 * down d) 0) t)))
large (fin false n d) t = le-ltb (n * up d * 2) (1 * 1 * down d) (or-le (1 * 1 * down d) (n * up d * 2) t)

-- the quotient of two whole numbers that are floats exactly is rounded once
share_round : (p n : ℕ) → p ≤ 2 ^ 24 → n ≤ 2 ^ 24 → 0 < n → ratio p n ≡ round binary32 false p n
unfolding of_int div
share_round p n hp hn h0 = go (round binary32 false p 1) (round binary32 false n 1) (round_whole binary32 false p hp) (round_whole binary32 false n hn)
  where
    go : (x y : Float) → HasValue x false p 1 → HasValue y false n 1 → div binary32 x y ≡ round binary32 false p n
    go nan y a b = absurd a
    go (inf s) y a b = absurd a
    go (fin true m e) y a b = absurd (true≢false a.0)
    go (fin false m e) nan a b = absurd b
    go (fin false m e) (inf s) a b = absurd b
    go (fin false m e) (fin true k d) a b = absurd (true≢false b.0)
    go (fin false m e) (fin false k d) a b =
        let x : m * up e ≡ p * down e = sym (mul-one (m * up e)) ∙ a.1 in
        let y : k * up d ≡ n * down d = sym (mul-one (k * up d)) ∙ b.1 in
        let y0 : 0 < n * down d = mul-pos h0 (down_pos d) in
        let k0 : (k ≡ 0 → ⊥) = λ z. (let w : k * up d ≡ 0 * up d = ap (λ (i : ℕ). i * up d) z in omega arith) in
        let b0 : 0 < k * up d * down e = mul-pos (omega arith) (down_pos e) in
        let q : m * up e * down d * n ≡ p * (k * up d * down e) = rw (x, y) (simp (mul_assoc, mul_comm, mul_left_comm)) in
        rw (ne_eqb k 0 k0) (round_same binary32 false (m * up e * down d) (k * up d * down e) p n b0 h0 q)

-- the share of a padding in a face: not NaN and at least 0, and below one half exactly where twice the padding is below the face
share_ge : (p n : ℕ) → p ≤ 4096 → n ≤ 16384 → 0 < n → le f0 (ratio p n) ≡ true
unfolding of_bits
share_ge p n hp hn h0 = rw (share_round p n (omega arith) (omega arith) h0) (is_true _ (unfold round in round_mono binary32 0 1 p n (omega arith) h0 (omega arith)))

share_half : (p n : ℕ) → p ≤ 4096 → n ≤ 16384 → 0 < n → lt (ratio p n) f½ ≡ ltb (2 * p) n
share_half p n hp hn h0 = rw (share_round p n (omega arith) (omega arith) h0) (go (ltb (2 * p) n) (ltb→lt (2 * p) n) (nltb→le (2 * p) n))
  where
    go : (b : Bool) → (T b → 2 * p < n) → (T (not b) → n ≤ 2 * p) → lt (round binary32 false p n) f½ ≡ b
    go true f g = let l : 2 * p < n = f tt in small (round binary32 false p n) (round_mono binary32 p n 16383 32768 h0 (omega arith) (omega arith))
    go false f g = let l : n ≤ 2 * p = g tt in large (round binary32 false p n) (round_mono binary32 1 2 p n (omega arith) h0 (omega arith))

pub share_laws : ShareLaws
unfolding share_usable
share_laws = record { usable = λ p n hp h0 hn. rw (share_ge p n hp hn h0) (share_half p n hp hn h0) }
