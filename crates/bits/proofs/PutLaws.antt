-- Laws of what was put into a buffer: it is read back, what stands before and after it stays, and the free bits are 0. Assumes nothing.
use Rattle.std.proofs.Common.{◌≡◌, ℕ, ◌+◌, ◌-◌, ◌*◌, ◌/◌, ◌%◌, ◌^◌, ◌<◌, ◌≤◌, Bool, true, false, cond, ◌&&◌, leb, List, ◌++◌, length, get_or, take, drop, sym, refl, ap, ◌∙◌, subst, ap₂, add_assoc, mod-eq_of_lt, mul_assoc, add-mul, arith, length-append, length-take-le, get_or-drop, get_or-append-add, pow_pos, pow-add, shl_lt, le-leb}
use lib.Seq.{sets, sets-eq, length-sets}
use lib.Arith.{digits_lt}
use lib.Pow.{shl-shr, high, low}
use borrow.Author.Tests.{lt-leb}
use Rattle.bits.specs.Field.{field}
use Rattle.bits.specs.Put.{bytes_of, word_put, touched, free, joined, bits_put, field_put}
use Rattle.bits.proofs.FieldLaws.{field_split, field-append, field-append-right, field-take, field_lt, field_window}
use Rattle.bits.proofs.ByteLaws.{length_bytes, field-bytes_of}

-- ---- a word

module _ (s : List ℕ) (p x : ℕ) where
  pub word_put_yes : p + 4 ≤ length s → word_put s p x ≡ sets s p (bytes_of 4 x)
  unfolding word_put
  word_put_yes h = simp (le-leb (p + 4) (length s) h)

  pub word_put_no : length s < p + 4 → word_put s p x ≡ s
  unfolding word_put
  word_put_no h = simp (lt-leb (p + 4) (length s) h)

  -- read back as a field it is the word
  pub field_word_put : p + 4 ≤ length s → x < 2 ^ 32 → field (word_put s p x) (8 * p) 32 ≡ x
  field_word_put h l =
      let head = take p s in
      let mid = bytes_of 4 x in
      let tail = drop (p + length mid) s in
      let m : length mid ≡ 4 = length_bytes 4 x in
      let n : length head ≡ p = length-take-le p s (omega arith) in
      let a : 8 * p ≡ 8 * length head + 0 = omega arith in
      ap (λ (t : List ℕ). field t (8 * p) 32) (word_put_yes h ∙ sets-eq mid s p (omega arith))
      ∙ field-append (head ++ mid) tail (8 * p) 32 (simp length-append (omega arith))
      ∙ ap (λ (q : ℕ). field (head ++ mid) q 32) a
      ∙ field-append-right head mid 0 32
      ∙ field-bytes_of 4 x
      ∙ mod-eq_of_lt l

-- ---- a field

pub cat_lt : (j k : ℕ) {a b : ℕ} → a < 2 ^ j → b < 2 ^ k → a * 2 ^ k + b < 2 ^ (j + k)
cat_lt j k {a} {b} h l = subst (λ (x : ℕ). a * 2 ^ k + b < x) (sym (pow-add 2 j k)) (digits_lt h l)

-- three runs of digits, grouped from the left: F, then K of o digits, v of w and r zeros
regroup : (F K v o w r : ℕ) → F * 2 ^ (o + w + r) + (K * 2 ^ w + v) * 2 ^ r ≡ ((F * 2 ^ o + K) * 2 ^ w + v) * 2 ^ r
regroup F K v o w r =
    ap (λ (x : ℕ). x + (K * 2 ^ w + v) * 2 ^ r) (ap (λ (x : ℕ). F * x) (pow-add 2 (o + w) r) ∙ sym (mul_assoc F (2 ^ (o + w)) (2 ^ r)))
    ∙ sym (add-mul (F * 2 ^ (o + w)) (K * 2 ^ w + v) (2 ^ r))
    ∙ ap (λ (x : ℕ). x * 2 ^ r)
    (ap (λ (x : ℕ). x + (K * 2 ^ w + v)) (ap (λ (x : ℕ). F * x) (pow-add 2 o w) ∙ sym (mul_assoc F (2 ^ o) (2 ^ w)))
    ∙ sym (add_assoc (F * 2 ^ o * 2 ^ w) (K * 2 ^ w) v)
    ∙ ap (λ (x : ℕ). x + v) (sym (add-mul (F * 2 ^ o) K (2 ^ w))))

module _ (s : List ℕ) (p w v : ℕ) (small : v < 2 ^ w) where
  pub joined_lt : joined s p w v < 2 ^ (8 * touched p w)
  joined_lt =
      let m : p % 8 + w + free p w ≡ 8 * touched p w = omega arith in
      subst (λ (k : ℕ). joined s p w v < 2 ^ k) m (shl_lt (p % 8 + w) (free p w) (cat_lt (p % 8) w (field_lt s (8 * (p / 8)) (p % 8)) small))

pub length-bits_put : (s : List ℕ) (p w v : ℕ) → length (bits_put s p w v) ≡ length s
unfolding bits_put
length-bits_put s p w v = length-sets s (p / 8) (bytes_of (touched p w) (joined s p w v))

module _ (s : List ℕ) (p w v : ℕ) (fits : p + w ≤ 8 * length s) where
  -- what stood before, the bytes touched, and what stood after
  pub parts : bits_put s p w v ≡ take (p / 8) s ++ bytes_of (touched p w) (joined s p w v) ++ drop (p / 8 + touched p w) s
  unfolding bits_put
  parts =
      let b = bytes_of (touched p w) (joined s p w v) in
      let m : length b ≡ touched p w = length_bytes (touched p w) (joined s p w v) in
      sets-eq b s (p / 8) (omega arith) ∙ ap (λ (k : ℕ). take (p / 8) s ++ b ++ drop (p / 8 + k) s) m

  -- bytes after the last one touched
  pub after_bits_put : (k : ℕ) → p / 8 + touched p w ≤ k → get_or (bits_put s p w v) k 0 ≡ get_or s k 0
  after_bits_put k h =
      let head = take (p / 8) s ++ bytes_of (touched p w) (joined s p w v) in
      let n : ℕ = p / 8 + touched p w in
      let m : length head ≡ n = simp (length-append, length_bytes) (ap (λ (x : ℕ). x + touched p w) (length-take-le (p / 8) s (omega arith))) in
      let e : k ≡ length head + (k - n) = omega arith in
      let f : n + (k - n) ≡ k = omega arith in
      ap (λ (t : List ℕ). get_or t k 0) parts
      ∙ ap (λ (j : ℕ). get_or (head ++ drop n s) j 0) e
      ∙ get_or-append-add head (drop n s) (k - n) 0
      ∙ get_or-drop n s (k - n) 0
      ∙ ap (λ (j : ℕ). get_or s j 0) f

  module _ (small : v < 2 ^ w) where
    -- all the bits up to the end of the last byte touched
    pub field_all : field (bits_put s p w v) 0 (p + w + free p w) ≡ (field s 0 p * 2 ^ w + v) * 2 ^ free p w
    field_all =
        let a : ℕ = p / 8 in
        let n : ℕ = touched p w in
        let r : ℕ = free p w in
        let head = take a s in
        let mid = bytes_of n (joined s p w v) in
        let tail = drop (a + n) s in
        let la : length head ≡ a = length-take-le a s (omega arith) in
        let lm : length mid ≡ n = length_bytes n (joined s p w v) in
        let m : p + w + r ≡ 8 * a + 8 * n = omega arith in
        let k : 8 * n ≡ p % 8 + w + r = omega arith in
        let q : p ≡ 8 * a + p % 8 = omega arith in
        ap₂ (λ (t : List ℕ) (x : ℕ). field t 0 x) parts m
        ∙ field_split ((head ++ mid) ++ tail) 0 (8 * a) (8 * n)
        ∙ ap₂ (λ (x y : ℕ). x * 2 ^ (8 * n) + y)
        (field-append (head ++ mid) tail 0 (8 * a) (simp length-append (omega arith)) ∙ field-append head mid 0 (8 * a) (omega arith) ∙ field-take s a 0 (8 * a) (omega arith))
        (field-append (head ++ mid) tail (0 + 8 * a) (8 * n) (simp length-append (omega arith))
        ∙ ap (λ (x : ℕ). field (head ++ mid) x (8 * n)) (omega arith) ∙ field-append-right head mid 0 (8 * n)
        ∙ field-bytes_of n (joined s p w v) ∙ mod-eq_of_lt (joined_lt s p w v small))
        ∙ ap (λ (x : ℕ). field s 0 (8 * a) * 2 ^ x + joined s p w v) k
        ∙ regroup (field s 0 (8 * a)) (field s (8 * a) (p % 8)) v (p % 8) w r
        ∙ ap (λ (x : ℕ). (x * 2 ^ w + v) * 2 ^ r) (ap (λ (x : ℕ). field s 0 (8 * a) * 2 ^ (p % 8) + field s x (p % 8)) (omega arith) ∙ sym (field_split s 0 (8 * a) (p % 8)) ∙ ap (λ (x : ℕ). field s 0 x) (sym q))

    -- what was put there is read back
    pub field_bits_put : field (bits_put s p w v) p w ≡ v
    field_bits_put =
        ap (λ (x : ℕ). field (bits_put s p w v) x w) (omega arith)
        ∙ sym (field_window (bits_put s p w v) 0 p w (free p w))
        ∙ ap (λ (x : ℕ). x / 2 ^ free p w % 2 ^ w) field_all
        ∙ ap (λ (x : ℕ). x % 2 ^ w) (shl-shr (field s 0 p * 2 ^ w + v) (free p w))
        ∙ low (field s 0 p) w small

    -- the rest of its last byte is 0
    pub free_bits_put : field (bits_put s p w v) (p + w) (free p w) ≡ 0
    free_bits_put =
        let t = bits_put s p w v in
        let r : ℕ = free p w in
        let z : 0 + (p + w) ≡ p + w = omega arith in
        let e : (field s 0 p * 2 ^ w + v) * 2 ^ r ≡ (field s 0 p * 2 ^ w + v) * 2 ^ r + 0 = omega arith in
        ap (λ (x : ℕ). field t x r) (sym z)
        ∙ sym (low (field t 0 (p + w)) r (field_lt t (0 + (p + w)) r))
        ∙ ap (λ (x : ℕ). x % 2 ^ r) (sym (field_split t 0 (p + w) r) ∙ field_all ∙ e)
        ∙ low (field s 0 p * 2 ^ w + v) r (pow_pos r)

    -- and what stood before it is as it was
    pub front_bits_put : field (bits_put s p w v) 0 p ≡ field s 0 p
    front_bits_put =
        let t = bits_put s p w v in
        let r : ℕ = free p w in
        sym (high (field t 0 p) w (field_lt t (0 + p) w))
        ∙ ap (λ (x : ℕ). x / 2 ^ w) (sym (field_split t 0 p w) ∙ sym (high (field t 0 (p + w)) r (field_lt t (0 + (p + w)) r)) ∙ ap (λ (x : ℕ). x / 2 ^ r) (sym (field_split t 0 (p + w) r) ∙ field_all) ∙ shl-shr (field s 0 p * 2 ^ w + v) r)
        ∙ high (field s 0 p) w small

    pub before_bits_put : (q u : ℕ) → q + u ≤ p → field (bits_put s p w v) q u ≡ field s q u
    before_bits_put q u h =
        let t = bits_put s p w v in
        let m : p ≡ q + u + (p - q - u) = omega arith in
        ap (λ (x : ℕ). field t x u) (omega arith)
        ∙ sym (field_window t 0 q u (p - q - u))
        ∙ ap (λ (x : ℕ). x / 2 ^ (p - q - u) % 2 ^ u) (ap (λ (x : ℕ). field t 0 x) (sym m) ∙ front_bits_put ∙ ap (λ (x : ℕ). field s 0 x) m)
        ∙ field_window s 0 q u (p - q - u)
        ∙ ap (λ (x : ℕ). field s x u) (omega arith)

module _ (s : List ℕ) (p w x : ℕ) where
  pub field_put_yes : w ≤ 32 → p + w ≤ 8 * length s → field_put s p w x ≡ bits_put s p w (x % 2 ^ w)
  unfolding field_put
  field_put_yes n h = simp (le-leb w 32 n, le-leb (p + w) (8 * length s) h)

  pub field_put_no : 8 * length s < p + w → field_put s p w x ≡ s
  unfolding field_put
  field_put_no h = go (leb w 32)
    where
      go : (b : Bool) → cond (b && leb (p + w) (8 * length s)) (bits_put s p w (x % 2 ^ w)) s ≡ s
      go true = simp (lt-leb (p + w) (8 * length s) h)
      go false = refl

  pub field_put_wide : 32 < w → field_put s p w x ≡ s
  unfolding field_put
  field_put_wide h = simp (lt-leb w 32 h)
