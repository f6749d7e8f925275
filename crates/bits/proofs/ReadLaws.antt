-- Laws of reads, for an arbitrary width: the bits held by five bytes, and one field and two as bits read one after the other. Assumes nothing.
use Rattle.std.proofs.Common.{◌≡◌, ℕ, zero, suc, ◌+◌, ◌-◌, ◌*◌, ◌/◌, ◌%◌, ◌^◌, ◌<◌, ◌≤◌, min, ◌⊎◌, List, length, get_or, sym, refl, ap, ◌∙◌, ap₂, inl, inr, div-one, arith, le-leb}
use lib.Pow.{high}
use borrow.Author.Tests.{lt-leb}
use Rattle.bits.specs.Verdict.{Verdict, accepted, declined, within, width_limited, and_then, mapped}
use Rattle.bits.specs.Field.{bit_at, field, room, held_bits, whole_bytes, bytes_to, gathered}
use Rattle.bits.specs.Read.{field_at, two_at, bit_on, bit_by_bit, two_bit_by_bit, gathered_at, two_gathered_at, first_gathered}
use Rattle.bits.specs.Internal.{BitsBefore}
use Rattle.bits.proofs.VerdictLaws.{le-or-lt, clash, within_yes, within_no, within_value, width_yes, width_no, width_value, then_yes, then_no}
use Rattle.bits.proofs.FieldLaws.{field_lt, field_split, field_window, field-five, bytes_are}

-- ---- the bits that five bytes hold before bit q

-- as the program takes them: the bytes before byte e without the k bits after q
pub held_is : (s : List ℕ) (q x e k : ℕ) → x ≡ field s (8 * (e - 5)) (8 * min e 5) → q + k ≡ 8 * e → k < 8 → x / 2 ^ k ≡ field s (q - held_bits q) (held_bits q)
held_is s q x e k f n l =
    let size : 8 * min e 5 ≡ held_bits q + k = omega arith in
    let from : 8 * (e - 5) ≡ q - held_bits q = omega arith in
    ap (λ (x : ℕ). x / 2 ^ k) (f ∙ ap (λ (x : ℕ). field s (8 * (e - 5)) x) size ∙ field_split s (8 * (e - 5)) (held_bits q) k)
    ∙ high (field s (8 * (e - 5)) (held_bits q)) k (field_lt s (8 * (e - 5) + held_bits q) k)
    ∙ ap (λ (x : ℕ). field s x (held_bits q)) from

-- what the program gathers: x out of at most five bytes before byte e, without the k bits after q
gathered_by : (s : List ℕ) (q x e k : ℕ) → x ≡ whole_bytes s (e - 5) (min e 5) → x ≡ field s (8 * (e - 5)) (8 * min e 5) → q + k ≡ 8 * e → k < 8
    → BitsBefore s q (x / 2 ^ k)
gathered_by s q x e k f g n l =
    let end : e ≡ bytes_to q = omega arith in
    let after : k ≡ 8 * bytes_to q - q = omega arith in
    record {
      bytes = ap (λ (y : ℕ). y / 2 ^ k) f ∙ ap₂ (λ (i j : ℕ). whole_bytes s (i - 5) (min i 5) / 2 ^ j) end after;
      bits = held_is s q x e k g n l;
    }

-- five bytes, each by its place
pub five-gathered : (s : List ℕ) (q x e k : ℕ) → 5 ≤ e → ((i : ℕ) → get_or s i 0 < 256)
    → x ≡ (get_or s (e - 5) 0 * 2 ^ 24 + get_or s (e - 4) 0 * 2 ^ 16 + get_or s (e - 3) 0 * 2 ^ 8 + get_or s (e - 2) 0) * 2 ^ 8 + get_or s (e - 1) 0
    → q + k ≡ 8 * e
    → k < 8
    → BitsBefore s q (x / 2 ^ k)
five-gathered s q x e k h b f n l = gathered_by s q x e k (is ∙ sym (bytes_are s (e - 5) (min e 5) b)) is n l
  where
    is : x ≡ field s (8 * (e - 5)) (8 * min e 5)
    is =
        let n : 40 ≡ 8 * min e 5 = omega arith in
        let e₁ : e - 4 ≡ e - 5 + 1 = omega arith in
        let e₂ : e - 3 ≡ e - 5 + 2 = omega arith in
        let e₃ : e - 2 ≡ e - 5 + 3 = omega arith in
        let e₄ : e - 1 ≡ e - 5 + 4 = omega arith in
        f
        ∙ (λ i. (get_or s (e - 5) 0 * 2 ^ 24 + get_or s (e₁ i) 0 * 2 ^ 16 + get_or s (e₂ i) 0 * 2 ^ 8 + get_or s (e₃ i) 0) * 2 ^ 8 + get_or s (e₄ i) 0)
        ∙ sym (field-five s (e - 5) b)
        ∙ ap (λ (w : ℕ). field s (8 * (e - 5)) w) n

-- all bytes before byte e, where there are fewer
pub fewer_gathered : (s : List ℕ) (q x e k : ℕ) → e < 5 → (x ≡ whole_bytes s 0 e) × (x ≡ field s 0 (8 * e)) → q + k ≡ 8 * e → k < 8 → BitsBefore s q (x / 2 ^ k)
fewer_gathered s q x e k h f n l =
    let from : 0 ≡ e - 5 = omega arith in
    let size : e ≡ min e 5 = omega arith in
    gathered_by s q x e k (f.0 ∙ ap₂ (λ (u v : ℕ). whole_bytes s u v) from size) (f.1 ∙ ap₂ (λ (u v : ℕ). field s (8 * u) (8 * v)) from size) n l

-- and in any bytes what is gathered is what they hold
pub gathered_is : (s : List ℕ) → ((i : ℕ) → get_or s i 0 < 256) → (q : ℕ) → BitsBefore s q (gathered s q)
gathered_is s b q =
    record {
      bytes = refl;
      bits = held_is s q (whole_bytes s (bytes_to q - 5) (min (bytes_to q) 5)) (bytes_to q) (8 * bytes_to q - q) (bytes_are s (bytes_to q - 5) (min (bytes_to q) 5) b) (omega arith) (omega arith);
    }

-- a field that ends r bits before q
pub field_held : (s : List ℕ) (p w r : ℕ) → w + r ≤ held_bits (p + w + r) → field s (p + w + r - held_bits (p + w + r)) (held_bits (p + w + r)) / 2 ^ r % 2 ^ w ≡ field s p w
field_held s p w r h =
    let q : ℕ = p + w + r in
    let a : ℕ = held_bits q - w - r in
    let size : held_bits q ≡ a + w + r = omega arith in
    let from : q - held_bits q + a ≡ p = omega arith in
    ap (λ (x : ℕ). field s (q - held_bits q) x / 2 ^ r % 2 ^ w) size
    ∙ field_window s (q - held_bits q) a w r
    ∙ ap (λ (x : ℕ). field s x w) from

-- up to 33 bits before q, whatever q is
pub taken : (s : List ℕ) (p w r q x v : ℕ) → w + r ≤ 33 → q ≡ p + w + r → BitsBefore s q x → v ≡ x / 2 ^ r % 2 ^ w → v ≡ field s p w
taken s p w r q x v h e f g =
    g
    ∙ ap (λ (x : ℕ). x / 2 ^ r % 2 ^ w) (f.bits ∙ ap (λ (k : ℕ). field s (k - held_bits k) (held_bits k)) e)
    ∙ field_held s p w r (omega arith)

-- and the last of them
pub taken_last : (s : List ℕ) (p w q x v : ℕ) → w ≤ 32 → q ≡ p + w → BitsBefore s q x → v ≡ x % 2 ^ w → v ≡ field s p w
taken_last s p w q x v h e f g = taken s p w 0 q x v (omega arith) (omega arith) f (g ∙ ap (λ (y : ℕ). y % 2 ^ w) (sym (div-one x)))

-- ---- what a read says

module _ (s : List ℕ) (p w : ℕ) where
  -- what is said where the width is at most 32
  abbrev one-said : Verdict (ℕ × ℕ)
  one-said = within w (room s - p) (field s p w, p + w) (declined 3)

  abbrev two_said : Verdict (ℕ × ℕ × ℕ)
  two_said = within (2 * w) (room s - p) (field s p w, field s (p + w) w, p + 2 * w) (declined 3)

  pub one_wide : 32 < w → field_at s p w ≡ declined 16
  one_wide h = width_no w one-said h

  pub two_wide : 32 < w → two_at s p w ≡ declined 16
  two_wide h = width_no w two_said h

  module _ (n : w ≤ 32) where
    pub one_whole : w ≤ room s - p → field_at s p w ≡ accepted (field s p w, p + w)
    one_whole h = width_yes w one-said n ∙ within_yes w (room s - p) (field s p w, p + w) (declined 3) h

    pub one_short : room s - p < w → field_at s p w ≡ declined 3
    one_short h = width_yes w one-said n ∙ within_no w (room s - p) (field s p w, p + w) (declined 3) h

    pub two_whole : 2 * w ≤ room s - p → two_at s p w ≡ accepted (field s p w, field s (p + w) w, p + 2 * w)
    two_whole h = width_yes w two_said n ∙ within_yes (2 * w) (room s - p) (field s p w, field s (p + w) w, p + 2 * w) (declined 3) h

    pub two_short : room s - p < 2 * w → two_at s p w ≡ declined 3
    two_short h = width_yes w two_said n ∙ within_no (2 * w) (room s - p) (field s p w, field s (p + w) w, p + 2 * w) (declined 3) h

-- the answer of two fields that were taken
pub two_taken : (s : List ℕ) (p w u v q : ℕ) → w ≤ 32 → 2 * w ≤ room s - p → u ≡ field s p w → v ≡ field s (p + w) w → q ≡ p + 2 * w
    → accepted (u, v, q) ≡ two_at s p w
two_taken s p w u v q n h e f g = (λ i. accepted (e i, f i, g i)) ∙ sym (two_whole s p w n h)

-- ---- bit by bit

module _ (s : List ℕ) (p : ℕ) where
  on_yes : (v q : ℕ) → 1 ≤ room s - q → bit_on s (v, q) ≡ accepted (v * 2 + bit_at s q, q + 1)
  unfolding bit_on
  on_yes v q h = within_yes 1 (room s - q) (v * 2 + bit_at s q, q + 1) (declined 3) h

  on_no : (v q : ℕ) → room s - q < 1 → bit_on s (v, q) ≡ declined 3
  unfolding bit_on
  on_no v q h = within_no 1 (room s - q) (v * 2 + bit_at s q, q + 1) (declined 3) h

  pub bits_yes : (w : ℕ) → w ≤ room s - p → bit_by_bit s p w ≡ accepted (field s p w, p + w)
  unfolding bit_by_bit field
  bits_yes zero h = let e : p ≡ p + 0 = omega arith in ap (λ (q : ℕ). accepted (0, q)) e
  bits_yes (suc w) h =
      let e : p + w + 1 ≡ p + suc w = omega arith in
      then_yes (bit_by_bit s p w) (bit_on s) (field s p w, p + w) (bits_yes w (omega arith))
      ∙ on_yes (field s p w) (p + w) (omega arith)
      ∙ ap (λ (q : ℕ). accepted (field s p w * 2 + bit_at s (p + w), q)) e

  -- the bit that is missing is this one, or one before it
  stop : (w : ℕ) → room s - p < suc w → (room s - p < w → bit_by_bit s p w ≡ declined 3) → (w ≤ room s - p) ⊎ (room s - p < w) → and_then (bit_by_bit s p w) (bit_on s) ≡ declined 3
  stop w h before (inl l) = then_yes (bit_by_bit s p w) (bit_on s) (field s p w, p + w) (bits_yes w l) ∙ on_no (field s p w) (p + w) (omega arith)
  stop w h before (inr l) = then_no (bit_by_bit s p w) (bit_on s) 3 (before l)

  pub bits_no : (w : ℕ) → room s - p < w → bit_by_bit s p w ≡ declined 3
  unfolding bit_by_bit
  bits_no zero h = absurd (omega arith)
  bits_no (suc w) h = stop w h (bits_no w) (le-or-lt w (room s - p))

module _ (s : List ℕ) (p w : ℕ) where
  pub one_by_bits : field_at s p w ≡ width_limited w (bit_by_bit s p w)
  one_by_bits = ap (λ (v : Verdict (ℕ × ℕ)). width_limited w v) (go (le-or-lt w (room s - p)))
    where
      go : (w ≤ room s - p) ⊎ (room s - p < w) → one-said s p w ≡ bit_by_bit s p w
      go (inl h) = within_yes w (room s - p) (field s p w, p + w) (declined 3) h ∙ sym (bits_yes s p w h)
      go (inr h) = within_no w (room s - p) (field s p w, p + w) (declined 3) h ∙ sym (bits_no s p w h)

  abbrev pair : ℕ → ℕ × ℕ → ℕ × ℕ × ℕ
  pair a v = (a, v.0, v.1)

  abbrev second : ℕ × ℕ → Verdict (ℕ × ℕ × ℕ)
  second u = mapped (λ v. (u.0, v.0, v.1)) (bit_by_bit s u.1 w)

  first_yes : w ≤ room s - p → and_then (bit_by_bit s p w) second ≡ second (field s p w, p + w)
  first_yes h = then_yes (bit_by_bit s p w) second (field s p w, p + w) (bits_yes s p w h)

  second_yes : 2 * w ≤ room s - p → second (field s p w, p + w) ≡ accepted (field s p w, field s (p + w) w, p + 2 * w)
  second_yes h =
      let e : p + w + w ≡ p + 2 * w = omega arith in
      then_yes (bit_by_bit s (p + w) w) (λ v. accepted (pair (field s p w) v)) (field s (p + w) w, p + w + w) (bits_yes s (p + w) w (omega arith))
      ∙ ap (λ (q : ℕ). accepted (field s p w, field s (p + w) w, q)) e

  second_no : w ≤ room s - p → room s - p < 2 * w → second (field s p w, p + w) ≡ declined 3
  second_no h l = then_no (bit_by_bit s (p + w) w) (λ v. accepted (pair (field s p w) v)) 3 (bits_no s (p + w) w (omega arith))

  both_no : room s - p < 2 * w → (w ≤ room s - p) ⊎ (room s - p < w) → and_then (bit_by_bit s p w) second ≡ declined 3
  both_no l (inl h) = first_yes h ∙ second_no h l
  both_no l (inr h) = then_no (bit_by_bit s p w) second 3 (bits_no s p w h)

  pub two_by_bits : two_at s p w ≡ width_limited w (two_bit_by_bit s p w)
  two_by_bits = ap (λ (v : Verdict (ℕ × ℕ × ℕ)). width_limited w v) (go (le-or-lt (2 * w) (room s - p)))
    where
      go : (2 * w ≤ room s - p) ⊎ (room s - p < 2 * w) → two_said s p w ≡ and_then (bit_by_bit s p w) second
      go (inl h) = within_yes (2 * w) (room s - p) (field s p w, field s (p + w) w, p + 2 * w) (declined 3) h ∙ sym (first_yes (omega arith) ∙ second_yes h)
      go (inr h) = within_no (2 * w) (room s - p) (field s p w, field s (p + w) w, p + 2 * w) (declined 3) h ∙ sym (both_no h (le-or-lt w (room s - p)))

-- ---- gathered from whole bytes

module _ (s : List ℕ) (b : (i : ℕ) → get_or s i 0 < 256) (p w : ℕ) (n : w ≤ 32) where
  last_gathered : (q : ℕ) → q ≡ p + w → gathered s q % 2 ^ w ≡ field s p w
  last_gathered q e = taken_last s p w q (gathered s q) (gathered s q % 2 ^ w) n e (gathered_is s b q) refl

  first_gathered_law : first_gathered s p w ≡ field s p w
  first_gathered_law = go (le-or-lt w 16)
    where
      go : (w ≤ 16) ⊎ (16 < w) → first_gathered s p w ≡ field s p w
      go (inl h) = simp (le-leb w 16 h) (taken s p w w (p + 2 * w) (gathered s (p + 2 * w)) (gathered s (p + 2 * w) / 2 ^ w % 2 ^ w) (omega arith) (omega arith) (gathered_is s b (p + 2 * w)) refl)
      go (inr h) = simp (lt-leb w 16 h) (last_gathered (p + w) refl)

module _ (s : List ℕ) (b : (i : ℕ) → get_or s i 0 < 256) (p w : ℕ) where
  one_is : (w ≤ 32) ⊎ (32 < w) → gathered_at s p w ≡ field_at s p w
  one_is (inl n) = ap (λ (v : ℕ). width_limited w (within w (room s - p) (v, p + w) (declined 3))) (last_gathered s b p w n (p + w) refl)
  one_is (inr h) = width_no w (within w (room s - p) (gathered s (p + w) % 2 ^ w, p + w) (declined 3)) h ∙ sym (one_wide s p w h)

  two_is : (w ≤ 32) ⊎ (32 < w) → two_gathered_at s p w ≡ two_at s p w
  two_is (inl n) =
      ap₂ (λ (u v : ℕ). width_limited w (within (2 * w) (room s - p) (u, v, p + 2 * w) (declined 3)))
      (first_gathered_law s b p w n)
      (last_gathered s b (p + w) w n (p + 2 * w) (omega arith))
  two_is (inr h) =
      width_no w (within (2 * w) (room s - p) (first_gathered s p w, gathered s (p + 2 * w) % 2 ^ w, p + 2 * w) (declined 3)) h
      ∙ sym (two_wide s p w h)

  pub one_gathered : gathered_at s p w ≡ width_limited w (bit_by_bit s p w)
  one_gathered = one_is (le-or-lt w 32) ∙ one_by_bits s p w

  pub two_gathered : two_gathered_at s p w ≡ width_limited w (two_bit_by_bit s p w)
  two_gathered = two_is (le-or-lt w 32) ∙ two_by_bits s p w

-- ---- a field that is known to be there

-- what the read of it gave
pub known_value : (s : List ℕ) (p w v q : ℕ) → accepted (v, q) ≡ field_at s p w → v ≡ field s p w
known_value s p w v q e =
    ap (λ (x : ℕ × ℕ). x.0) (sym (within_value w (room s - p) (field s p w, p + w) 3 (v, q) (width_value w (one-said s p w) (v, q) (sym e))).1)

-- it cannot have been refused
pub known_whole : (s : List ℕ) (p w : ℕ) → length s ≤ 67108864 → w ≤ 32 → p + w ≤ 8 * length s → (k : ℕ) → declined k ≡ field_at s p w → ⊥
known_whole s p w l n h k e =
    let yes = one_whole s p w n (omega arith) in
    clash (cc)
