-- Laws of words laid out as bytes. Assumes nothing.
use Rattle.std.proofs.Common.{◌≡◌, ℕ, zero, suc, ◌+◌, ◌-◌, ◌*◌, ◌/◌, ◌%◌, ◌^◌, ◌<◌, ◌≤◌, List, [], ◌∷◌, ◌++◌, length, get_or, take, Result, Ok, Err, IsOk, sym, refl, ap, ◌∙◌, ap₂, append_assoc, append-nil, mod-eq_of_lt, zero-add, add-one, arith, length-append, length-take-le, take-suc, ext_get_or}
use lib.Seq.{sets, length-sets}
use Rattle.bits.specs.Field.{field, capped}
use Rattle.bits.specs.Put.{bytes_of, put_says, word_put_answer, word_put}
use Rattle.bits.specs.Verdict.{accepted, needs}
use Rattle.bits.specs.declared.refusals.FillError.{FillError}
use Rattle.bits.specs.declared.refusals.FillError.TheVariants as F
use Rattle.bits.proofs.VerdictLaws.{within_yes}
use Rattle.bits.proofs.FieldLaws.{field-append, field-append-right, field-byte, field_lt, field_split, field_window}
use Rattle.bits.proofs.ByteLaws.{length_bytes, field-bytes_of, append-lt, bytes_lt}
use Rattle.bits.proofs.PutLaws.{word_put_yes}
use Rattle.payload.specs.Words.{word_bytes}
use Rattle.payload.proofs.FillLaws.{sets-append}

pub length-word_bytes : (l : List ℕ) → length (word_bytes l) ≡ 4 * length l
unfolding word_bytes
length-word_bytes [] = refl
length-word_bytes (x ∷ l) = length-append (bytes_of 4 x) (word_bytes l) ∙ omega (arith, length_bytes 4 x, length-word_bytes l)

-- one word more at the end
pub word_bytes-snoc : (l : List ℕ) (x : ℕ) → word_bytes (l ++ (x ∷ [])) ≡ word_bytes l ++ bytes_of 4 x
unfolding word_bytes
word_bytes-snoc [] x = append-nil (bytes_of 4 x)
word_bytes-snoc (y ∷ l) x = ap (λ (m : List ℕ). bytes_of 4 y ++ m) (word_bytes-snoc l x) ∙ sym (append_assoc (bytes_of 4 y) (word_bytes l) (bytes_of 4 x))

-- word i, read back as a field
pub field-word_bytes : (l : List ℕ) (i : ℕ) → i < length l → get_or l i 0 < 2 ^ 32 → field (word_bytes l) (32 * i) 32 ≡ get_or l i 0
unfolding word_bytes
field-word_bytes [] i h b = absurd (omega arith)
field-word_bytes (x ∷ l) zero h b = field-append (bytes_of 4 x) (word_bytes l) 0 32 (omega (arith, length_bytes 4 x)) ∙ field-bytes_of 4 x ∙ mod-eq_of_lt b
field-word_bytes (x ∷ l) (suc i) h b =
    let e : 32 * suc i ≡ 8 * length (bytes_of 4 x) + 32 * i = omega (arith, length_bytes 4 x) in
    ap (λ (p : ℕ). field (bytes_of 4 x ++ word_bytes l) p 32) e
    ∙ field-append-right (bytes_of 4 x) (word_bytes l) (32 * i) 32
    ∙ field-word_bytes l i (omega arith) b

-- every element is a byte
pub word_bytes-lt : (l : List ℕ) (k : ℕ) → get_or (word_bytes l) k 0 < 256
unfolding word_bytes
word_bytes-lt [] k = omega arith
word_bytes-lt (x ∷ l) k = append-lt (bytes_of 4 x) (word_bytes l) (λ j. bytes_lt 4 x j) (word_bytes-lt l) k

-- a word that has room is put
pub put_ok : (r : Result (Unit {0}) (FillError ℕ)) (s : List ℕ) (p : ℕ) → put_says r ≡ word_put_answer s p → p + 4 ≤ length s → IsOk r
put_ok (Ok u) s p e h = refl
put_ok (Err f) s p e h =
    let w : put_says (Err f) ≡ accepted tt = e ∙ within_yes (p + 4) (length s) tt (needs (capped (p + 4) ∷ [])) h in
    absurd (no f w)
  where
    no : (f : FillError ℕ) → put_says (Err f) ≡ accepted tt → ⊥
    no (F.Needs n) w = cc
    no (F.Refused k) w = cc

-- one word more in a buffer that holds the first i of them
pub put_next : (d l ws : List ℕ) (i : ℕ) → i < length ws → 4 * length ws ≤ length d → l ≡ sets d 0 (word_bytes (take i ws)) → word_put l (4 * i) (get_or ws i 0) ≡ sets d 0 (word_bytes (take (i + 1) ws))
put_next d l ws i h r e =
    let b = word_bytes (take i ws) in
    let m : length b ≡ 4 * i = length-word_bytes (take i ws) ∙ ap (λ (k : ℕ). 4 * k) (length-take-le i ws (omega arith)) in
    let n : length l ≡ length d = ap length e ∙ length-sets d 0 b in
    let z : 4 * i ≡ 0 + length b = omega arith in
    word_put_yes l (4 * i) (get_or ws i 0) (omega arith)
    ∙ ap₂ (λ (x : List ℕ) (k : ℕ). sets x k (bytes_of 4 (get_or ws i 0))) e z
    ∙ sym (sets-append b (bytes_of 4 (get_or ws i 0)) d 0)
    ∙ ap (λ (x : List ℕ). sets d 0 x) (sym (word_bytes-snoc (take i ws) (get_or ws i 0)) ∙ ap word_bytes (sym (take-suc ws i 0 h) ∙ ap (λ (k : ℕ). take k ws) (sym (add-one i))))

pub put-none : (d ws : List ℕ) → d ≡ sets d 0 (word_bytes (take 0 ws))
unfolding word_bytes
put-none d ws = refl

-- ---- bytes that are these words

-- the words from bit p on
abbrev pub AreWords : List ℕ → ℕ → List ℕ → Type 0
AreWords s p [] = Unit {0}
AreWords s p (x ∷ l) = (field s p 32 ≡ x) × AreWords s (p + 32) l

word_at_lem : (s : List ℕ) (p : ℕ) (l : List ℕ) → AreWords s p l → (i : ℕ) → i < length l → field s (p + 32 * i) 32 ≡ get_or l i 0
word_at_lem s p [] w i h = absurd (omega arith)
word_at_lem s p (x ∷ l) w zero h = ap (λ (q : ℕ). field s q 32) (omega arith) ∙ w.0
word_at_lem s p (x ∷ l) w (suc i) h = ap (λ (q : ℕ). field s q 32) (omega arith) ∙ word_at_lem s (p + 32) l w.1 i (omega arith)

-- byte k of a list of bytes, out of the word that holds it
byte_in : (s : List ℕ) (k : ℕ) → get_or s k 0 < 256 → get_or s k 0 ≡ field s (32 * (k / 4)) 32 / 2 ^ (24 - 8 * (k % 4)) % 2 ^ 8
byte_in s k b =
    let a : ℕ = 8 * (k % 4) in
    let r : ℕ = 24 - 8 * (k % 4) in
    let m : 32 ≡ a + 8 + r = omega arith in
    let p : 32 * (k / 4) + a ≡ 8 * k = omega arith in
    sym (ap (λ (w : ℕ). field s (32 * (k / 4)) w / 2 ^ r % 2 ^ 8) m ∙ field_window s (32 * (k / 4)) a 8 r ∙ ap (λ (q : ℕ). field s q 8) p ∙ field-byte s k b)

-- bytes whose words are l are the bytes of l
pub same_words : (s l : List ℕ) → ((k : ℕ) → get_or s k 0 < 256) → length s ≡ 4 * length l → AreWords s 0 l → s ≡ word_bytes l
same_words s l b n w =
    ext_get_or 0 s (word_bytes l) (n ∙ sym (length-word_bytes l)) (λ k h.
    let i : ℕ = k / 4 in
    let z : 0 + 32 * i ≡ 32 * i = zero-add (32 * i) in
    let x : field s (32 * i) 32 ≡ get_or l i 0 = ap (λ (q : ℕ). field s q 32) (sym z) ∙ word_at_lem s 0 l w i (omega arith) in
    let f : get_or l i 0 < 2 ^ 32 = rw (← x) (field_lt s (32 * i) 32) in
    byte_in s k (b k)
    ∙ ap (λ (v : ℕ). v / 2 ^ (24 - 8 * (k % 4)) % 2 ^ 8) (x ∙ sym (field-word_bytes l i (omega arith) f))
    ∙ sym (byte_in (word_bytes l) k (word_bytes-lt l k)))

-- ---- the first word of a payload of kind 0 or 1

-- the first byte of a word that is 0
pub first_byte : (s : List ℕ) → field s 0 32 ≡ 0 → field s 0 8 ≡ 0
first_byte s e = sym (field_window s 0 0 8 24) ∙ ap (λ (x : ℕ). x / 2 ^ 24 % 2 ^ 8) e

-- version and free bytes 0: the first word is 0
pub first_word : (s : List ℕ) → field s 0 8 ≡ 0 → field s 8 24 ≡ 0 → field s 0 32 ≡ 0
first_word s v f = field_split s 0 8 24 ∙ ap₂ (λ (x y : ℕ). x * 2 ^ 24 + y) v f
