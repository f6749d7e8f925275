-- Laws of packed fields: what stands in them, that nothing else is packed alike, and how a writer goes on.
use Rattle.std.proofs.Common.{◌≡◌, ℕ, zero, suc, ◌+◌, ◌*◌, ◌/◌, ◌%◌, ◌^◌, ◌<◌, List, [], ◌∷◌, ◌++◌, length, get_or, sym, refl, ap, ◌∙◌, subst, ap₂, add-zero, add_assoc, mod-eq_of_lt, mul_assoc, add-mul, div-one, arith, pow-add, shl_lt, shr-shr}
use lib.Arith.{digits_lt}
use lib.Pow.{shl-shr, high, low}
use Rattle.bits.specs.Field.{field}
use Rattle.bits.specs.Put.{bytes_of}
use Rattle.bits.proofs.ByteLaws.{bytes_lt, field-bytes_of, length_bytes}
use Rattle.bits.proofs.FieldLaws.{field_inj, field_lt, field_split, field-zero}
use Rattle.payload.specs.Packed.{Field, Fits, Laid, bits, fields_number, packed, spare}

-- ---- one list after another

pub bits-append : (a b : List Field) → bits (a ++ b) ≡ bits a + bits b
unfolding bits
bits-append [] b = omega arith
bits-append ((w, v) ∷ a) b = ap (λ (n : ℕ). w + n) (bits-append a b) ∙ sym (add_assoc w (bits a) (bits b))

pub fits_append : (a b : List Field) → Fits a → Fits b → Fits (a ++ b)
fits_append [] b f g = g
fits_append (x ∷ a) b f g = (f.0, fits_append a b f.1 g)

pub laid_append : (s : List ℕ) (p : ℕ) (a b : List Field) → Laid s p a → Laid s (p + bits a) b → Laid s p (a ++ b)
unfolding bits
laid_append s p [] b f g = rw add-zero at g
laid_append s p ((w, v) ∷ a) b f g = (f.0, laid_append s (p + w) a b f.1 (subst (λ (q : ℕ). Laid s q b) (omega arith) g))

pub laid_left : (s : List ℕ) (p : ℕ) (a b : List Field) → Laid s p (a ++ b) → Laid s p a
laid_left s p [] b f = tt
laid_left s p ((w, v) ∷ a) b f = (f.0, laid_left s (p + w) a b f.1)

pub laid_right : (s : List ℕ) (p : ℕ) (a b : List Field) → Laid s p (a ++ b) → Laid s (p + bits a) b
unfolding bits
laid_right s p [] b f = rw add-zero f
laid_right s p ((w, v) ∷ a) b f = subst (λ (q : ℕ). Laid s q b) (omega arith) (laid_right s (p + w) a b f.1)

-- ---- the number

-- what came before stands above
pub number_above : (n : ℕ) (l : List Field) → fields_number n l ≡ n * 2 ^ bits l + fields_number 0 l
unfolding fields_number bits
number_above n [] = omega arith
number_above n ((w, v) ∷ l) =
    let B : ℕ = 2 ^ bits l in
    number_above (n * 2 ^ w + v) l
    ∙ ap (λ (x : ℕ). x + fields_number 0 l) (add-mul (n * 2 ^ w) v B ∙ ap (λ (x : ℕ). x + v * B) (mul_assoc n (2 ^ w) B ∙ ap (λ (x : ℕ). n * x) (sym (pow-add 2 w (bits l)))))
    ∙ add_assoc (n * 2 ^ (w + bits l)) (v * B) (fields_number 0 l)
    ∙ ap (λ (x : ℕ). n * 2 ^ (w + bits l) + x) (sym (ap (λ (x : ℕ). fields_number x l) (omega arith) ∙ number_above v l))

pub number_lt : (l : List Field) → Fits l → fields_number 0 l < 2 ^ bits l
unfolding fields_number bits
number_lt [] f = omega arith
number_lt ((w, v) ∷ l) f =
    let e : fields_number v l ≡ v * 2 ^ bits l + fields_number 0 l = number_above v l in
    let h : v * 2 ^ bits l + fields_number 0 l < 2 ^ w * 2 ^ bits l = digits_lt f.0 (number_lt l f.1) in
    let z : 0 * 2 ^ w + v ≡ v = omega arith in
    rw (z, e, pow-add 2 w (bits l)) h

-- two numbers with the same high part and low part
digits_unique : (a b x y k : ℕ) → x < 2 ^ k → y < 2 ^ k → a * 2 ^ k + x ≡ b * 2 ^ k + y → (a ≡ b) × (x ≡ y)
digits_unique a b x y k hx hy e =
    (sym (high a k hx) ∙ ap (λ (n : ℕ). n / 2 ^ k) e ∙ high b k hy, sym (low a k hx) ∙ ap (λ (n : ℕ). n % 2 ^ k) e ∙ low b k hy)

-- fields that stand in s make its number
pub laid_number : (s : List ℕ) (p : ℕ) (l : List Field) → Laid s p l → field s 0 (p + bits l) ≡ fields_number (field s 0 p) l
unfolding bits fields_number
laid_number s p [] f = ap (field s 0) (omega arith)
laid_number s p ((w, v) ∷ l) f =
    let e : field s 0 (p + w) ≡ field s 0 p * 2 ^ w + v = field_split s 0 p w ∙ ap (λ (x : ℕ). field s 0 p * 2 ^ w + x) (ap (λ (q : ℕ). field s q w) (omega arith) ∙ f.0) in
    ap (field s 0) (omega arith) ∙ laid_number s (p + w) l f.1 ∙ ap (λ (x : ℕ). fields_number x l) e

-- and where the number is theirs, they stand there
pub number_laid : (s : List ℕ) (p n : ℕ) (l : List Field) → Fits l → field s 0 (p + bits l) ≡ fields_number n l → (field s 0 p ≡ n) × Laid s p l
unfolding bits fields_number
number_laid s p n [] f e = (ap (field s 0) (omega arith) ∙ e, tt)
number_laid s p n ((w, v) ∷ l) f e =
    let ih = number_laid s (p + w) (n * 2 ^ w + v) l f.1 (ap (field s 0) (omega arith) ∙ e) in
    let d = digits_unique (field s 0 p) n (field s (0 + p) w) v w (field_lt s (0 + p) w) f.0 (sym (field_split s 0 p w) ∙ ih.0) in
    (d.0, (ap (λ (q : ℕ). field s q w) (omega arith) ∙ d.1, ih.1))

-- ---- the bytes

pub packed-length : (l : List Field) → length (packed l) ≡ (bits l + 7) / 8
unfolding packed
packed-length l = length_bytes _ _

whole : (n : ℕ) → 8 * ((n + 7) / 8) ≡ n + spare n
whole n = omega arith

below : (x n : ℕ) → x < 2 ^ n → x * 2 ^ spare n < 2 ^ (8 * ((n + 7) / 8))
below x n h = rw (whole n) (shl_lt n (spare n) h)

-- the fields stand in what is packed
pub packed_laid : (l : List Field) → Fits l → Laid (packed l) 0 l
unfolding packed
packed_laid l f =
    let B : ℕ = bits l in
    let x : ℕ = fields_number 0 l * 2 ^ spare B in
    let s : List ℕ = bytes_of ((B + 7) / 8) x in
    let a : field s 0 (B + spare B) ≡ x = ap (field s 0) (sym (whole B)) ∙ field-bytes_of ((B + 7) / 8) x ∙ mod-eq_of_lt (below (fields_number 0 l) B (number_lt l f)) in
    let b : field s 0 B ≡ fields_number 0 l =
    sym (high (field s 0 B) (spare B) (field_lt s (0 + B) (spare B))) ∙ ap (λ (y : ℕ). y / 2 ^ spare B) (sym (field_split s 0 B (spare B)) ∙ a) ∙ shl-shr (fields_number 0 l) (spare B) in
    (number_laid s 0 0 l f (ap (field s 0) (omega arith) ∙ b)).1

-- and bytes in which they stand, and then zero bits to the end of the last byte, are what is packed
pub laid_packed : (s : List ℕ) (l : List Field) → ((k : ℕ) → get_or s k 0 < 256) → length s ≡ (bits l + 7) / 8 → Laid s 0 l → field s (bits l) (spare (bits l)) ≡ 0 → s ≡ packed l
unfolding packed
laid_packed s l b e f z =
    let B : ℕ = bits l in
    let n : ℕ = (B + 7) / 8 in
    let x : ℕ = fields_number 0 l * 2 ^ spare B in
    let t : List ℕ = bytes_of n x in
    let i : field s 0 B ≡ fields_number 0 l = ap (field s 0) (omega arith) ∙ laid_number s 0 l f ∙ ap (λ (y : ℕ). fields_number y l) (field-zero s 0) in
    let h : fields_number 0 l < 2 ^ B = subst (λ (y : ℕ). y < 2 ^ B) i (field_lt s 0 B) in
    let j : field s 0 (8 * n) ≡ x =
    ap (field s 0) (whole B) ∙ field_split s 0 B (spare B) ∙ ap₂ (λ (u v : ℕ). u * 2 ^ spare B + v) i (ap (λ (q : ℕ). field s q (spare B)) (omega arith) ∙ z) ∙ add-zero x in
    field_inj s t (e ∙ sym (length_bytes n x)) b (bytes_lt n x)
    (ap (λ (k : ℕ). field s 0 (8 * k)) e ∙ j ∙ sym (mod-eq_of_lt (below (fields_number 0 l) B h)) ∙ sym (field-bytes_of n x) ∙ ap (λ (k : ℕ). field t 0 (8 * k)) (sym (length_bytes n x)))

-- ---- a writer: the bits that wait are the first field

-- fields that make one number of bits are packed alike
pub packed_same : (l m : List Field) → bits l ≡ bits m → fields_number 0 l ≡ fields_number 0 m → packed l ≡ packed m
unfolding packed
packed_same l m e f = rw (e, f)

-- one field more waits
pub packed_join : (k a w v : ℕ) (l : List Field) → packed ((k, a) ∷ (w, v) ∷ l) ≡ packed ((k + w, a * 2 ^ w + v) ∷ l)
unfolding bits fields_number
packed_join k a w v l =
    let z : 0 * 2 ^ k + a ≡ a = omega arith in
    let y : 0 * 2 ^ (k + w) + (a * 2 ^ w + v) ≡ a * 2 ^ w + v = omega arith in
    packed_same ((k, a) ∷ (w, v) ∷ l) ((k + w, a * 2 ^ w + v) ∷ l) (sym (add_assoc k w (bits l))) (rw (z, y))

-- the first of n + 1 bytes
pub bytes_first : (n x : ℕ) → bytes_of (suc n) x ≡ x / 2 ^ (8 * n) % 256 ∷ bytes_of n x
unfolding bytes_of
bytes_first zero x = ap (λ (y : ℕ). y % 256 ∷ []) (sym (div-one x))
bytes_first (suc n) x =
    let e : 8 * suc n ≡ 8 + 8 * n = omega arith in
    ap (λ (l : List ℕ). l ++ (x % 256 ∷ [])) (bytes_first n (x / 256))
    ∙ ap (λ (y : ℕ). y % 256 ∷ (bytes_of n (x / 256) ++ (x % 256 ∷ []))) (shr-shr x 8 (8 * n) ∙ ap (λ (y : ℕ). x / 2 ^ y) (sym e))

-- n bytes of a number are its low ones
pub bytes_low : (n h x y : ℕ) → x ≡ h * 2 ^ (8 * n) + y → bytes_of n x ≡ bytes_of n y
unfolding bytes_of
bytes_low zero h x y e = refl
bytes_low (suc n) h x y e =
    let m : 2 ^ (8 * suc n) ≡ 2 ^ (8 * n) * 256 = ap (λ (k : ℕ). 2 ^ k) (omega arith) ∙ pow-add 2 (8 * n) 8 in
    let P : ℕ = h * 2 ^ (8 * n) in
    let f : x ≡ P * 256 + y = e ∙ ap (λ (z : ℕ). z + y) (ap (λ (z : ℕ). h * z) m ∙ sym (mul_assoc h (2 ^ (8 * n)) 256)) in
    let g : x / 256 ≡ P + y / 256 = omega arith in
    let i : x % 256 ≡ y % 256 = omega arith in
    ap₂ (λ (l : List ℕ) (b : ℕ). l ++ (b ∷ [])) (bytes_low n h (x / 256) (y / 256) g) i

-- a whole byte of those that wait goes out
pub packed_out : (k a b : ℕ) (l : List Field) → a < 2 ^ k → b < 256 → Fits l → packed ((8 + k, b * 2 ^ k + a) ∷ l) ≡ b ∷ packed ((k, a) ∷ l)
unfolding packed bits fields_number
packed_out k a b l h i f =
    let B : ℕ = bits l in
    let n : ℕ = (k + B + 7) / 8 in
    let r : ℕ = spare (k + B) in
    let c : (8 + k + B + 7) / 8 ≡ suc n = omega arith in
    let d : spare (8 + k + B) ≡ r = omega arith in
    let N : ℕ = fields_number 0 l in
    let y : ℕ = fields_number (0 * 2 ^ k + a) l * 2 ^ r in
    let g : fields_number (0 * 2 ^ (8 + k) + (b * 2 ^ k + a)) l * 2 ^ r ≡ b * 2 ^ (8 * n) + y =
    ap (λ (z : ℕ). z * 2 ^ r) (ap (λ (z : ℕ). fields_number z l) (omega arith) ∙ number_above (b * 2 ^ k + a) l)
    ∙ regroup b a k B r N
    ∙ ap₂ (λ (u v : ℕ). b * 2 ^ u + v) (omega arith) (ap (λ (z : ℕ). z * 2 ^ r) (sym (number_above a l) ∙ ap (λ (z : ℕ). fields_number z l) (omega arith))) in
    let u : y < 2 ^ (8 * n) = subst (λ (z : ℕ). z < 2 ^ (8 * n)) (ap (λ (z : ℕ). fields_number z l * 2 ^ r) (omega arith)) (below (fields_number a l) (k + B) (subst (λ (z : ℕ). z < 2 ^ (k + B)) (ap (λ (z : ℕ). fields_number z l) (omega arith)) (number_lt ((k, a) ∷ l) (h, f)))) in
    rw (d, c) (ap (λ (z : ℕ). bytes_of (suc n) z) g
    ∙ bytes_first n (b * 2 ^ (8 * n) + y)
    ∙ ap₂ (λ (z : ℕ) (t : List ℕ). z ∷ t) (ap (λ (z : ℕ). z % 256) (high b (8 * n) u) ∙ mod-eq_of_lt i) (bytes_low n b (b * 2 ^ (8 * n) + y) y refl))
  where
    regroup : (b a k B r N : ℕ) → ((b * 2 ^ k + a) * 2 ^ B + N) * 2 ^ r ≡ b * 2 ^ (k + B + r) + (a * 2 ^ B + N) * 2 ^ r
    regroup b a k B r N =
        ap (λ (z : ℕ). (z + N) * 2 ^ r) (add-mul (b * 2 ^ k) a (2 ^ B) ∙ ap (λ (z : ℕ). z + a * 2 ^ B) (mul_assoc b (2 ^ k) (2 ^ B) ∙ ap (λ (z : ℕ). b * z) (sym (pow-add 2 k B))))
        ∙ ap (λ (z : ℕ). z * 2 ^ r) (add_assoc (b * 2 ^ (k + B)) (a * 2 ^ B) N)
        ∙ add-mul (b * 2 ^ (k + B)) (a * 2 ^ B + N) (2 ^ r)
        ∙ ap (λ (z : ℕ). z + (a * 2 ^ B + N) * 2 ^ r) (mul_assoc b (2 ^ (k + B)) (2 ^ r) ∙ ap (λ (z : ℕ). b * z) (sym (pow-add 2 (k + B) r)))
