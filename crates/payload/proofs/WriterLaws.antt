-- Bits on their way into a buffer: a field that waits, four bytes that go out, and the end. Assumes nothing.
use Rattle.std.proofs.Common.{◌≡◌, ℕ, zero, suc, ◌+◌, ◌-◌, ◌*◌, ◌/◌, ◌%◌, ◌^◌, ◌<◌, ◌≤◌, List, [], ◌∷◌, ◌++◌, length, Result, Ok, Err, sym, refl, ap, ◌∙◌, subst, ap₂, append_assoc, append-nil, add-zero, add_assoc, mod-lt, mod-eq_of_lt, mul_assoc, add-mul, arith, pow_pos, pow-add, shr_lt, le-leb}
use Rattle.std.specs.Int.{to_be_bytes, w32}
use Rattle.std.specs.Result.{IsOk}
use borrow.Rule.Slice.PartMut.{put_mid}
use lib.Arith.{digits_lt}
use lib.Pow.{shl-shr, split, high, low, mod-pow-add, mod-mod-pow}
use lib.Pow as Pow
use lib.Seq.{sets, length-sets}
use Rattle.bits.specs.Field.{field}
use Rattle.bits.specs.Put.{bits_put, bytes_of, field_put, field_put_answer, put_says}
use Rattle.bits.specs.Verdict.{accepted, width_limited, within}
use Rattle.bits.specs.declared.refusals.FillError.{FillError}
use Rattle.bits.specs.declared.refusals.FillError.TheVariants as F
use Rattle.bits.proofs.ByteLaws.{length_bytes}
use Rattle.bits.proofs.FieldLaws.{field-zero}
use Rattle.bits.proofs.PutLaws.{cat_lt, field_put_yes}
use Rattle.payload.specs.Packed.{Field, Fits, bits, fields_number, packed, spare}
use Rattle.payload.specs.InternalWriting.{Advances, Ready, outcome, waiting}
use Rattle.payload.specs.declared.mesh.write.BitWriter.{BitWriter}
use Rattle.payload.proofs.FillLaws.{sets-append}
use Rattle.payload.proofs.PartLaws.{part-put}
use Rattle.payload.proofs.PackedLaws.{bits-append, bytes_first, bytes_low, fits_append, packed_join, packed_out}

-- ---- steps

pub advances_here : {out : List ℕ} {from : BitWriter} {l : List Field} → Ready out from l → Advances out from l out from l
advances_here r = record { few = r.few; place = refl; long = refl; same = λ rest f. refl }

pub advances_on : {o p q : List ℕ} {a b c : BitWriter} {l m n : List Field} → Advances o a l p b m → Advances p b m q c n → Advances o a l q c n
advances_on g h =
    record { few = h.few; place = h.place ∙ g.place; long = h.long ∙ g.long; same = λ rest f. h.same rest f ∙ g.same rest f }

-- fields that are left stay left
pub advances_more : {o p : List ℕ} {a b : BitWriter} {l : List Field} (k : List Field) → Fits k → Advances o a l p b [] → Advances o a (l ++ k) p b k
unfolding bits
advances_more {o} {p} {a} {b} {l} k f g =
    record {
      few = g.few;
      place = omega (arith, g.place, bits-append l k);
      long = g.long;
      same = λ rest h. g.same (k ++ rest) (fits_append k rest f h) ∙ ap (outcome o a) (sym (append_assoc l k rest));
    }

-- what is left is ready, where the whole was
pub still_ready : {o p : List ℕ} {a b : BitWriter} {l m : List Field} → Ready o a l → Fits m → Advances o a l p b m → Ready p b m
still_ready r f g = record { few = g.few; fits = f; room = omega (arith, g.place, g.long, r.room) }

-- ---- a part of the way: from a start, with l left

abbrev pub Underway : List ℕ → BitWriter → List Field → List ℕ → BitWriter → List Field → Type 0
Underway O A L o a l = Ready o a l × Advances O A L o a l

pub on_start : {o : List ℕ} {a : BitWriter} {l : List Field} → Ready o a l → Underway o a l o a l
on_start r = (r, advances_here r)

-- the front of what is left can be written, and once it is, the rest is left
fits_left : (k l : List Field) → Fits (k ++ l) → Fits k
fits_left [] l f = tt
fits_left (x ∷ k) l f = (f.0, fits_left k l f.1)

fits_right : (k l : List Field) → Fits (k ++ l) → Fits l
fits_right [] l f = f
fits_right (x ∷ k) l f = fits_right k l f.1

pub head_ready : {o : List ℕ} {a : BitWriter} (k l : List Field) → Ready o a (k ++ l) → Ready o a k
head_ready k l r = record { few = r.few; fits = fits_left k l r.fits; room = omega (arith, r.room, bits-append k l) }

pub on_step : {O o p : List ℕ} {A a b : BitWriter} {L : List Field} (k l : List Field) → Underway O A L o a (k ++ l) → Advances o a k p b [] → Underway O A L p b l
on_step k l (r, g) s =
    let h = advances_more l (fits_right k l r.fits) s in
    (still_ready r (fits_right k l r.fits) h, advances_on g h)

pub first_ready : {o : List ℕ} {a : BitWriter} (x : Field) (l : List Field) → Ready o a (x ∷ l) → Ready o a (x ∷ [])
first_ready x l r = head_ready (x ∷ []) l r

pub on_first : {O o p : List ℕ} {A a b : BitWriter} {L : List Field} (x : Field) (l : List Field) → Underway O A L o a (x ∷ l) → Advances o a (x ∷ []) p b [] → Underway O A L p b l
on_first x l w s = on_step (x ∷ []) l w s

pub on_last : {O o p : List ℕ} {A a b : BitWriter} {L k : List Field} → Underway O A L o a k → Advances o a k p b [] → Advances O A L p b []
on_last (r, g) s = advances_on g s

pub with_nil : {O o : List ℕ} {A a : BitWriter} {L k : List Field} → Underway O A L o a k → Underway O A L o a (k ++ [])
with_nil {O} {o} {A} {a} {L} {k} w = subst (Underway O A L o a) (sym (append-nil k)) w

-- ---- bytes that go out together

pub packed_bytes : (n k a f : ℕ) (l : List Field) → a < 2 ^ k → f < 2 ^ (8 * n) → Fits l → packed ((8 * n + k, f * 2 ^ k + a) ∷ l) ≡ bytes_of n f ++ packed ((k, a) ∷ l)
unfolding bytes_of
packed_bytes zero k a f l h i g =
    let e : 8 * 0 + k ≡ k = omega arith in
    let z : f ≡ 0 = omega arith in
    let y : f * 2 ^ k + a ≡ a = rw z (omega arith) in
    rw (e, y)
packed_bytes (suc n) k a f l h i g =
    let b : ℕ = f / 2 ^ (8 * n) in
    let d : ℕ = f % 2 ^ (8 * n) in
    let e : 8 * suc n + k ≡ 8 + (8 * n + k) = omega arith in
    let m : 8 * suc n ≡ 8 + 8 * n = omega arith in
    let s : b * 2 ^ (8 * n) + d ≡ f = split f (8 * n) in
    let dl : d < 2 ^ (8 * n) = mod-lt f (pow_pos (8 * n)) in
    let bl : b < 256 = shr_lt 8 (8 * n) (subst (λ (x : ℕ). f < 2 ^ x) m i) in
    let v : f * 2 ^ k + a ≡ b * 2 ^ (8 * n + k) + (d * 2 ^ k + a) =
    ap (λ (x : ℕ). x * 2 ^ k + a) (sym s)
    ∙ ap (λ (x : ℕ). x + a) (add-mul (b * 2 ^ (8 * n)) d (2 ^ k) ∙ ap (λ (x : ℕ). x + d * 2 ^ k) (mul_assoc b (2 ^ (8 * n)) (2 ^ k) ∙ ap (λ (x : ℕ). b * x) (sym (pow-add 2 (8 * n) k))))
    ∙ add_assoc (b * 2 ^ (8 * n + k)) (d * 2 ^ k) a in
    let w : d * 2 ^ k + a < 2 ^ (8 * n + k) = subst (λ (x : ℕ). d * 2 ^ k + a < x) (sym (pow-add 2 (8 * n) k)) (digits_lt dl h) in
    ap₂ (λ (x y : ℕ). packed ((x, y) ∷ l)) e v
    ∙ packed_out (8 * n + k) (d * 2 ^ k + a) b l w bl g
    ∙ ap (λ (t : List ℕ). b ∷ t) (packed_bytes n k a d l h dl g)
    ∙ ap₂ (λ (x : ℕ) (t : List ℕ). x ∷ (t ++ packed ((k, a) ∷ l))) (sym (mod-eq_of_lt bl)) (sym (bytes_low n b f d (sym s)))
    ∙ ap (λ (t : List ℕ). t ++ packed ((k, a) ∷ l)) (sym (bytes_first n f))

-- ---- what fits is put

was_put : (r : Result (Unit {0}) (FillError ℕ)) → put_says r ≡ accepted tt → IsOk r
was_put (Ok x) e = refl
was_put (Err (F.Needs n)) e = cc
was_put (Err (F.Refused k)) e = cc

pub field_is_put : (r : Result (Unit {0}) (FillError ℕ)) (s : List ℕ) (p w : ℕ) → put_says r ≡ field_put_answer s p w
    → w ≤ 32 → p + w ≤ 8 * length s → IsOk r
unfolding within width_limited
field_is_put r s p w e n h = was_put r (e ∙ simp (le-leb w 32 n, le-leb (p + w) (8 * length s) h))

-- ---- one field

-- what is held, shifted up: its high bits are lost, and the low ones make room
shifted_up : (h w : ℕ) → w ≤ 32 → h * 2 ^ w % 2 ^ 64 ≡ h % 2 ^ (64 - w) * 2 ^ w
shifted_up h w l =
    let z : 64 - w + w ≡ 64 = omega arith in
    let e : h * 2 ^ w % 2 ^ w ≡ 0 = ap (λ (x : ℕ). x % 2 ^ w) (sym (add-zero (h * 2 ^ w))) ∙ low h w {lo = 0} (pow_pos w) in
    ap (λ (x : ℕ). h * 2 ^ w % 2 ^ x) (sym z)
    ∙ mod-pow-add (h * 2 ^ w) (64 - w) w
    ∙ ap₂ (λ (x y : ℕ). x % 2 ^ (64 - w) * 2 ^ w + y) (shl-shr h w) e
    ∙ add-zero (h % 2 ^ (64 - w) * 2 ^ w)

pub joined_fits : (h w v : ℕ) → w ≤ 32 → v < 2 ^ w → h * 2 ^ w % 2 ^ 64 + v < 2 ^ 64
joined_fits h w v l i =
    let z : 64 - w + w ≡ 64 = omega arith in
    rw (shifted_up h w l) (subst (λ (x : ℕ). h % 2 ^ (64 - w) * 2 ^ w + v < 2 ^ x) z (cat_lt (64 - w) w (mod-lt h (pow_pos (64 - w))) i))

pub joined_is : (h b w v : ℕ) → b < 32 → w ≤ 32 → v < 2 ^ w → (h * 2 ^ w % 2 ^ 64 + v) % 2 ^ (b + w) ≡ h % 2 ^ b * 2 ^ w + v
joined_is h b w v k l i =
    let g : ℕ = h % 2 ^ (64 - w) in
    let z : 64 - w - b + b ≡ 64 - w = omega arith in
    let m : g % 2 ^ b ≡ h % 2 ^ b = ap (λ (x : ℕ). h % 2 ^ x % 2 ^ b) (sym z) ∙ mod-mod-pow h (64 - w - b) b in
    ap (λ (x : ℕ). (x + v) % 2 ^ (b + w)) (shifted_up h w l)
    ∙ mod-pow-add (g * 2 ^ w + v) b w
    ∙ ap₂ (λ (x y : ℕ). x % 2 ^ b * 2 ^ w + y) (high g w i) (low g w i)
    ∙ ap (λ (x : ℕ). x * 2 ^ w + v) m

module _ (out : List ℕ) (from : BitWriter) (w v : ℕ) (r : Ready out from ((w, v) ∷ [])) where
  -- the word of the bits that wait and the field
  word_lt : waiting from * 2 ^ w + v < 2 ^ (from.bits + w)
  word_lt = cat_lt from.bits w (mod-lt from.held (pow_pos from.bits)) r.fits.0

  -- it waits
  pub put_waits : (to : BitWriter) → to.at ≡ from.at → to.bits ≡ from.bits + w → to.held % 2 ^ (from.bits + w) ≡ waiting from * 2 ^ w + v → from.bits + w < 32 → Advances out from ((w, v) ∷ []) out to []
  unfolding bits
  put_waits to a b h l =
      let e : waiting to ≡ waiting from * 2 ^ w + v = ap (λ (x : ℕ). to.held % 2 ^ x) b ∙ h in
      record {
        few = omega arith;
        place = omega arith;
        long = refl;
        same = λ rest f. rw (a, e, b) (ap (sets out from.at) (sym (packed_join from.bits (waiting from) w v rest)));
      }

  -- 32 bits go out
  pub put_room : 32 ≤ from.bits + w → from.at + 4 ≤ length out
  unfolding bits
  put_room h = omega (arith, r.room)

  pub put_goes : (out' : List ℕ) (to : BitWriter) (k : ℕ) → 32 + k ≡ from.bits + w → w ≤ 32 → to.held % 2 ^ (from.bits + w) ≡ waiting from * 2 ^ w + v → out' ≡ sets out from.at (bytes_of 4 (to.held / 2 ^ k % 2 ^ 32)) → to.at ≡ from.at + 4 → to.bits ≡ k
      → Advances out from ((w, v) ∷ []) out' to []
  unfolding bits
  put_goes out' to k e u d o a b =
      let x : ℕ = waiting from * 2 ^ w + v in
      let c : to.held % 2 ^ (32 + k) ≡ waiting from * 2 ^ w + v = ap (λ (y : ℕ). to.held % 2 ^ y) e ∙ d in
      let g : to.held / 2 ^ k % 2 ^ 32 ≡ x / 2 ^ k = sym (Pow.field to.held 32 k) ∙ ap (λ (y : ℕ). y / 2 ^ k) c in
      let h : waiting to ≡ x % 2 ^ k = ap (λ (y : ℕ). to.held % 2 ^ y) b ∙ sym (mod-mod-pow to.held 32 k) ∙ ap (λ (y : ℕ). y % 2 ^ k) c in
      let i : out' ≡ sets out from.at (bytes_of 4 (x / 2 ^ k)) = o ∙ ap (λ (y : ℕ). sets out from.at (bytes_of 4 y)) g in
      let f : ℕ = x / 2 ^ k in
      let q : f * 2 ^ k + x % 2 ^ k ≡ x = split x k in
      let dl : x % 2 ^ k < 2 ^ k = mod-lt x (pow_pos k) in
      let fl : f < 2 ^ (8 * 4) = shr_lt 32 k (rw e word_lt) in
      record {
        few = omega (arith, r.few);
        place = omega arith;
        long = ap length i ∙ length-sets out from.at (bytes_of 4 f);
        same = λ rest m.
            rw (a, h, b, i)
            (ap (λ (j : ℕ). sets (sets out from.at (bytes_of 4 f)) j (packed ((k, x % 2 ^ k) ∷ rest))) (ap (λ (j : ℕ). from.at + j) (sym (length_bytes 4 f)))
            ∙ sym (sets-append (bytes_of 4 f) (packed ((k, x % 2 ^ k) ∷ rest)) out from.at)
            ∙ ap (sets out from.at) (sym (packed_bytes 4 k (x % 2 ^ k) f rest dl fl m) ∙ ap₂ (λ (y z : ℕ). packed ((y, z) ∷ rest)) e q ∙ sym (packed_join from.bits (waiting from) w v rest)));
      }

-- ---- four bytes

four_bytes : (x : ℕ) → to_be_bytes w32 x ≡ bytes_of 4 x
unfolding bytes_of
four_bytes x =
    let e : x / 16777216 % 256 ≡ x / 256 / 256 / 256 % 256 = omega arith in
    let f : x / 65536 % 256 ≡ x / 256 / 256 % 256 = omega arith in
    ap₂ (λ (a b : ℕ). a ∷ b ∷ x / 256 % 256 ∷ x % 256 ∷ []) e f

-- a word stored in four bytes, big end first
pub word_stored : (out l b : List ℕ) (at k x : ℕ) → k ≡ 4 → at + 4 ≤ length out → l ≡ b → b ≡ to_be_bytes w32 x
    → put_mid at k out l ≡ sets out at (bytes_of 4 x)
word_stored out l b at k x n h e f =
    let g : to_be_bytes w32 x ≡ bytes_of 4 x = four_bytes x in
    let i : l ≡ bytes_of 4 x = e ∙ f ∙ g in
    let j : length (bytes_of 4 x) ≡ 4 = length_bytes 4 x in
    part-put at k out l (ap length i ∙ j ∙ sym n) (omega arith) ∙ ap (sets out at) i

-- ---- the end

pub finish_room : (out : List ℕ) (from : BitWriter) → Ready out from [] → 8 * from.at + from.bits ≤ 8 * length out
unfolding bits
finish_room out from r = omega (arith, r.room)

pub finish_is : (out : List ℕ) (from : BitWriter) → Ready out from [] → field_put out (8 * from.at) from.bits (from.held % 2 ^ 32) ≡ outcome out from []
unfolding bits fields_number packed bits_put
finish_is out from r =
    let p : ℕ = 8 * from.at in
    let k : ℕ = from.bits in
    let x : ℕ = waiting from in
    let a : p / 8 ≡ from.at = omega arith in
    let o : p % 8 ≡ 0 = omega arith in
    let t : (0 + k + 7) / 8 ≡ (k + 0 + 7) / 8 = omega arith in
    let u : 8 * ((0 + k + 7) / 8) - 0 - k ≡ spare (k + 0) = omega arith in
    let y : 32 - k + k ≡ 32 = omega (arith, r.few) in
    let m : from.held % 2 ^ 32 % 2 ^ k ≡ waiting from = ap (λ (n : ℕ). from.held % 2 ^ n % 2 ^ k) (sym y) ∙ mod-mod-pow from.held (32 - k) k in
    let e : (field out (8 * (p / 8)) (p % 8) * 2 ^ k + x) ≡ 0 * 2 ^ k + x = ap (λ (n : ℕ). n * 2 ^ k + x) (ap (field out (8 * (p / 8))) o ∙ field-zero out (8 * (p / 8))) in
    field_put_yes out p k (from.held % 2 ^ 32) (omega (arith, r.few)) (omega (arith, r.room))
    ∙ ap (bits_put out p k) m
    ∙ ap₂ (λ (i : ℕ) (n : ℕ). sets out i (bytes_of ((p % 8 + k + 7) / 8) (n * 2 ^ (8 * ((p % 8 + k + 7) / 8) - p % 8 - k)))) a e
    ∙ ap (λ (n : ℕ). sets out from.at (bytes_of ((n + k + 7) / 8) ((0 * 2 ^ k + x) * 2 ^ (8 * ((n + k + 7) / 8) - n - k)))) o
    ∙ ap₂ (λ (n i : ℕ). sets out from.at (bytes_of n ((0 * 2 ^ k + x) * 2 ^ i))) t u
