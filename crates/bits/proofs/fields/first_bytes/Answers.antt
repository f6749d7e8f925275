-- `first_bytes` meets its contract: x is the field of the first i bytes. Assumes nothing.
use Rattle.std.proofs.Common.{◌≡◌, ℕ, ◌+◌, ◌*◌, ◌<◌, List, get_or, sym, ap, ◌∙◌, ap₂, arith}
use Rattle.bits.specs.Field.{field, whole_bytes}
use Rattle.bits.proofs.FieldLaws.{field-zero, field_next_byte, field_below, bytes_next, bytes_none}
use Rattle.bits.proofs.fields.first_bytes.Goals as goal

-- one byte more
turn : (s : List ℕ) (i x y : ℕ) → get_or s i 0 < 256 → x ≡ field s 0 (8 * i) → y ≡ get_or s i 0 → x * 256 + y ≡ field s 0 (8 * (i + 1))
turn s i x y h e f =
    let z : 0 + i ≡ i = omega arith in
    let n = field_next_byte s 0 i (rw z h) in
    ap₂ (λ (u v : ℕ). u * 256 + v) e (f ∙ ap (λ (k : ℕ). get_or s k 0) (sym z)) ∙ sym n

byte : (s : List ℕ) (i x y : ℕ) → x ≡ whole_bytes s 0 i → y ≡ get_or s i 0 → x * 256 + y ≡ whole_bytes s 0 (i + 1)
byte s i x y e f =
    let z : i ≡ 0 + i = omega arith in
    ap₂ (λ (u v : ℕ). u * 256 + v) e (f ∙ ap (λ (k : ℕ). get_or s k 0) z) ∙ sym (bytes_next s 0 i)

pub loop-i-init : goal.loop-i-init
loop-i-init c = let s = c.args.s.now in (sym (field-zero s 0), omega arith, sym (bytes_none s 0))

pub loop-i-preserved : goal.loop-i-preserved
loop-i-preserved c =
    let a = c.args in
    let l = c.loop-i in
    let t = turn a.s.now l.i l.x c.wide.result (c.type_inv.s l.i).fits l.invariant.0 c.wide.ensures.0 in
    let w = byte a.s.now l.i l.x c.wide.result l.invariant.2 c.wide.ensures.0 in
    (t, rw t (field_below a.s.now 0 (8 * (l.i + 1)) 40 (omega arith)), w)

pub returns : goal.returns
returns c =
    let a = c.args in
    let l = c.loop-i in
    let e : l.i ≡ a.n = omega arith in
    (l.invariant.2 ∙ ap (λ (k : ℕ). whole_bytes a.s.now 0 k) e, l.invariant.0 ∙ ap (λ (k : ℕ). field a.s.now 0 (8 * k)) e)
