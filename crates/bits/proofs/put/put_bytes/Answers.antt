-- `put_bytes` meets its contract: i bytes are put, the rest stands as it was. Assumes nothing.
use Rattle.std.proofs.Common.{◌≡◌, ℕ, ◌+◌, ◌-◌, ◌*◌, ◌/◌, ◌%◌, ◌^◌, ◌<◌, ◌≤◌, List, ◌++◌, length, take, drop, set, sym, ap, ◌∙◌, add-one, arith, take_all}
use lib.Seq.{sets, sets-eq, paste, paste-suc, length-paste}
use Rattle.bits.specs.Put.{bytes_of}
use Rattle.bits.proofs.ByteLaws.{length_bytes, get_d_bytes}
use Rattle.bits.proofs.put.put_bytes.Goals as goal

-- one byte more
turn : (d : List ℕ) (at n x i : ℕ) → x < 2 ^ (8 * n) → at + n ≤ length d → i < n → set (paste d at (bytes_of n x) i) (at + i) (x / 2 ^ (8 * (n - 1 - i)) % 256) ≡ paste d at (bytes_of n x) (i + 1)
turn d at n x i h f l =
    ap (λ (b : ℕ). set (paste d at (bytes_of n x) i) (at + i) b) (sym (get_d_bytes n x i h l))
    ∙ paste-suc d at (bytes_of n x) i 0 (omega arith) (omega (arith, length_bytes n x))
    ∙ ap (λ (k : ℕ). paste d at (bytes_of n x) k) (sym (add-one i))

long : (d : List ℕ) (at n x i : ℕ) → at + n ≤ length d → i ≤ n → length (paste d at (bytes_of n x) i) ≡ length d
long d at n x i f l = length-paste d at (bytes_of n x) i (omega arith) (omega (arith, length_bytes n x))

-- all bytes
whole : (d : List ℕ) (at n x i : ℕ) → at + n ≤ length d → i ≡ n → paste d at (bytes_of n x) i ≡ sets d at (bytes_of n x)
whole d at n x i f e =
    let b = bytes_of n x in
    let m : length b ≡ n = length_bytes n x in
    ap (λ (k : ℕ). paste d at b k) e
    ∙ ap (λ (l : List ℕ). take at d ++ l ++ drop (at + n) d) (take_all n b (omega arith))
    ∙ ap (λ (k : ℕ). take at d ++ b ++ drop (at + k) d) (sym m)
    ∙ sym (sets-eq b d at (omega arith))

pub loop-i-preserved : goal.loop-i-preserved
loop-i-preserved c =
    let a = c.args in
    let l = c.loop-i in
    ap (λ (d : List ℕ). set d (a.at + l.i) (a.x / 2 ^ (8 * (a.n - 1 - l.i)) % 256)) l.invariant
    ∙ turn a.out.now a.at a.n a.x l.i c.requires.1 (omega arith) (omega arith)

pub returns : goal.returns
returns c =
    let a = c.args in
    let l = c.loop-i in
    l.invariant ∙ whole a.out.now a.at a.n a.x l.i (omega arith) (omega arith)
