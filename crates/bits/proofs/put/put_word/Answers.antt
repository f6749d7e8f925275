-- `put_word` meets its contract. Assumes nothing.
use Rattle.std.proofs.Common.{◌≡◌, ℕ, suc, ◌+◌, ◌/◌, ◌%◌, ◌^◌, ◌<◌, ◌≤◌, List, [], ◌∷◌, length, set, sym, ap, ◌∙◌, arith, length-set}
use lib.Seq.{sets}
use Rattle.bits.specs.Verdict.{needs as Needs}
use Rattle.bits.specs.Field.{capped}
use Rattle.bits.specs.Put.{bytes_of, word_put, word_put_answer}
use Rattle.bits.proofs.VerdictLaws.{within_yes, within_no}
use Rattle.bits.proofs.PutLaws.{word_put_yes, word_put_no}
use Rattle.bits.proofs.put.put_word.Goals as goal

-- the four bytes, as the program takes them
bytes : (x : ℕ) → x < 2 ^ 32 → x / 16777216 ∷ x / 65536 % 256 ∷ x / 256 % 256 ∷ x % 256 ∷ [] ≡ bytes_of 4 x
unfolding bytes_of
bytes x h =
    let a : x / 16777216 ≡ x / 256 / 256 / 256 % 256 = omega arith in
    let b : x / 65536 % 256 ≡ x / 256 / 256 % 256 = omega arith in
    λ i. a i ∷ b i ∷ x / 256 % 256 ∷ x % 256 ∷ []

stored : (s : List ℕ) (p x : ℕ) → x < 2 ^ 32 → p + 4 ≤ length s
    → set (set (set (set s p (x / 16777216)) (p + 1) (x / 65536 % 256)) (p + 2) (x / 256 % 256)) (p + 3) (x % 256) ≡ word_put s p x
stored s p x h l =
    let e₁ : p + 1 ≡ suc p = omega arith in
    let e₂ : p + 2 ≡ suc (suc p) = omega arith in
    let e₃ : p + 3 ≡ suc (suc (suc p)) = omega arith in
    rw (e₁, e₂, e₃) (ap (λ (b : List ℕ). sets s p b) (bytes x h)) ∙ sym (word_put_yes s p x l)

short : (s : List ℕ) (p x n : ℕ) → length s < p + 4 → n ≡ capped (p + 4) → (Needs (n ∷ []) ≡ word_put_answer s p) × (s ≡ word_put s p x)
short s p x n h e = (ap (λ (k : ℕ). Needs (k ∷ [])) e ∙ sym (within_no (p + 4) (length s) tt (Needs (capped (p + 4) ∷ [])) h), sym (word_put_no s p x h))

pub returns-then-at : goal.returns-then-at
returns-then-at c = let a = c.args in let r = short a.out.now a.at a.x _ (omega arith) (omega arith) in record { result_value = r.0; out_after = r.1 }

pub returns-then-out-at : goal.returns-then-out-at
returns-then-out-at c = let a = c.args in let r = short a.out.now a.at a.x _ (omega arith) (omega arith) in record { result_value = r.0; out_after = r.1 }

pub bounds-out-at-2 : goal.bounds-out-at-2
bounds-out-at-2 c = simp length-set (omega arith)

pub bounds-out-at-3 : goal.bounds-out-at-3
bounds-out-at-3 c = simp length-set (omega arith)

pub bounds-out-at-4 : goal.bounds-out-at-4
bounds-out-at-4 c = simp length-set (omega arith)

pub shape_of-out : goal.shape_of-out
shape_of-out c = simp length-set

pub returns : goal.returns
returns c =
    let a = c.args in
    let s = a.out.now in record { result_value = sym (within_yes (a.at + 4) (length s) tt (Needs (capped (a.at + 4) ∷ [])) (omega arith)); out_after = stored s a.at a.x (omega arith) (omega arith) }
