-- Laws of stores in a row: `sets d o l` is d with the list l from place o on. Assumes nothing.
use Rattle.std.proofs.Common.{◌≡◌, ℕ, suc, ◌+◌, List, [], ◌∷◌, ◌++◌, length, set, sym, ap, ◌∙◌, append-nil, add-zero, add-suc, suc-add, arith, drop_of_length-le}
use lib.Seq.{sets, sets-eq}

pub sets-append : (p q d : List ℕ) (o : ℕ) → sets d o (p ++ q) ≡ sets (sets d o p) (o + length p) q
sets-append [] q d o = ap (λ (k : ℕ). sets d k q) (sym (add-zero o))
sets-append (x ∷ p) q d o =
    sets-append p q (set d o x) (suc o)
    ∙ ap (λ (k : ℕ). sets (sets (set d o x) (suc o) p) k q) (suc-add o (length p) ∙ sym (add-suc o (length p)))

-- two lists, where t is the place after the first
pub sets-after : (p q d : List ℕ) (o t : ℕ) → o + length p ≡ t → sets d o (p ++ q) ≡ sets (sets d o p) t q
sets-after p q d o t e = sets-append p q d o ∙ ap (λ (k : ℕ). sets (sets d o p) k q) e

-- a list as long as the buffer takes all of it
pub sets_whole : (l d : List ℕ) → length l ≡ length d → sets d 0 l ≡ l
sets_whole l d e =
    sets-eq l d 0 (omega arith)
    ∙ ap (λ (t : List ℕ). l ++ t) (drop_of_length-le d {i = 0 + length l} (omega arith))
    ∙ append-nil l

pub set-five : (d : List ℕ) (o x₁ x₂ x₃ x₄ x₅ : ℕ)
    → set (set (set (set (set d o x₁) (o + 1) x₂) (o + 2) x₃) (o + 3) x₄) (o + 4) x₅
    ≡ sets d o (x₁ ∷ x₂ ∷ x₃ ∷ x₄ ∷ x₅ ∷ [])
set-five d o x₁ x₂ x₃ x₄ x₅ =
    let e₁ : o + 1 ≡ suc o = omega arith in
    let e₂ : o + 2 ≡ suc (suc o) = omega arith in
    let e₃ : o + 3 ≡ suc (suc (suc o)) = omega arith in
    let e₄ : o + 4 ≡ suc (suc (suc (suc o))) = omega arith in
    rw (e₁, e₂, e₃, e₄)
