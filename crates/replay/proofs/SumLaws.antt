-- Sums, byte by byte and item by item. Assumes nothing.
use Rattle.std.proofs.Common.{◌≡◌, ℕ, zero, suc, ◌-◌, ◌*◌, ◌/◌, ◌%◌, List, [], ◌∷◌, ◌++◌, sym, refl, ap, ◌∙◌, arith}
use Rattle.std.proofs.lemmas.Nat.{mul-mod_first}
use mathlib.Core.List.{flat_map}
use Rattle.std.specs.List.{fold}
use lib.Bits.{bit_xor}
use Rattle.bits.specs.Put.{bytes_of}
use Rattle.replay.specs.Sum.{step, fnv}

pub step_is : (h b : ℕ) → bit_xor h b % 4294967296 * 16777619 % 4294967296 ≡ step h b
unfolding step
step_is h b = mul-mod_first (bit_xor h b) 16777619 4294967296

fnv-append : (h : ℕ) (a b : List ℕ) → fnv h (a ++ b) ≡ fnv (fnv h a) b
unfolding fnv
fnv-append h [] b = refl
fnv-append h (x ∷ a) b = fnv-append (step h x) a b

pub no_bytes : (h x : ℕ) → h ≡ fnv h (bytes_of 0 x)
unfolding fnv bytes_of
no_bytes h x = refl

-- one byte more: n is the sum of the bytes before it, r the sum with it
pub byte_more : (h x k n r : ℕ) → (k ≡ 0 → ⊥) → n ≡ fnv h (bytes_of (k - 1) (x / 256)) → r ≡ step n (x % 256)
    → r ≡ fnv h (bytes_of k x)
unfolding fnv bytes_of
byte_more h x zero n r f e q = absurd (f refl)
byte_more h x (suc k) n r f e q =
    let m : suc k - 1 ≡ k = omega arith in
    q ∙ ap (λ (y : ℕ). step y (x % 256)) (rw m at e) ∙ sym (fnv-append h (bytes_of k (x / 256)) (x % 256 ∷ []))

-- the sum with the bytes of each item in turn, f the bytes of one
pub fold_is : {X : Type 0} (f : X → List ℕ) (h : ℕ) (s : List X) → fold (λ n x. fnv n (f x)) h s ≡ fnv h (flat_map f s)
unfolding fnv flat_map
fold_is f h [] = refl
fold_is f h (x ∷ s) = fold_is f (fnv h (f x)) s ∙ sym (fnv-append h (f x) (flat_map f s))
