-- What holds of every element of a list: of the empty list, one more element, two lists one after the other, a list made
-- piece by piece, and one made element by element. Assumes nothing.
use Rattle.std.proofs.Common.{◌≡◌, ℕ, zero, suc, ◌<◌, ◌⊎◌, List, [], ◌∷◌, ◌++◌, map, refl, inl, inr, arith}
use mathlib.Core.List.Memᴰ
use mathlib.Core.List.{Memᴰ}
use Rattle.payload.specs.Fill.{each}

-- all elements are such
abbrev pub All : {A : Type 0} → (A → Type 0) → List A → Type 0
All {A} P l = (a : A) → Memᴰ a l → P a

module _ {A : Type 0} (P : A → Type 0) where
  pub nil_all : All P []
  nil_all a m = absurd (Memᴰ.not-nil m)

  pub cons_all : {x : A} {l : List A} → P x → All P l → All P (x ∷ l)
  cons_all {x} {l} p h a m = go (Memᴰ.cases_cons m)
    where
      go : (a ≡ x) ⊎ Memᴰ a l → P a
      go (inl e) = rw e p
      go (inr k) = h a k

  pub append_all : (l : List A) {m : List A} → All P l → All P m → All P (l ++ m)
  append_all l {m} p q a k = go (Memᴰ.append_cases l k)
    where
      go : Memᴰ a l ⊎ Memᴰ a m → P a
      go (inl i) = p a i
      go (inr i) = q a i

  pub each_all : (f : ℕ → List A) (n : ℕ) → ((j : ℕ) → j < n → All P (f j)) → All P (each f n)
  unfolding each
  each_all f zero h = nil_all
  each_all f (suc n) h = append_all (each f n) (each_all f n (λ j l. h j (omega arith))) (h n (omega arith))

  pub map_all : {B : Type 0} (f : B → A) (l : List B) → All (λ b. P (f b)) l → All P (map f l)
  map_all f [] h = nil_all
  map_all f (b ∷ l) h = cons_all (h b (Memᴰ.head refl)) (map_all f l (λ c k. h c (Memᴰ.tail k)))
