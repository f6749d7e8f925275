-- What is left of words and of a run, as the writer's loops take them.
use Rattle.std.proofs.Common.{◌≡◌, ℕ, zero, suc, ◌+◌, ◌-◌, ◌<◌, ◌≤◌, List, [], ◌∷◌, ◌++◌, length, get_or, drop, sym, refl, ap, ◌∙◌, append_assoc, add-one, arith, length-append, drop-cons, get_or-append-add}
use Rattle.payload.specs.MeshWrite.{run_fields, step_field, word_fields}
use Rattle.payload.specs.Packed.{Field}
use Rattle.bits.specs.Run.{zeros}
use Rattle.bits.proofs.RunLaws.{shift_some}

-- what a list leaves from i on
pub rest-cons : (l : List ℕ) (i : ℕ) → i < length l → drop i l ≡ get_or l i 0 ∷ drop (i + 1) l
rest-cons l i h = drop-cons l i 0 h ∙ ap (λ (k : ℕ). get_or l i 0 ∷ drop k l) (sym (add-one i))

pub rest-none : (l : List ℕ) (i : ℕ) → length l ≤ i → drop i l ≡ []
rest-none [] zero h = refl
rest-none [] (suc i) h = refl
rest-none (x ∷ l) zero h = absurd (omega arith)
rest-none (x ∷ l) (suc i) h = rest-none l i (omega arith)

-- ---- words

pub words_first : (l : List ℕ) (i : ℕ) → i < length l → word_fields (drop i l) ≡ (32, get_or l i 0) ∷ word_fields (drop (i + 1) l)
unfolding word_fields
words_first l i h = rw (rest-cons l i h)

pub words_end : (l : List ℕ) (i : ℕ) → length l ≤ i → word_fields (drop i l) ≡ []
unfolding word_fields
words_end l i h = rw (rest-none l i h)

-- ---- runs: each number with the one before it, as many places before as there are running numbers

unfoldable pub coded : ℕ → List ℕ → List ℕ → List Field
coded w [] ns = []
coded w (last ∷ more) [] = []
coded w (last ∷ more) (next ∷ ns) = (w, step_field last next) ∷ coded w more ns

pub run_coded : (w : ℕ) (prior ns : List ℕ) → 0 < length prior → run_fields w prior ns ≡ coded w (prior ++ ns) ns
unfolding run_fields coded
run_coded w prior [] h = none (prior ++ [])
  where
    none : (l : List ℕ) → [] ≡ coded w l []
    none [] = refl
    none (x ∷ l) = refl
run_coded w prior (x ∷ xs) h = go prior h (λ q o. run_coded w q xs o)
  where
    go : (prior : List ℕ) → 0 < length prior → ((q : List ℕ) → 0 < length q → run_fields w q xs ≡ coded w (q ++ xs) xs) → run_fields w prior (x ∷ xs) ≡ coded w (prior ++ x ∷ xs) (x ∷ xs)
    go [] h ih = absurd (omega arith)
    go (a ∷ t) h ih = ap (λ (l : List Field). (w, step_field a x) ∷ l) (ih (t ++ (x ∷ [])) (shift_some (a ∷ t) x) ∙ ap (λ (l : List ℕ). coded w l xs) (append_assoc t (x ∷ []) xs))

pub coded_first : (w : ℕ) (past ns : List ℕ) (i : ℕ) → i < length past → i < length ns
    → coded w (drop i past) (drop i ns) ≡ (w, step_field (get_or past i 0) (get_or ns i 0)) ∷ coded w (drop (i + 1) past) (drop (i + 1) ns)
unfolding coded
coded_first w past ns i h g = rw (rest-cons past i h, rest-cons ns i g)

pub coded_end : (w : ℕ) (past ns : List ℕ) (i : ℕ) → length ns ≤ i → coded w (drop i past) (drop i ns) ≡ []
unfolding coded
coded_end w past ns i h = rw (rest-none ns i h) (none (drop i past))
  where
    none : (l : List ℕ) → coded w l [] ≡ []
    none [] = refl
    none (x ∷ l) = refl

zeros-length : (n : ℕ) → length (zeros n) ≡ n
zeros-length zero = refl
zeros-length (suc n) = ap suc (zeros-length n)

zeros_at : (n i : ℕ) (l : List ℕ) → i < n → get_or (zeros n ++ l) i 0 ≡ 0
zeros_at zero i l h = absurd (omega arith)
zeros_at (suc n) zero l h = refl
zeros_at (suc n) (suc i) l h = zeros_at n i l (omega arith)

pub before_start : (n i : ℕ) (l : List ℕ) → i < n → 0 ≡ get_or (zeros n ++ l) i 0
before_start n i l h = sym (zeros_at n i l h)

pub before_later : (n i : ℕ) (l : List ℕ) → n ≤ i → get_or l (i - n) 0 ≡ get_or (zeros n ++ l) i 0
before_later n i l h =
    sym (ap (λ (k : ℕ). get_or (zeros n ++ l) k 0) (omega (arith, zeros-length n)) ∙ get_or-append-add (zeros n) l (i - n) 0)

pub past_long : (n : ℕ) (l : List ℕ) → length (zeros n ++ l) ≡ n + length l
past_long n l = length-append (zeros n) l ∙ ap (λ (k : ℕ). k + length l) (zeros-length n)

pub zeros_some : (n : ℕ) → 1 ≤ n → 0 < length (zeros n)
zeros_some n h = rw (zeros-length n) h

-- the next number of a run with n running numbers, and those behind it
pub run_next : (w n : ℕ) (ns : List ℕ) (i v last : ℕ) → i < length ns → last ≡ get_or (zeros n ++ ns) i 0
    → v ≡ step_field last (get_or ns i 0)
    → coded w (drop i (zeros n ++ ns)) (drop i ns) ≡ (w, v) ∷ coded w (drop (i + 1) (zeros n ++ ns)) (drop (i + 1) ns)
run_next w n ns i v last h e f =
    coded_first w (zeros n ++ ns) ns i (omega (arith, past_long n ns)) h
    ∙ ap (λ (x : ℕ). (w, x) ∷ coded w (drop (i + 1) (zeros n ++ ns)) (drop (i + 1) ns))
    (sym (f ∙ ap (λ (y : ℕ). step_field y (get_or ns i 0)) e))
