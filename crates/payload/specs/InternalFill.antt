-- What a closure does that puts piece after piece. No promise of a public call leans on these.
use Rattle.std.specs.Prelude.{◌≡◌, ℕ, ◌+◌, ◌<◌, ◌≤◌, List, length}
use Rattle.std.specs.Borrow.{MutBor}
use Rattle.std.proofs.lemmas.List.Edits.{sets}

-- it may be called for each i below n where there is room for piece i
abbrev pub MayPut : {F A : Type 0} → (F → ℕ → ℕ → MutBor (List A) → Type 0) → F → (ℕ → List A) → ℕ → Type 0
MayPut pre step f n = (i to : ℕ) (m : MutBor (List _)) → i < n → to + length (f i) ≤ length m.now → pre step i to m

-- it puts piece i there, and answers the place after it
abbrev pub Puts : {F A : Type 0} → (F → ℕ → ℕ → MutBor (List A) → ℕ → MutBor (List A) → Type 0)
    → F → (ℕ → List A) → ℕ → Type 0
Puts post step f n =
    (i to w : ℕ) (m r : MutBor (List _)) → i < n → to + length (f i) ≤ length m.now → post step i to m w r
    → (w ≡ to + length (f i)) × (r.now ≡ sets m.now to (f i))
