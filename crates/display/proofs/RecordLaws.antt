-- Records in words, five after five: what is left of them from word i on. Assumes nothing.
use Prim.Native.Nat.{ℕ, suc, ◌+◌, ◌%◌, ◌≤◌, ◌<◌}
use mathlib.Core.Path.{◌≡◌, refl, ap, ◌∙◌}
use mathlib.Core.List.{List, [], ◌∷◌}
use native.Mathlib.Omega.{arith}
use lib.ListN.{length, drop, get_or, length-append}
use lib.Seq.{drop-cons, drop-length}
use Rattle.payload.specs.Records.{records_in}
use Rattle.display.specs.Triangles.{record_triangles, triangles_of}
use Rattle.display.specs.Internal.{record_at}
use Rattle.payload.specs.declared.mesh.records.Record.{Record}

module _ (words : List ℕ) (i : ℕ) where
  -- a record that is there
  module _ (h : i + 5 ≤ length words) where
    five : drop i words ≡ get_or words i 0 ∷ get_or words (i + 1) 0 ∷ get_or words (i + 2) 0 ∷ get_or words (i + 3) 0 ∷ get_or words (i + 4) 0 ∷ drop (i + 5) words
    five =
        let e₁ : i + 1 ≡ suc i = omega arith in
        let e₂ : i + 2 ≡ suc (suc i) = omega arith in
        let e₃ : i + 3 ≡ suc (suc (suc i)) = omega arith in
        let e₄ : i + 4 ≡ suc (suc (suc (suc i))) = omega arith in
        let e₅ : i + 5 ≡ suc (suc (suc (suc (suc i)))) = omega arith in
        rw (e₁, e₂, e₃, e₄, e₅)
        (drop-cons words i 0 (omega arith)
        ∙ ap (λ (l : List ℕ). get_or words i 0 ∷ l) (drop-cons words (suc i) 0 (omega arith)
        ∙ ap (λ (l : List ℕ). get_or words (suc i) 0 ∷ l) (drop-cons words (suc (suc i)) 0 (omega arith)
        ∙ ap (λ (l : List ℕ). get_or words (suc (suc i)) 0 ∷ l) (drop-cons words (suc (suc (suc i))) 0 (omega arith)
        ∙ ap (λ (l : List ℕ). get_or words (suc (suc (suc i))) 0 ∷ l) (drop-cons words (suc (suc (suc (suc i)))) 0 (omega arith))))))

    records_on : records_in (drop i words) ≡ record_at words i ∷ records_in (drop (i + 5) words)
    unfolding records_in
    records_on = ap records_in five

  records_end : i ≡ length words → records_in (drop i words) ≡ []
  unfolding records_in
  records_end e = rw e (ap records_in (drop-length words))

-- ---- records one after the other: whole fives before word i, and whole fives from there on

pub record Fives (words : List ℕ) (i : ℕ) : Type 0 where
  pub whole : length words % 5 ≡ 0
  pub before : i % 5 ≡ 0
  pub within : i ≤ length words

pub fives_none : (words : List ℕ) → length words % 5 ≡ 0 → Fives words 0
fives_none words e = record { whole = e; before = refl; within = omega arith }

module _ {words : List ℕ} {i : ℕ} (f : Fives words i) where
  pub next_there : i < length words → i + 5 ≤ length words
  next_there h = omega (arith, f.whole, f.before)

  pub fives_on : i < length words → Fives words (i + 5)
  fives_on h = record { whole = f.whole; before = omega (arith, f.before); within = next_there h }

  pub fives_end : length words ≤ i → records_in (drop i words) ≡ []
  fives_end h = records_end words i (omega (arith, f.within))

  module _ (h : i < length words) (r : Record) (e : r ≡ record_at words i) where
    pub rest : records_in (drop i words) ≡ r ∷ records_in (drop (i + 5) words)
    rest = rw e (records_on words i (next_there h))

    pub rest_long : length (triangles_of (records_in (drop i words)))
        ≡ length (record_triangles r) + length (triangles_of (records_in (drop (i + 5) words)))
    unfolding triangles_of
    rest_long = ap (λ (l : List Record). length (triangles_of l)) rest ∙ length-append (record_triangles r) _
