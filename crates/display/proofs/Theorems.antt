-- The theorems of specs/Laws.antt. Assumes nothing.
use Prim.Native.Nat.{ℕ, ◌+◌, ◌*◌, ◌%◌, ◌≤◌, ◌<◌}
use mathlib.Core.Path.{◌≡◌, refl, sym, ◌∙◌}
use mathlib.Core.List.{List, [], ◌∷◌, ◌++◌, Memᴰ, append_assoc}
use mathlib.Core.Bool.{Bool, true, false, cond}
use native.Mathlib.Omega.{arith}
use lib.Dec.{leb, eqb}
use lib.ListN.{length, length-append}
use borrow.Author.Tests.{le-leb, leb-true, eq-eqb, ne_eqb, eqb-true}
use Rattle.bits.specs.Verdict.{accepted, declined}
use Rattle.bits.proofs.VerdictLaws.{both_true}
use Rattle.payload.proofs.AllLaws.{All, nil_all, cons_all, append_all}
use Rattle.payload.specs.Records.{records_in}
use Rattle.display.specs.Triangles.{corners, record_triangles, triangles_of, record_usable, all_usable, triangle_sum, records_usable, triangles_made}
use Rattle.display.specs.Laws.{ModeLaws, TriangleLaws, UsableRecords, TrianglesExactly}
use Rattle.payload.specs.declared.mesh.records.Record.{Record}
use Rattle.display.proofs.TriangleLaws.{there, count, point, range, few}
use Rattle.display.proofs.JudgeLaws.{made_told}

-- ---- the modes

strip_even : (k : ℕ) → corners 1 (2 * k) ≡ (2 * k) ∷ (2 * k + 1) ∷ (2 * k + 2) ∷ []
unfolding corners
strip_even k = rw (eq-eqb (2 * k % 2) 0 (omega arith))

strip_odd : (k : ℕ) → corners 1 (2 * k + 1) ≡ (2 * k + 2) ∷ (2 * k + 1) ∷ (2 * k + 3) ∷ []
unfolding corners
strip_odd k =
    let a : 2 * k + 1 + 1 ≡ 2 * k + 2 = omega arith in
    let b : 2 * k + 1 + 2 ≡ 2 * k + 3 = omega arith in
    rw (ne_eqb ((2 * k + 1) % 2) 0 (λ e. omega arith), a, b)

pub mode_laws : ModeLaws
unfolding corners
mode_laws = record { threes = λ k. refl; strip_even = strip_even; strip_odd = strip_odd; fan = λ k. refl }

-- ---- records one after the other

order : (l m : List Record) → triangles_of (l ++ m) ≡ triangles_of l ++ triangles_of m
unfolding triangles_of
order [] m = refl
order (r ∷ l) m = rw (order l m) (sym (append_assoc (record_triangles r) (triangles_of l) (triangles_of m)))

total : (l : List Record) → length (triangles_of l) ≡ 3 * triangle_sum l
unfolding triangles_of
total [] = refl
total (r ∷ l) = length-append (record_triangles r) (triangles_of l) ∙ omega (arith, count r, total l)

pub triangle_laws : TriangleLaws
triangle_laws =
    record { there = there; count = count; total = total; point = point; range = range; few = few; order = order }

pub triangles_all : (P : ℕ → Type 0) (l : List Record) → All (λ r. All P (record_triangles r)) l → All P (triangles_of l)
unfolding triangles_of
triangles_all P [] h = nil_all P
triangles_all P (r ∷ l) h =
    append_all P (record_triangles r) (h r (Memᴰ.head refl)) (triangles_all P l (λ s k. h s (Memᴰ.tail k)))

-- ---- which words are accepted

abbrev Usable : Record → Type 0
Usable r = (r.mode ≤ 2) × (r.first + r.points ≤ 4294967295)

usable_yes : (r : Record) → Usable r → record_usable r ≡ true
usable_yes r u = rw (le-leb _ _ u.0, le-leb _ _ u.1)

all_yes : (l : List Record) → All Usable l → all_usable l ≡ true
unfolding all_usable
all_yes [] h = refl
all_yes (r ∷ l) h = rw (usable_yes r (h r (Memᴰ.head refl)), all_yes l (λ s k. h s (Memᴰ.tail k)))

all_told : (l : List Record) → all_usable l ≡ true → All Usable l
unfolding all_usable
all_told [] e = nil_all _
all_told (r ∷ l) e =
    let t = both_true (record_usable r) (all_usable l) e in
    let u = both_true (leb r.mode 2) _ t.0 in
    cons_all _ (leb-true _ _ u.0, leb-true _ _ u.1) (all_told l t.1)

pub made : (words : List ℕ) → UsableRecords words → triangles_made words ≡ accepted (triangles_of (records_in words))
unfolding triangles_made
made words u =
    rw (eq-eqb _ _ u.whole, all_yes (records_in words) (λ r m. (u.modes r m, u.points r m)), le-leb _ _ u.together)

told : (words : List ℕ) → records_usable words ≡ true → UsableRecords words
told words e =
    let a = both_true (eqb (length words % 5) 0) _ e in
    let b = both_true (all_usable (records_in words)) _ a.1 in
    let u = all_told (records_in words) b.0 in
    record {
      whole = eqb-true _ _ a.0;
      modes = λ r m. (u r m).0;
      points = λ r m. (u r m).1;
      together = leb-true _ _ b.1;
    }

fifteen : (words : List ℕ) → (UsableRecords words → ⊥) → triangles_made words ≡ declined 15
unfolding triangles_made
fifteen words n = go (records_usable words) (λ e. n (told words e))
  where
    go : (b : Bool) → (b ≡ true → ⊥) → cond b (accepted (triangles_of (records_in words))) (declined 15) ≡ declined 15
    go true h = absurd (h refl)
    go false h = refl

fits : (words l : List ℕ) (p : ℕ) → triangles_made words ≡ accepted l → Memᴰ p l → p < 4294967295
fits words l p e m =
    let t = made_told words l e in
    triangles_all (λ q. q < 4294967295) (records_in words)
    (λ r k q i. omega (arith, range r q i, (all_told (records_in words) t.usable r k).1)) p (rw t.is m)

pub triangles_exactly : TrianglesExactly
triangles_exactly = record { made = made; fifteen = fifteen; fits = fits }
