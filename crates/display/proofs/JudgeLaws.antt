-- Records judged from the front, and what the verdict tells. Assumes nothing.
use Prim.Native.Nat.{ℕ, ◌+◌, ◌*◌, ◌%◌, ◌≤◌, ◌<◌}
use mathlib.Core.Path.{◌≡◌, refl, sym, ap, ◌∙◌}
use mathlib.Core.List.{List, [], ◌∷◌}
use mathlib.Core.Bool.{Bool, true, false, ◌&&◌, and-false}
use native.Mathlib.Nat.{zero-add}
use native.Mathlib.Omega.{arith}
use lib.Dec.{eqb, leb}
use lib.ListN.{length, drop}
use borrow.Author.Tests.{le-leb, lt-leb, leb-true, eq-eqb, ne_eqb, eqb-true}
use Rattle.bits.specs.Verdict.{accepted, declined, mapped}
use Rattle.bits.proofs.VerdictLaws.{both_true, tested_value}
use Rattle.payload.specs.Records.{records_in, point_sum}
use Rattle.display.specs.Triangles.{triangle_count, triangles_of, record_usable, all_usable, records_usable, triangles_made}
use Rattle.display.specs.Internal.{record_at}
use Rattle.payload.specs.declared.mesh.records.Record.{Record}
use Rattle.display.proofs.RecordLaws.{Fives, fives_none, fives_on, fives_end, rest, rest_long}
use Rattle.display.proofs.TriangleLaws.{count, count_few}

-- records that are left, after so many points
abbrev pub usable_after : ℕ → List Record → Bool
usable_after points l = all_usable l && leb (points + point_sum l) 4294967295

after_none : (points : ℕ) → points ≤ 4294967295 → usable_after points [] ≡ true
unfolding all_usable
after_none points h = le-leb (points + 0) 4294967295 (omega arith)

module _ (points : ℕ) (r : Record) (l : List Record) where
  after_bad : record_usable r ≡ false → usable_after points (r ∷ l) ≡ false
  unfolding all_usable
  after_bad e = rw e

  after_many : 4294967295 < points + r.points → usable_after points (r ∷ l) ≡ false
  after_many h =
      let f : leb (points + (r.points + point_sum l)) 4294967295 ≡ false = lt-leb (points + (r.points + point_sum l)) 4294967295 (omega arith) in
      rw f (and-false (all_usable (r ∷ l)))

  after_on : record_usable r ≡ true → usable_after points (r ∷ l) ≡ usable_after (points + r.points) l
  unfolding all_usable
  after_on e = let s : points + (r.points + point_sum l) ≡ points + r.points + point_sum l = omega arith in rw (s, e)

-- ---- the verdict

module _ (words : List ℕ) where
  pub made_torn : (length words % 5 ≡ 0 → ⊥) → triangles_made words ≡ declined 15
  unfolding triangles_made
  made_torn n = rw (ne_eqb (length words % 5) 0 n)

  module _ (whole : length words % 5 ≡ 0) where
    pub made_no : usable_after 0 (records_in words) ≡ false → triangles_made words ≡ declined 15
    unfolding triangles_made
    made_no e = rw (eq-eqb (length words % 5) 0 whole, ← zero-add (point_sum (records_in words)), e)

    pub made_yes : usable_after 0 (records_in words) ≡ true → triangles_made words ≡ accepted (triangles_of (records_in words))
    unfolding triangles_made
    made_yes e = rw (eq-eqb (length words % 5) 0 whole, ← zero-add (point_sum (records_in words)), e)

-- what an acceptance tells
pub record Made (words l : List ℕ) : Type 0 where
  pub tested : records_usable words ≡ true
  pub whole : length words % 5 ≡ 0
  pub usable : all_usable (records_in words) ≡ true
  pub together : point_sum (records_in words) ≤ 4294967295
  pub is : triangles_of (records_in words) ≡ l

pub made_told : (words l : List ℕ) → triangles_made words ≡ accepted l → Made words l
unfolding triangles_made
made_told words l e =
    let t = tested_value _ _ 15 l e in
    let a = both_true (eqb (length words % 5) 0) _ t.0 in
    let b = both_true (all_usable (records_in words)) _ a.1 in
    let d = t.1 in
    record { tested = t.0; whole = eqb-true _ _ a.0; usable = b.0; together = leb-true _ _ b.1; is = cc }

-- ---- the loop: the records before word i are judged, they have so many points and make so many numbers

pub record Judging (words : List ℕ) (i points numbers : ℕ) : Type 0 where
  pub fives : Fives words i
  pub few : points ≤ 4294967295
  pub small : numbers ≤ 3 * points
  pub counted : numbers + length (triangles_of (records_in (drop i words))) ≡ length (triangles_of (records_in words))
  pub judged : usable_after 0 (records_in words) ≡ usable_after points (records_in (drop i words))

pub judging_none : (words : List ℕ) → length words % 5 ≡ 0 → Judging words 0 0 0
judging_none words e =
    record {
      fives = fives_none words e;
      few = omega arith;
      small = omega arith;
      counted = omega arith;
      judged = refl;
    }

module _ {words : List ℕ} {i points numbers : ℕ} (j : Judging words i points numbers) where
  module _ (h : i < length words) (r : Record) (e : r ≡ record_at words i) where
    -- refused at this record
    refused : usable_after points (r ∷ records_in (drop (i + 5) words)) ≡ false → declined 15 ≡ mapped length (triangles_made words)
    refused f = sym (rw (made_no words j.fives.whole (j.judged ∙ ap (usable_after points) (rest j.fives h r e) ∙ f)))

    pub judging_bad : record_usable r ≡ false → declined 15 ≡ mapped length (triangles_made words)
    judging_bad f = refused (after_bad points r _ f)

    pub judging_many : 4294967295 < points + r.points → declined 15 ≡ mapped length (triangles_made words)
    judging_many f = refused (after_many points r _ f)

    pub judging_on : record_usable r ≡ true → points + r.points ≤ 4294967295 → (k : ℕ) → k ≡ i + 5
        → Judging words k (points + r.points) (numbers + 3 * triangle_count r.mode r.points)
    judging_on f few k g =
        rw g
        (record {
          fives = fives_on j.fives h;
          few = few;
          small = omega (arith, j.small, count_few r);
          counted = omega (arith, j.counted, rest_long j.fives h r e, count r);
          judged = j.judged ∙ ap (usable_after points) (rest j.fives h r e) ∙ after_on points r _ f;
        })

  pub judging_end : length words ≤ i → accepted numbers ≡ mapped length (triangles_made words)
  unfolding triangles_of
  judging_end h =
      let z = fives_end j.fives h in
      let n : numbers ≡ length (triangles_of (records_in words)) = omega (arith, j.counted, ap (λ (l : List Record). length (triangles_of l)) z) in
      rw (made_yes words j.fives.whole (j.judged ∙ ap (usable_after points) z ∙ after_none points j.few), n)
