-- The triangles of records, put one record after the other. Assumes nothing.
use Prim.Native.Nat.{ℕ, ◌+◌, ◌%◌, ◌≤◌, ◌<◌}
use mathlib.Core.Path.{◌≡◌, refl, sym, ap, ◌∙◌}
use mathlib.Core.List.{List}
use mathlib.Core.Bool.{true}
use native.Mathlib.Omega.{arith}
use lib.Dec.{leb, eqb}
use lib.ListN.{length, drop}
use lib.Seq.{sets, length-sets}
use borrow.Author.Tests.{leb-true, eqb-true}
use Rattle.bits.proofs.VerdictLaws.{both_true}
use Rattle.payload.proofs.FillLaws.{sets-after}
use Rattle.payload.specs.Records.{records_in}
use Rattle.display.specs.Triangles.{record_triangles, triangles_of, record_usable, all_usable, records_usable}
use Rattle.display.specs.Internal.{record_at}
use Rattle.payload.specs.declared.mesh.records.Record.{Record}
use Rattle.display.proofs.RecordLaws.{Fives, fives_none, fives_on, fives_end, rest, rest_long}

pub usable_points : (r : Record) → record_usable r ≡ true → r.first + r.points ≤ 4294967295
usable_points r e = leb-true _ _ (both_true (leb r.mode 2) _ e).1

-- the triangles of the records before word i are in `out`, before place `to`: with those that are left put too, it is d
-- with all of them
pub record Putting (words d out : List ℕ) (to i : ℕ) : Type 0 where
  pub fives : Fives words i
  pub usable : all_usable (records_in (drop i words)) ≡ true
  pub long : length out ≡ length d
  pub left : to + length (triangles_of (records_in (drop i words))) ≡ length (triangles_of (records_in words))
  pub same : sets out to (triangles_of (records_in (drop i words))) ≡ sets d 0 (triangles_of (records_in words))

pub putting_none : (words d : List ℕ) → records_usable words ≡ true → Putting words d d 0 0
putting_none words d e =
    let t = both_true (eqb (length words % 5) 0) _ e in
    record {
      fives = fives_none words (eqb-true (length words % 5) 0 t.0);
      usable = (both_true (all_usable (records_in words)) _ t.1).0;
      long = refl;
      left = omega arith;
      same = refl;
    }

module _ {words d out : List ℕ} {to i : ℕ} (p : Putting words d out to i) where
  module _ (h : i < length words) (r : Record) (e : r ≡ record_at words i) where
    usable_both : (record_usable r ≡ true) × (all_usable (records_in (drop (i + 5) words)) ≡ true)
    unfolding all_usable
    usable_both = both_true (record_usable r) _ (sym (ap all_usable (rest p.fives h r e)) ∙ p.usable)

    pub putting_points : r.first + r.points ≤ 4294967295
    putting_points = usable_points r usable_both.0

    pub putting_room : length (triangles_of (records_in words)) ≤ length d → to + length (record_triangles r) ≤ length out
    putting_room m = omega (arith, p.left, p.long, rest_long p.fives h r e, m)

    pub putting_on : (out' : List ℕ) (to' : ℕ) → to' ≡ to + length (record_triangles r)
        → out' ≡ sets out to (record_triangles r) → (k : ℕ) → k ≡ i + 5 → Putting words d out' to' k
    unfolding triangles_of
    putting_on out' to' f g k n =
        rw n
        (record {
          fives = fives_on p.fives h;
          usable = usable_both.1;
          long = ap length g ∙ length-sets out to (record_triangles r) ∙ p.long;
          left = omega (arith, f, p.left, rest_long p.fives h r e);
          same =
              ap (λ (x : List ℕ). sets x to' (triangles_of (records_in (drop (i + 5) words)))) g
              ∙ sym (sets-after (record_triangles r) (triangles_of (records_in (drop (i + 5) words))) out to to' (sym f))
              ∙ sym (ap (λ (l : List Record). sets out to (triangles_of l)) (rest p.fives h r e))
              ∙ p.same;
        })

  pub putting_end : length words ≤ i → out ≡ sets d 0 (triangles_of (records_in words))
  unfolding triangles_of
  putting_end h =
      sym (ap (λ (l : List Record). sets out to (triangles_of l)) (fives_end p.fives h))
      ∙ p.same
