-- The points of a list of records summed from its front, and what the sum tells of a list that is handed in. Assumes
-- nothing.
use Prim.Native.Nat.{ℕ, ◌+◌, ◌≤◌, ◌<◌}
use mathlib.Core.Path.{◌≡◌, refl, sym, ap}
use mathlib.Core.List.{List}
use mathlib.Core.Bool.{Bool, true, false, cond, ◌&&◌, and-false}
use native.Mathlib.Omega.{arith}
use lib.Dec.{eqb}
use lib.ListN.{length, get_or, drop}
use lib.Seq.{length-take-le}
use borrow.Author.Tests.{le-leb, lt-leb, leb-true, eqb-true, eq-eqb}
use Rattle.bits.specs.Refusals.{among}
use Rattle.bits.specs.Verdict.{accepted, declined}
use Rattle.bits.proofs.VerdictLaws.{clash, tested_value, both_true}
use Rattle.payload.specs.MeshWrite.{all_of}
use Rattle.payload.specs.Records.{records_in}
use Rattle.payload.proofs.PutRunLaws.{rest-cons, rest-none}
use Rattle.display.specs.ShownRules.{is_record, points_of, points_of_all}
use Rattle.display.specs.ShownKept.{shown_numbers, distinct, record_numbers, shown_usable}
use Rattle.display.specs.ShownLaws.{UsableShown}
use Rattle.display.specs.InternalShown.{summed_from}
use Rattle.display.specs.declared.shown.Shown.{Shown}
use Rattle.display.proofs.ShownListLaws.{distinct_told, distinct_yes, below_told, below_yes}

module _ (words : List ℕ) (t : ℕ) (l : List ℕ) (i : ℕ) where
  pub summed_end : length l ≤ i → summed_from words t (drop i l) ≡ accepted t
  unfolding summed_from distinct all_of
  summed_end h = rw (rest-none l i h) (ap accepted (omega arith))

  module _ (h : i < length l) where
    -- no record
    pub summed_foreign : is_record words (get_or l i 0) ≡ false → summed_from words t (drop i l) ≡ declined 19
    unfolding summed_from all_of
    summed_foreign e = rw (rest-cons l i h, e, and-false)

    -- twice
    pub summed_twice : among (get_or l i 0) (drop (i + 1) l) ≡ true → summed_from words t (drop i l) ≡ declined 19
    unfolding summed_from distinct
    summed_twice e = rw (rest-cons l i h, e)

    pub summed_on : is_record words (get_or l i 0) ≡ true → among (get_or l i 0) (drop (i + 1) l) ≡ false
        → summed_from words t (drop i l) ≡ summed_from words (t + points_of words (get_or l i 0)) (drop (i + 1) l)
    unfolding summed_from distinct all_of
    summed_on e g =
        let p = points_of words (get_or l i 0) in
        let q = points_of_all words (drop (i + 1) l) in
        let a : t + (p + q) ≡ t + p + q = omega arith in
        rw (rest-cons l i h, e, g, a)

-- ---- a list that is handed in

module _ (words : List ℕ) (s : Shown) where
  pub usable_long : 64 < s.count → false ≡ shown_usable words s
  unfolding shown_usable
  usable_long h = rw (lt-leb s.count 64 h)

  module _ (h : s.count ≤ 64) where
    pub usable_sum : (t : ℕ) → accepted t ≡ summed_from words 0 (shown_numbers s) → eqb s.total t ≡ shown_usable words s
    unfolding shown_usable summed_from
    usable_sum t e =
        let p = points_of_all words (shown_numbers s) in
        let q = tested_value (record_numbers words (shown_numbers s)) (accepted (0 + p)) 19 t (sym e) in
        let k = q.1 in
        let z : 0 + p ≡ t = cc in
        let y : t ≡ p = omega arith in
        rw (y, le-leb s.count 64 h, q.0)

    pub usable_none : (k : ℕ) → declined k ≡ summed_from words 0 (shown_numbers s) → false ≡ shown_usable words s
    unfolding shown_usable summed_from
    usable_none k e = rw (le-leb s.count 64 h) (go (record_numbers words (shown_numbers s)) (sym e))
      where
        go : (b : Bool) → cond b (accepted (0 + points_of_all words (shown_numbers s))) (declined 19) ≡ declined k
            → false ≡ (b && eqb s.total (points_of_all words (shown_numbers s)))
        go true e = clash (cc)
        go false e = refl

  -- what the test tells, and that it tells it all
  pub usable_told : shown_usable words s ≡ true → UsableShown words s
  unfolding shown_usable
  usable_told e =
      let a = both_true _ _ e in
      let b = both_true _ _ a.1 in
      let d = both_true (distinct (shown_numbers s)) _ b.0 in
      record {
        few = leb-true _ _ a.0;
        once = distinct_told (shown_numbers s) d.0;
        known = below_told (length (records_in words)) (shown_numbers s) d.1;
        total = eqb-true _ _ b.1;
      }

  pub usable_yes : UsableShown words s → shown_usable words s ≡ true
  unfolding shown_usable
  usable_yes u =
      rw (
        le-leb s.count 64 u.few,
        distinct_yes (shown_numbers s) u.once,
        below_yes (length (records_in words)) (shown_numbers s) u.known,
        eq-eqb s.total _ u.total,
      )

  -- the shown numbers are as many as it says
  pub shown_length : UsableShown words s → length s.entries ≡ 64 → length (shown_numbers s) ≡ s.count
  shown_length u long = let few = u.few in length-take-le s.count s.entries (omega arith)
