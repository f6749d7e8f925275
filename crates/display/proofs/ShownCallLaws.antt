-- What `show` and `hide` learn of the list and the number, and what each way through them answers. Assumes nothing.
use Prim.Native.Nat.{ℕ, suc, ◌+◌, ◌-◌, ◌≤◌, ◌<◌}
use mathlib.Core.Path.{◌≡◌, refl, sym, ap, ap₂, ◌∙◌}
use mathlib.Core.List.{List, [], ◌∷◌, ◌++◌}
use mathlib.Core.Bool.{Bool, true, false, cond, ◌&&◌}
use native.Mathlib.Numerals.{add-one}
use native.Mathlib.Omega.{arith}
use lib.ListN.{length, take, drop, set, length-append}
use lib.Seq.{sets, sets-eq, slice, length-slice, set_split, append_snoc, take-take}
use Rattle.std.specs.Prelude.{Ok}
use borrow.Author.Tests.{lt-ltb, le-ltb, ltb-true}
use Rattle.bits.specs.Refusals.{among}
use Rattle.bits.specs.Verdict.{Verdict, accepted, declined}
use Rattle.bits.proofs.VerdictLaws.{clash, tested_value, both_true}
use Rattle.payload.specs.Firsts.{place_of}
use Rattle.payload.specs.Lent.{◌onto◌}
use Rattle.payload.specs.Records.{records_in}
use Rattle.display.specs.ShownRules.{Request, showing, hiding, is_record, points_of, points_of_all, without}
use Rattle.display.specs.ShownRules.{shown_last, taken_out_of, ruled, changed}
use Rattle.display.specs.ShownKept.{shown_numbers, shown_usable, called, change_says, keeping, shown_after}
use Rattle.display.specs.ShownLaws.{UsableShown}
use Rattle.display.specs.InternalShown.{judged, refused}
use Rattle.display.specs.declared.shown.Shown.{Shown}
use Rattle.display.specs.declared.shown.ShownAnswer.{ShownAnswer}
use Rattle.bits.specs.Says.{number_of}
use Rattle.bits.specs.declared.refusals.Refusal.{Refusal}
use Rattle.display.proofs.ShownListLaws.{among_there, among_nowhere, without_there, length_without}
use Rattle.display.proofs.ShownListLaws.{points_snoc, points_without}
use Rattle.display.proofs.ShownSumLaws.{usable_told, shown_length}

-- ---- judging

module _ (words : List ℕ) (s : Shown) (n : ℕ) where
  pub judged_list : shown_usable words s ≡ false → declined 19 ≡ judged words s n
  unfolding judged
  judged_list e = rw e

  pub judged_number : is_record words n ≡ false → declined 19 ≡ judged words s n
  unfolding judged
  judged_number e = go (shown_usable words s)
    where
      go : (b : Bool) → declined 19 ≡ cond (b && is_record words n) (accepted (place_of n (shown_numbers s))) (declined 19)
      go true = rw e
      go false = refl

  pub judged_place : shown_usable words s ≡ true → is_record words n ≡ true
      → accepted (place_of n (shown_numbers s)) ≡ judged words s n
  unfolding judged
  judged_place e g = rw (e, g)

  unusable : (v : Verdict (List ℕ)) (k : ℕ) → declined k ≡ judged words s n
      → cond (shown_usable words s) (cond (is_record words n) v (declined 19)) (declined 19) ≡ declined k
  unfolding judged
  unusable v k e = go (shown_usable words s) (is_record words n) e
    where
      go : (a b : Bool) → declined k ≡ cond (a && b) (accepted (place_of n (shown_numbers s))) (declined 19)
          → cond a (cond b v (declined 19)) (declined 19) ≡ declined k
      go true true e = clash (cc)
      go true false e = let z : 19 ≡ k = cc e in ap declined z
      go false b e = let z : 19 ≡ k = cc e in ap declined z

  pub show_unusable : (k : ℕ) → declined k ≡ judged words s n → called words s (showing n) ≡ declined k
  unfolding called ruled
  show_unusable k e = unusable (shown_last (shown_numbers s) n) k e

  pub hide_unusable : (k : ℕ) → declined k ≡ judged words s n → called words s (hiding n) ≡ declined k
  unfolding called ruled
  hide_unusable k e = unusable (taken_out_of (shown_numbers s) n) k e

  module _ (t : shown_usable words s ≡ true) (k : is_record words n ≡ true) where
    pub show_called : called words s (showing n) ≡ shown_last (shown_numbers s) n
    unfolding called ruled
    show_called = rw (t, k)

    pub hide_called : called words s (hiding n) ≡ taken_out_of (shown_numbers s) n
    unfolding called ruled
    hide_called = rw (t, k)

  -- a list that may be handed in, and a record's number, which stands at place r of it
  pub record Known (r : ℕ) : Type 0 where
    pub tested : shown_usable words s ≡ true
    pub usable : UsableShown words s
    pub number : is_record words n ≡ true
    pub there : n < length (records_in words)
    pub place : r ≡ place_of n (shown_numbers s)

  pub known : (r : ℕ) → accepted r ≡ judged words s n → Known r
  unfolding judged
  known r e =
      let v = accepted (place_of n (shown_numbers s)) in
      let q = tested_value (shown_usable words s && is_record words n) v 19 r (sym e) in
      let t = both_true (shown_usable words s) (is_record words n) q.0 in
      let k = q.1 in
      record {
        tested = t.0;
        usable = usable_told words s t.0;
        number = t.1;
        there = ltb-true n (length (records_in words)) t.1;
        place = cc;
      }

-- ---- answers

-- what a call answers
abbrev pub Answered : List ℕ → Shown → Request → ShownAnswer → Type 0
Answered words s q r =
    record { answer : change_says r.answer ≡ changed (called words s q); list : r.shown ≡ shown_after words s q }

module _ (words : List ℕ) (s : Shown) (q : Request) where
  pub refused_call : (k : Refusal) (r : ShownAnswer) → r ≡ refused k s → called words s q ≡ declined (number_of k)
      → Answered words s q r
  refused_call k r e d = rw (e, d) (record { answer = refl; list = refl })

  -- a change: the three parts of what is handed back
  done : (l ns : List ℕ) (n t : ℕ) → called words s q ≡ accepted l → ns ≡ l onto s.entries → n ≡ length l
      → t ≡ points_of_all words l
      → Answered words s q (record { answer = Ok tt; shown = record { entries = ns; count = n; total = t } })
  unfolding keeping
  done l ns n t e f g h = record { answer = rw e; list = rw (e, f, g, h) }

-- r is the number's place, as the code finds it, and the array has 64 entries
module _ (words : List ℕ) (s : Shown) (n : ℕ) {r : ℕ} (e : accepted r ≡ judged words s n) (long : length s.entries ≡ 64)
  where
    K : Known words s n r
    K = known words s n r e

    pub counted : length (shown_numbers s) ≡ s.count
    counted = shown_length words s K.usable long

    there : r < s.count → among n (shown_numbers s) ≡ true
    there h = let e = K.place in among_there n (shown_numbers s) (omega (arith, counted))

    nowhere : s.count ≤ r → among n (shown_numbers s) ≡ false
    nowhere h = let e = K.place in among_nowhere n (shown_numbers s) (omega (arith, counted))

    shows : called words s (showing n) ≡ shown_last (shown_numbers s) n
    shows = show_called words s n K.tested K.number

    hides : called words s (hiding n) ≡ taken_out_of (shown_numbers s) n
    hides = hide_called words s n K.tested K.number

    pub shown_already : r < s.count → called words s (showing n) ≡ declined 19
    shown_already h = shows ∙ rw (there h)

    module _ (h : s.count ≤ r) where
      pub full : 64 ≤ s.count → called words s (showing n) ≡ declined 21
      full k = shows ∙ rw (nowhere h, le-ltb (length (shown_numbers s)) 64 (omega (arith, counted)))

      shown_last_law : s.count < 64 → called words s (showing n) ≡ accepted (shown_numbers s ++ (n ∷ []))
      shown_last_law k = shows ∙ rw (nowhere h, lt-ltb (length (shown_numbers s)) 64 (omega (arith, counted)))

      pub not_shown : called words s (hiding n) ≡ declined 20
      not_shown = hides ∙ rw (nowhere h)

      -- t is the total that the code works out
      pub show_done : s.count < 64 → (t : ℕ) → t ≡ s.total + points_of words n
          → Answered words s (showing n)
          (record {
            answer = Ok tt;
            shown =
                record { entries = set s.entries s.count n; count = s.count + 1; total = t };
          })
      show_done k t e =
          let l = shown_numbers s ++ (n ∷ []) in
          let z = counted in
          let m : length l ≡ suc s.count = length-append (shown_numbers s) (n ∷ []) ∙ omega arith in
          done words s (showing n) l _ _ _ (shown_last_law k)
          (set_split s.entries s.count n (omega arith)
          ∙ sym (append_snoc (shown_numbers s) n (drop (suc s.count) s.entries))
          ∙ ap (λ (j : ℕ). l ++ drop j s.entries) (sym m))
          (omega arith)
          (omega (arith, points_snoc words (shown_numbers s) n, K.usable.total))

    module _ (h : r < s.count) where
      taken_out : called words s (hiding n) ≡ accepted (without n (shown_numbers s))
      taken_out = hides ∙ rw (there h)

      -- the numbers that stay, as the code moves them up
      stay : without n (shown_numbers s) ≡ take r s.entries ++ slice (r + 1) s.count s.entries
      stay =
          without_there n (shown_numbers s)
          ∙ rw (← K.place)
          (ap₂ (λ (a b : List ℕ). a ++ b) (take-take r s.count s.entries (omega arith)) (rw add-one))

      pub hide_total : s.total ≡ points_of words n + points_of_all words (without n (shown_numbers s))
      hide_total = K.usable.total ∙ points_without words n (shown_numbers s) (there h)

      pub hide_done : (l : List ℕ) → l ≡ sets s.entries r (slice (r + 1) s.count s.entries) → (t : ℕ) → t ≡ s.total - points_of words n
          → Answered words s (hiding n)
          (record {
            answer = Ok tt;
            shown = record { entries = l; count = s.count - 1; total = t };
          })
      hide_done l f t e =
          let z = counted in
          let m = length_without n (shown_numbers s) (there h) in
          let few = K.usable.few in
          let moved = slice (r + 1) s.count s.entries in
          let d = length-slice (r + 1) s.count s.entries (omega arith) in
          let k : r + length moved ≡ length (without n (shown_numbers s)) = omega arith in
          done words s (hiding n) (without n (shown_numbers s)) _ _ _ taken_out
          (f ∙ sets-eq moved s.entries r (omega arith)
          ∙ ap₂ (λ (a : List ℕ) (j : ℕ). a ++ drop j s.entries) (sym stay) k)
          (omega arith)
          (omega (arith, hide_total))
