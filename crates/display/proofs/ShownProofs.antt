-- The theorems of specs/ShownLaws.antt: what a call hands back is the plain list, which may be handed in, and so no
-- call is refused for what the one before it handed back. Assumes nothing.
use Prim.Native.Nat.{ℕ, ◌≤◌, ◌<◌}
use mathlib.Core.Path.{◌≡◌, refl, sym, ap, ◌∙◌}
use mathlib.Core.List.{List, [], ◌∷◌, ◌++◌}
use mathlib.Core.Bool.{Bool, true, false, cond}
use native.Mathlib.Omega.{arith}
use lib.Dec.{ltb}
use lib.ListN.{length, drop, length-append, length-take}
use lib.Seq.{take-append_seam, drop-append_seam}
use borrow.Author.Tests.{ltb-true, lt-ltb, le-ltb}
use Rattle.bits.specs.Refusals.{among}
use Rattle.bits.specs.Verdict.{Verdict, accepted, needs, declined}
use Rattle.bits.proofs.VerdictLaws.{clash, tested_value}
use Rattle.payload.specs.Firsts.{Distinct, Below}
use Rattle.payload.specs.Records.{records_in}
use Rattle.display.specs.ShownRules.{Request, showing, hiding, is_record, points_of_all, without}
use Rattle.display.specs.ShownRules.{shown_last, taken_out_of, ruled, thereafter, plain_after, plain_said}
use Rattle.display.specs.ShownKept.{shown_numbers, none_shown, shown_usable, called, keeping, handed_back}
use Rattle.display.specs.ShownKept.{shown_after, kept_after, kept_said}
use Rattle.display.specs.ShownLaws.{Empty, SameAsPlain, Comparison, UsableShown, ShownStays}
use Rattle.display.specs.ShownLaws.{EachNumber, ShownExactly}
use Rattle.display.specs.declared.shown.Shown.{Shown}
use Rattle.display.proofs.NumberedRecordLaws.{records-count, points_word}
use Rattle.display.proofs.ShownListLaws.{length_without, below_snoc, below_without}
use Rattle.display.proofs.ShownListLaws.{distinct_snoc, distinct_without, among-between, without-between}
use Rattle.display.proofs.ShownSumLaws.{usable_told, usable_yes}
use Rattle.display.proofs.ShownCallLaws.{judged_list, judged_number, show_unusable, hide_unusable}
use Rattle.display.proofs.ShownCallLaws.{show_called, hide_called}

-- ---- plain lists that the rules can have made

record Plain (words l : List ℕ) : Type 0 where
  pub few : length l ≤ 64
  pub once : Distinct l
  pub known : Below (length (records_in words)) l

module _ (words l : List ℕ) (p : Plain words l) where
  module _ (n : ℕ) (m : List ℕ) where
    last_plain : is_record words n ≡ true → shown_last l n ≡ accepted m → Plain words m
    last_plain f e = go (among n l) (ltb (length l) 64) refl refl e
      where
        go : (b d : Bool) → among n l ≡ b → ltb (length l) 64 ≡ d
            → cond b (declined 19) (cond d (accepted (l ++ (n ∷ []))) (declined 21)) ≡ accepted m → Plain words m
        go true d g h e = clash (cc)
        go false true g h e =
            let z : l ++ (n ∷ []) ≡ m = cc in
            let q : Plain words (l ++ (n ∷ [])) = record {
              few = omega (arith, length-append l (n ∷ []), ltb-true (length l) 64 h);
              once = distinct_snoc n l p.once g;
              known = below_snoc (length (records_in words)) n l p.known (ltb-true n (length (records_in words)) f);
            } in
            rw z at q
        go false false g h e = clash (cc)

    out_plain : taken_out_of l n ≡ accepted m → Plain words m
    out_plain e = go (among n l) refl e
      where
        go : (b : Bool) → among n l ≡ b → cond b (accepted (without n l)) (declined 20) ≡ accepted m → Plain words m
        go true g e =
            let z : without n l ≡ m = cc in
            let few = p.few in
            let q : Plain words (without n l) = record {
              few = omega (arith, length_without n l g);
              once = distinct_without n l p.once;
              known = below_without (length (records_in words)) n l p.known;
            } in
            rw z at q
        go false g e = clash (cc)

  -- what the rules make is such a list again
  ruled_plain : (q : Request) (m : List ℕ) → ruled words l q ≡ accepted m → Plain words m
  unfolding ruled
  ruled_plain (showing n) m e = go (is_record words n) refl e
    where
      go : (b : Bool) → is_record words n ≡ b → cond b (shown_last l n) (declined 19) ≡ accepted m → Plain words m
      go true f e = last_plain n m f e
      go false f e = clash (cc)
  ruled_plain (hiding n) m e = go (is_record words n) e
    where
      go : (b : Bool) → cond b (taken_out_of l n) (declined 19) ≡ accepted m → Plain words m
      go true e = out_plain n m e
      go false e = clash (cc)

-- ---- what is handed back may be handed in

module _ (words : List ℕ) (s : Shown) where
  plain : UsableShown words s → Plain words (shown_numbers s)
  plain u =
      record { few = omega (arith, u.few, length-take s.count s.entries); once = u.once; known = u.known }

  -- a list that is kept
  module _ (l : List ℕ) where
    kept_order : shown_numbers (keeping words s l) ≡ l
    unfolding keeping
    kept_order = take-append_seam l (drop (length l) s.entries)

    kept_usable : Plain words l → UsableShown words (keeping words s l)
    unfolding keeping
    kept_usable p =
        let e : shown_numbers (keeping words s l) ≡ l = kept_order in
        record { few = p.few; once = rw e p.once; known = rw e p.known; total = rw e }

  called_ruled : UsableShown words s → (q : Request) → called words s q ≡ ruled words (shown_numbers s) q
  unfolding called
  called_ruled u q = rw (usable_yes words s u)

  handed_usable : UsableShown words s → (q : Request) (v : Verdict (List ℕ)) → called words s q ≡ v
      → UsableShown words (handed_back words s v)
  handed_usable u q (accepted l) e =
      kept_usable l (ruled_plain words (shown_numbers s) (plain u) q l (sym (called_ruled u q) ∙ e))
  handed_usable u q (needs k) e = u
  handed_usable u q (declined k) e = u

  next : UsableShown words s → (q : Request) → UsableShown words (shown_after words s q)
  next u q = handed_usable u q (called words s q) refl

none-usable : (words : List ℕ) (s : Shown) → Empty s → UsableShown words s
none-usable words s e =
    let none = e.none in
    record { few = omega arith; once = rw none tt; known = rw none tt; total = e.zero ∙ rw none }

pub shown_stays : ShownStays
shown_stays =
    record {
      none = λ words. none-usable words none_shown (record { none = refl; zero = refl });
      next = next;
      list_stands = called_ruled;
    }

-- ---- the comparison

module _ (words : List ℕ) where
  -- the numbers after a request are the plain list's
  step : (s : Shown) (v : Verdict (List ℕ)) → shown_numbers (handed_back words s v) ≡ thereafter (shown_numbers s) v
  step s (accepted l) = kept_order words s l
  step s (needs k) = refl
  step s (declined k) = refl

  stepped : (s : Shown) → UsableShown words s → (q : Request)
      → shown_numbers (shown_after words s q) ≡ thereafter (shown_numbers s) (ruled words (shown_numbers s) q)
  stepped s u q = step s (called words s q) ∙ ap (thereafter (shown_numbers s)) (called_ruled words s u q)

  kept_usable_after : (requests : List Request) (s : Shown) → UsableShown words s
      → UsableShown words (kept_after words s requests)
  unfolding kept_after
  kept_usable_after [] s u = u
  kept_usable_after (q ∷ requests) s u = kept_usable_after requests (shown_after words s q) (next words s u q)

  kept_plain : (requests : List Request) (s : Shown) → UsableShown words s
      → shown_numbers (kept_after words s requests) ≡ plain_after words (shown_numbers s) requests
  unfolding plain_after kept_after
  kept_plain [] s u = refl
  kept_plain (q ∷ requests) s u =
      kept_plain requests (shown_after words s q) (next words s u q)
      ∙ ap (λ (l : List ℕ). plain_after words l requests) (stepped s u q)

  -- the count is that of the numbers, whatever was said
  handed_counted : (s : Shown) (v : Verdict (List ℕ)) → s.count ≡ length (shown_numbers s)
      → (handed_back words s v).count ≡ length (shown_numbers (handed_back words s v))
  unfolding keeping
  handed_counted s (accepted l) c = ap length (sym (kept_order words s l))
  handed_counted s (needs k) c = c
  handed_counted s (declined k) c = c

  kept_counted : (requests : List Request) (s : Shown) → s.count ≡ length (shown_numbers s)
      → (kept_after words s requests).count ≡ length (shown_numbers (kept_after words s requests))
  unfolding kept_after
  kept_counted [] s c = c
  kept_counted (q ∷ requests) s c =
      kept_counted requests (shown_after words s q) (handed_counted s (called words s q) c)

  said_plain : (requests : List Request) (s : Shown) → UsableShown words s
      → kept_said words s requests ≡ plain_said words (shown_numbers s) requests
  unfolding plain_said kept_said
  said_plain [] s u = refl
  said_plain (q ∷ requests) s u =
      rw (said_plain requests (shown_after words s q) (next words s u q), stepped s u q, called_ruled words s u q)

same : (words : List ℕ) (s : Shown) → Empty s → (requests : List Request) → SameAsPlain words s requests
same words s e requests =
    let none = e.none in
    let z : shown_numbers s ≡ [] = rw none in
    let u = none-usable words s e in
    let o = kept_plain words requests s u ∙ ap (λ (l : List ℕ). plain_after words l requests) z in
    record {
      order = o;
      count = kept_counted words requests s (none ∙ ap length (sym z)) ∙ ap length o;
      total = (kept_usable_after words requests s u).total ∙ ap (points_of_all words) o;
      said = said_plain words requests s u ∙ ap (λ (l : List ℕ). plain_said words l requests) z;
    }

pub comparison : Comparison
comparison = record { none_empty = record { none = refl; zero = refl }; same = same }

-- ---- what each call does

module _ (words : List ℕ) (s : Shown) where
  unusable : (UsableShown words s → ⊥) → shown_usable words s ≡ false
  unusable h = go (shown_usable words s) refl
    where
      go : (b : Bool) → shown_usable words s ≡ b → shown_usable words s ≡ false
      go true e = absurd (h (usable_told words s e))
      go false e = e

  list : (UsableShown words s → ⊥) → (q : Request) → called words s q ≡ declined 19
  list h (showing n) = show_unusable words s n 19 (judged_list words s n (unusable h))
  list h (hiding n) = hide_unusable words s n 19 (judged_list words s n (unusable h))

  show_no_record : (n : ℕ) → length (records_in words) ≤ n → called words s (showing n) ≡ declined 19
  show_no_record n h = show_unusable words s n 19 (judged_number words s n (le-ltb n (length (records_in words)) h))

  hide_no_record : (n : ℕ) → length (records_in words) ≤ n → called words s (hiding n) ≡ declined 19
  hide_no_record n h = hide_unusable words s n 19 (judged_number words s n (le-ltb n (length (records_in words)) h))

  number : UsableShown words s → (n : ℕ) → n < length (records_in words) → EachNumber words s n
  number u n h =
      let t = usable_yes words s u in
      let k = lt-ltb n (length (records_in words)) h in
      let l = shown_numbers s in
      let shows = show_called words s n t k in
      let hides = hide_called words s n t k in
      record {
        again = λ e. shows ∙ rw e;
        full = λ e m. shows ∙ rw (e, le-ltb (length l) 64 m);
        shown = λ e m. shows ∙ rw (e, lt-ltb (length l) 64 m);
        not_shown = λ e. hides ∙ rw e;
        hidden = λ a b e.
            hides ∙ ap (λ (m : List ℕ). taken_out_of m n) e
            ∙ rw (among-between n a b, without-between n a b (rw e at u.once));
      }

  module _ (q : Request) where
    unchanged : (k : ℕ) → called words s q ≡ declined k → shown_after words s q ≡ s
    unchanged k e = rw e

    few : (l : List ℕ) → called words s q ≡ accepted l → length l ≤ 64
    unfolding called
    few l e =
        let t = tested_value (shown_usable words s) (ruled words (shown_numbers s) q) 19 l e in
        (ruled_plain words (shown_numbers s) (plain words s (usable_told words s t.0)) q l t.1).few

    order : (l : List ℕ) → called words s q ≡ accepted l → shown_numbers (shown_after words s q) ≡ l
    order l e = ap (λ (v : Verdict (List ℕ)). shown_numbers (handed_back words s v)) e ∙ kept_order words s l

    total : (l : List ℕ) → called words s q ≡ accepted l → (shown_after words s q).total ≡ points_of_all words l
    unfolding keeping
    total l e = ap (λ (v : Verdict (List ℕ)). (handed_back words s v).total) e

    behind : (l : List ℕ) → called words s q ≡ accepted l
        → drop (length l) (shown_after words s q).entries ≡ drop (length l) s.entries
    unfolding keeping
    behind l e =
        ap (λ (v : Verdict (List ℕ)). drop (length l) (handed_back words s v).entries) e
        ∙ drop-append_seam l (drop (length l) s.entries)

pub shown_exactly : ShownExactly
shown_exactly =
    record {
      records = records-count;
      points = λ words n h. points_word words n;
      usable = λ words s. (usable_told words s, usable_yes words s);
      list = list;
      show_no_record = show_no_record;
      hide_no_record = hide_no_record;
      number = number;
      unchanged = unchanged;
      few = few;
      order = order;
      total = total;
      behind = behind;
    }
