-- A list of shown submeshes in a lent buffer: what the words and the buffer are after a call. Assumes nothing.
use Rattle.std.proofs.Common.{◌≡◌, ℕ, ◌<◌, ◌≤◌, List, [], ◌∷◌, length, take, drop, sym, refl, ap, ◌∙◌, arith, length-append, length-drop, length-take-le, le-leb}
use borrow.Author.Tests.{lt-leb}
use Rattle.bits.specs.Verdict.{Verdict, accepted, needs, declined, mapped}
use Rattle.payload.specs.Lent.{Plan, ◌onto◌, answer_for, buffers_after}
use Rattle.display.specs.ShownRules.{Request, changed}
use Rattle.display.specs.ShownKept.{none_shown, called, keeping, handed_back, shown_after}
use Rattle.display.specs.declared.shown.Shown.{Shown}
use Rattle.display.proofs.ShownProofs.{shown_exactly}
use Rattle.capi.specs.Answer.{two}
use Rattle.capi.specs.ShownLists.{list_of, none_plan, list_called, entries_after}

-- a list onto the front of a buffer
pub front_length : (l d : List ℕ) (n : ℕ) → length l ≤ n → n ≤ length d → length (l onto take n d) ≡ n
front_length l d n h k =
    let size = length-take-le n d k in
    length-append l (drop (length l) (take n d)) ∙ omega (arith, length-drop (length l) (take n d))

module _ (words entries : List ℕ) (count total : ℕ) (q : Request) where
  abbrev s : Shown
  s = list_of entries count total

  abbrev plan : Verdict (Plan (ℕ × ℕ))
  plan = list_called words entries count total q

  -- fewer than 64 entries
  module _ (h : length entries < 64) where
    pub few : answer_for plan (entries ∷ []) ≡ needs (64 ∷ [])
    unfolding list_called answer_for
    few = rw (lt-leb 64 (length entries) h)

    pub few_said : needs (64 ∷ []) ≡ mapped two (answer_for plan (entries ∷ []))
    few_said = ap (mapped two) (sym few)

    pub few_left : entries ∷ [] ≡ buffers_after plan (entries ∷ [])
    unfolding list_called buffers_after
    few_left = rw (lt-leb 64 (length entries) h)

  module _ (h : 64 ≤ length entries) where
    -- v is what the rules say
    said_by : (v : Verdict (List ℕ)) → called words s q ≡ v
        → mapped (λ u. two ((handed_back words s v).count, (handed_back words s v).total)) (changed v)
        ≡ mapped two (answer_for plan (entries ∷ []))
    unfolding list_called answer_for keeping
    said_by (accepted l) e =
        let long = front_length l entries 64 (shown_exactly.few words s q l e) h in
        rw (le-leb 64 (length entries) h, e, le-leb (length (l onto take 64 entries)) (length entries) (omega arith))
    said_by (needs k) e = rw (le-leb 64 (length entries) h, e)
    said_by (declined k) e = rw (le-leb 64 (length entries) h, e)

    left_by : (v : Verdict (List ℕ)) → called words s q ≡ v
        → entries_after (changed v) (handed_back words s v) entries ∷ [] ≡ buffers_after plan (entries ∷ [])
    unfolding list_called buffers_after keeping
    left_by (accepted l) e =
        let long = front_length l entries 64 (shown_exactly.few words s q l e) h in
        rw (le-leb 64 (length entries) h, e, le-leb (length (l onto take 64 entries)) (length entries) (omega arith))
    left_by (needs k) e = rw (le-leb 64 (length entries) h, e)
    left_by (declined k) e = rw (le-leb 64 (length entries) h, e)

    -- r is the list that was handed in, c what the call said, and t the list that it handed back
    module _ (r : Shown) (i : r ≡ s) (c : Verdict (Unit {0})) (t : Shown)
        (a : c ≡ changed (called words r q)) (b : t ≡ shown_after words r q) where
      pub list_said : mapped (λ u. two (t.count, t.total)) c ≡ mapped two (answer_for plan (entries ∷ []))
      list_said = rw (a, b, i) (said_by (called words s q) refl)

      pub list_left : (l : List ℕ) → l ≡ entries_after c t entries → l ∷ [] ≡ buffers_after plan (entries ∷ [])
      list_left l e = rw (e, a, b, i) (left_by (called words s q) refl)

-- ---- the empty list

module _ (entries : List ℕ) where
  module _ (h : length entries < 64) where
    pub none_few : answer_for (accepted none_plan) (entries ∷ []) ≡ needs (64 ∷ [])
    unfolding answer_for
    none_few = rw (lt-leb 64 (length entries) h)

    pub none_few_said : needs (64 ∷ []) ≡ mapped two (answer_for (accepted none_plan) (entries ∷ []))
    none_few_said = ap (mapped two) (sym none_few)

    pub none_few_left : entries ∷ [] ≡ buffers_after (accepted none_plan) (entries ∷ [])
    unfolding buffers_after
    none_few_left = rw (lt-leb 64 (length entries) h)

  module _ (h : 64 ≤ length entries) (s : Shown) (e : s ≡ none_shown) where
    pub none_said : accepted (two (s.count, s.total)) ≡ mapped two (answer_for (accepted none_plan) (entries ∷ []))
    unfolding answer_for
    none_said = rw (e, le-leb 64 (length entries) h)

    pub none_left : (l : List ℕ) → l ≡ s.entries onto entries
        → l ∷ [] ≡ buffers_after (accepted none_plan) (entries ∷ [])
    unfolding buffers_after
    none_left l i = rw (i, e, le-leb 64 (length entries) h)
