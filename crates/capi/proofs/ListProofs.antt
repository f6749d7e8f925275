-- The theorems of specs/ListLaws.antt: a list of 64 entries that was put into a buffer is what stands there then.
-- Assumes nothing.
use Rattle.std.proofs.Common.{◌≡◌, ℕ, ◌<◌, ◌≤◌, ◌⊎◌, List, [], ◌∷◌, length, take, drop, sym, refl, ap, ◌∙◌, inl, inr, arith, le-leb}
use lib.Seq.{take-append_seam}
use Rattle.bits.specs.Verdict.{Verdict, accepted, needs, declined, mapped}
use Rattle.bits.proofs.VerdictLaws.{clash, le-or-lt}
use Rattle.payload.specs.Lent.{Plan, ◌onto◌, answer_for, buffers_after}
use Rattle.payload.proofs.LentLaws as lent
use Rattle.display.specs.ShownRules.{Request, changed}
use Rattle.display.specs.ShownKept.{none_shown, called, keeping, handed_back, shown_after}
use Rattle.display.specs.declared.shown.Shown.{Shown}
use Rattle.display.proofs.ShownProofs.{shown_exactly}
use Rattle.capi.specs.ShownLists.{list_of, list_plan, none_plan, list_called}
use Rattle.capi.specs.ListLaws.{Leaves, ListLaws}
use Rattle.capi.proofs.ShownListLaws.{front_length, few, none_few}

-- ---- a list that is put

module _ (s : Shown) (long : length s.entries ≡ 64) (entries : List ℕ) (h : 64 ≤ length entries) where
  put_said : answer_for (accepted (list_plan s)) (entries ∷ []) ≡ accepted (s.count, s.total)
  unfolding answer_for
  put_said = rw (le-leb (length s.entries) (length entries) (omega arith))

  put_left : buffers_after (accepted (list_plan s)) (entries ∷ []) ≡ (s.entries onto entries) ∷ []
  unfolding buffers_after
  put_left = rw (le-leb (length s.entries) (length entries) (omega arith))

  front : take 64 (s.entries onto entries) ≡ s.entries
  front =
      ap (λ (j : ℕ). take j (s.entries onto entries)) (sym long)
      ∙ take-append_seam s.entries (drop (length s.entries) entries)

  leaves : Leaves (accepted (list_plan s)) entries s
  leaves left count total a b =
      let said = sym put_said ∙ a in
      let put = b ∙ put_left in
      let same : ◌≡◌ {A = ℕ × ℕ} (count, total) (s.count, s.total) = cc in
      let c : count ≡ s.count = ap (λ (x : ℕ × ℕ). x.0) same in
      let t : total ≡ s.total = ap (λ (x : ℕ × ℕ). x.1) same in
      let l : left ≡ s.entries onto entries = cc in
      rw (c, t, l, front)

-- ---- the empty list

none_shown_law : (entries : List ℕ) → Leaves (accepted none_plan) entries none_shown
none_shown_law entries = go (le-or-lt 64 (length entries))
  where
    go : (64 ≤ length entries) ⊎ (length entries < 64) → Leaves (accepted none_plan) entries none_shown
    go (inl h) = leaves none_shown refl entries h
    go (inr h) = λ left count total a b. let e = sym (none_few entries h) ∙ a in clash (cc)

-- ---- showing and hiding

module _ (words entries : List ℕ) (count total : ℕ) (q : Request) where
  abbrev s : Shown
  s = list_of entries count total

  abbrev plan : Verdict (Plan (ℕ × ℕ))
  plan = list_called words entries count total q

  module _ (h : 64 ≤ length entries) where
    -- v is what the rules say
    judged : (v : Verdict (List ℕ)) → called words s q ≡ v → plan ≡ mapped (λ l. list_plan (keeping words s l)) v
    unfolding list_called
    judged v e = rw (le-leb 64 (length entries) h, e)

    kept_long : (l : List ℕ) → called words s q ≡ accepted l → length (keeping words s l).entries ≡ 64
    unfolding keeping
    kept_long l e = front_length l entries 64 (shown_exactly.few words s q l e) h

    kept_by : (v : Verdict (List ℕ)) → called words s q ≡ v → Leaves plan entries (handed_back words s v)
    unfolding answer_for
    kept_by (accepted l) e = rw (judged (accepted l) e) (leaves (keeping words s l) (kept_long l e) entries h)
    kept_by (needs k) e = λ left c t a b. let d = rw (judged (needs k) e) at a in clash (cc)
    kept_by (declined k) e = λ left c t a b. let d = rw (judged (declined k) e) at a in clash (cc)

    said_by : (v : Verdict (List ℕ)) → called words s q ≡ v
        → mapped (λ u. tt) (answer_for plan (entries ∷ [])) ≡ changed v
    unfolding answer_for
    said_by (accepted l) e =
        rw (judged (accepted l) e) (ap (mapped (λ u. tt)) (put_said (keeping words s l) (kept_long l e) entries h))
    said_by (needs k) e = rw (judged (needs k) e)
    said_by (declined k) e = rw (judged (declined k) e)

  kept : Leaves plan entries (shown_after words s q)
  kept = go (le-or-lt 64 (length entries))
    where
      go : (64 ≤ length entries) ⊎ (length entries < 64) → Leaves plan entries (shown_after words s q)
      go (inl h) = kept_by h (called words s q) refl
      go (inr h) = λ left c t a b. let e = sym (few words entries count total q h) ∙ a in clash (cc)

pub list_laws : ListLaws
list_laws =
    record {
      none_shown_law = none_shown_law;
      none_said = put_said none_shown refl;
      none_few = none_few;
      kept = kept;
      said = λ words entries count total q h. said_by words entries count total q h _ refl;
      few = few;
      unchanged = λ words entries count total q. lent.kept (list_called words entries count total q) (entries ∷ []);
    }
