-- The rule for lent buffers, one law for each way through it: the call is refused, a buffer is too short, or all lists
-- are stored. Assumes nothing.
use Rattle.std.proofs.Common.{◌≡◌, ℕ, ◌/◌, ◌<◌, ◌≤◌, Bool, true, false, cond, ◌&&◌, leb, List, [], ◌∷◌, ◌++◌, map, length, drop, sym, refl, ap, ◌∙◌, ap₂, zero-add, arith, le-leb, leb-true}
use mathlib.Core.Bool.{and-true}
use lib.Seq.{sets, sets-eq}
use borrow.Author.Tests.{lt-leb}
use Rattle.bits.specs.Verdict.{Verdict, accepted, needs, declined, mapped}
use Rattle.bits.specs.Refusals.{Refuses, gives, refuses, RefusesOr12, listed, asks}
use Rattle.bits.proofs.VerdictLaws.{clash, both_true}
use Rattle.payload.specs.Lent.{Plan, all_fit, ◌onto◌, all_onto, answer_for, buffers_after, in_items}

-- ---- buffers, and lists that they are long enough for

-- each of some lengths is at most its buffer's, tested after t
abbrev tested : Bool → List ℕ → List (List ℕ) → Bool
tested t [] buffers = t
tested t (n ∷ lengths) [] = false
tested t (n ∷ lengths) (b ∷ buffers) = tested (t && leb n (length b)) lengths buffers

-- the same from the first on, as the code joins the tests
abbrev pub room_for : List ℕ → List (List ℕ) → Bool
room_for [] buffers = true
room_for (n ∷ lengths) [] = false
room_for (n ∷ lengths) (b ∷ buffers) = tested (leb n (length b)) lengths buffers

-- and one by one
abbrev pub Room : List ℕ → List (List ℕ) → Type 0
Room [] buffers = Unit {0}
Room (n ∷ lengths) [] = ⊥
Room (n ∷ lengths) (b ∷ buffers) = (n ≤ length b) × Room lengths buffers

tested-and : (t : Bool) (lists buffers : List (List ℕ))
    → tested t (map length lists) buffers ≡ (t && all_fit lists buffers)
tested-and t [] buffers = sym (and-true t)
tested-and t (l ∷ lists) [] = and_no t
  where
    and_no : (t : Bool) → false ≡ (t && false)
    and_no true = refl
    and_no false = refl
tested-and t (l ∷ lists) (b ∷ buffers) =
    tested-and (t && leb (length l) (length b)) lists buffers
    ∙ and_both t (leb (length l) (length b)) (all_fit lists buffers)
  where
    and_both : (a b c : Bool) → ((a && b) && c) ≡ (a && (b && c))
    and_both true b c = refl
    and_both false b c = refl

room_fit : (lists buffers : List (List ℕ)) → room_for (map length lists) buffers ≡ all_fit lists buffers
room_fit [] buffers = refl
room_fit (l ∷ lists) [] = refl
room_fit (l ∷ lists) (b ∷ buffers) = tested-and (leb (length l) (length b)) lists buffers

fit_room : (lists buffers : List (List ℕ)) → all_fit lists buffers ≡ true → Room (map length lists) buffers
fit_room [] buffers h = tt
fit_room (l ∷ lists) [] h = clash (cc)
fit_room (l ∷ lists) (b ∷ buffers) h =
    let t = both_true (leb (length l) (length b)) (all_fit lists buffers) h in
    (leb-true (length l) (length b) t.0, fit_room lists buffers t.1)

-- each list stored from place 0 on
abbrev pub stored : List (List ℕ) → List (List ℕ) → List (List ℕ)
stored [] buffers = buffers
stored (l ∷ lists) [] = []
stored (l ∷ lists) (b ∷ buffers) = sets b 0 l ∷ stored lists buffers

sets_onto : (l b : List ℕ) → length l ≤ length b → sets b 0 l ≡ l onto b
sets_onto l b h = sets-eq l b 0 (omega arith) ∙ ap (λ (k : ℕ). l ++ drop k b) (zero-add (length l))

stored_onto : (lists buffers : List (List ℕ)) → all_fit lists buffers ≡ true
    → stored lists buffers ≡ all_onto lists buffers
stored_onto [] buffers h = refl
stored_onto (l ∷ lists) [] h = refl
stored_onto (l ∷ lists) (b ∷ buffers) h =
    let t = both_true (leb (length l) (length b)) (all_fit lists buffers) h in
    ap₂ ◌∷◌ (sets_onto l b (leb-true (length l) (length b) t.0)) (stored_onto lists buffers t.1)

-- ---- the three ways

-- what a call says, and the buffers afterwards, are the plan's
abbrev pub Keeps : {A : Type 0} → Verdict (Plan A) → List (List ℕ) → Verdict A → List (List ℕ) → Type 0
Keeps plan buffers said after = (said ≡ answer_for plan buffers) × (after ≡ buffers_after plan buffers)

module _ {A : Type 0} (plan : Verdict (Plan A)) (buffers : List (List ℕ)) where
  pub refused : (k : ℕ) → plan ≡ declined k → Keeps plan buffers (declined k) buffers
  unfolding answer_for buffers_after
  refused k e = rw e (refl, refl)

  module _ (p : Plan A) (e : plan ≡ accepted p) where
    pub fit_answer : all_fit p.lists buffers ≡ true → answer_for plan buffers ≡ accepted p.answer
    unfolding answer_for
    fit_answer h = rw (e, h)

    pub fit_after : all_fit p.lists buffers ≡ true → buffers_after plan buffers ≡ all_onto p.lists buffers
    unfolding buffers_after
    fit_after h = rw (e, h)

    module _ (lengths : List ℕ) (m : lengths ≡ map length p.lists) where
      pub fit_by : (t : Bool) → room_for lengths buffers ≡ t → all_fit p.lists buffers ≡ t
      fit_by t h = sym (room_fit p.lists buffers) ∙ ap (λ (n : List ℕ). room_for n buffers) (sym m) ∙ h

      pub enough : room_for lengths buffers ≡ true → Room (map length p.lists) buffers
      enough h = fit_room p.lists buffers (fit_by true h)

      pub too_short : room_for lengths buffers ≡ false → Keeps plan buffers (needs lengths) buffers
      unfolding answer_for buffers_after
      too_short h = let f = fit_by false h in rw (e, f) (ap needs m, refl)

      pub all_stored : room_for lengths buffers ≡ true → (answer : A) → answer ≡ p.answer
          → (after : List (List ℕ)) → after ≡ stored p.lists buffers → Keeps plan buffers (accepted answer) after
      all_stored h answer a after s =
          let f = fit_by true h in (
            ap accepted a ∙ sym (fit_answer f),
            s ∙ stored_onto p.lists buffers f ∙ sym (fit_after f),
          )

-- what an acceptance tells
pub answer_value : {A : Type 0} (plan : Verdict (Plan A)) (buffers : List (List ℕ)) (a : A)
    → answer_for plan buffers ≡ accepted a
    → (p : Plan A) × ((plan ≡ accepted p) × (all_fit p.lists buffers ≡ true))
unfolding answer_for
answer_value {A} (accepted p) buffers a e = (p, (refl, go (all_fit p.lists buffers) e))
  where
    go : (t : Bool) → cond t (accepted p.answer) (needs (map length p.lists)) ≡ accepted a → t ≡ true
    go true e = refl
    go false e = clash (cc)
answer_value (needs n) buffers a e = clash (cc)
answer_value (declined k) buffers a e = clash (cc)

-- where nothing is accepted all buffers are as they were
pub kept : {A : Type 0} (plan : Verdict (Plan A)) (buffers : List (List ℕ))
    → ((a : A) → answer_for plan buffers ≡ accepted a → ⊥) → buffers_after plan buffers ≡ buffers
unfolding buffers_after
kept (accepted p) buffers h =
    go (all_fit p.lists buffers) (λ e. h p.answer (fit_answer (accepted p) buffers p refl e))
  where
    go : (t : Bool) → (t ≡ true → ⊥) → cond t (all_onto p.lists buffers) buffers ≡ buffers
    go true h = absurd (h refl)
    go false h = refl
kept (needs n) buffers h = refl
kept (declined k) buffers h = refl

-- the same lists under another answer
pub renamed : {X A B : Type 0} (f : A → B) (p : X → Plan A) (q : X → Plan B)
    → ((x : X) → f (p x).answer ≡ (q x).answer) → ((x : X) → (p x).lists ≡ (q x).lists)
    → (v : Verdict X) (buffers : List (List ℕ)) (said : Verdict A) (after : List (List ℕ))
    → Keeps (mapped p v) buffers said after → Keeps (mapped q v) buffers (mapped f said) after
unfolding answer_for buffers_after
renamed {X} {A} {B} f p q a l v buffers said after k = (ap (mapped f) k.0 ∙ one v, k.1 ∙ two v)
  where
    same : (t : Bool) (x : X)
        → mapped f (cond t (accepted (p x).answer) (needs (map length (p x).lists)))
        ≡ cond t (accepted (q x).answer) (needs (map length (q x).lists))
    same true x = ap accepted (a x)
    same false x = ap (λ (n : List (List ℕ)). needs (map length n)) (l x)

    one : (v : Verdict X) → mapped f (answer_for (mapped p v) buffers) ≡ answer_for (mapped q v) buffers
    one (accepted x) =
        same (all_fit (p x).lists buffers) x
        ∙ ap (λ (n : List (List ℕ)).
        cond (all_fit n buffers) (accepted (q x).answer) (needs (map length (q x).lists))) (l x)
    one (needs n) = refl
    one (declined k) = refl

    two : (v : Verdict X) → buffers_after (mapped p v) buffers ≡ buffers_after (mapped q v) buffers
    two (accepted x) =
        ap (λ (n : List (List ℕ)). cond (all_fit n buffers) (all_onto n buffers) buffers) (l x)
    two (needs n) = refl
    two (declined k) = refl

-- ---- one buffer, and a list that may be refused

module _ (u : ℕ) (v : Verdict (List ℕ)) (out : List ℕ) where
  pub told_declined : (k : ℕ) → v ≡ declined k → Keeps (in_items u v) (out ∷ []) (declined k) (out ∷ [])
  told_declined k e = refused (in_items u v) (out ∷ []) k (rw e)

  pub told_needs : (l : List ℕ) (n : ℕ) → v ≡ accepted l → n ≡ length l → length out < n
      → Keeps (in_items u v) (out ∷ []) (needs (n ∷ [])) (out ∷ [])
  told_needs l n e m h =
      too_short (in_items u v) (out ∷ []) _ (ap (in_items u) e) (n ∷ []) (rw m) (lt-leb n (length out) h)

  pub told_filled : (l r : List ℕ) (n : ℕ) → v ≡ accepted l → n ≡ length l / u → length l ≤ length out
      → r ≡ sets out 0 l → Keeps (in_items u v) (out ∷ []) (accepted n) (r ∷ [])
  told_filled l r n e m h s =
      all_stored (in_items u v) (out ∷ []) _ (ap (in_items u) e) (length l ∷ []) refl
      (le-leb (length l) (length out) h) n m (r ∷ []) (rw s)

  -- the same of the list itself
  pub told_same : (l r : List ℕ) (said : Verdict ℕ) → v ≡ accepted l
      → Keeps (in_items u (accepted l)) (out ∷ []) said (r ∷ []) → Keeps (in_items u v) (out ∷ []) said (r ∷ [])
  told_same l r said e k = rw e k

  -- a list that is known to fit
  pub told_onto : (l : List ℕ) → v ≡ accepted l → length l ≤ length out
      → buffers_after (in_items u v) (out ∷ []) ≡ (l onto out) ∷ []
  told_onto l e h =
      fit_after (in_items u v) (out ∷ []) _ (ap (in_items u) e) (simp (le-leb (length l) (length out) h))

-- ---- a plan's refusals are the call's, and 12 beside them

pub answer_refuses : {A : Type 0} {ks : List ℕ} {v : Verdict (Plan A)} (buffers : List (List ℕ)) → Refuses ks v
    → RefusesOr12 ks (answer_for v buffers)
unfolding answer_for
answer_refuses {ks = ks} buffers (gives p) = go (all_fit p.lists buffers)
  where
    go : (b : Bool) → RefusesOr12 ks (cond b (accepted p.answer) (needs (map length p.lists)))
    go true = listed (gives p.answer)
    go false = asks (map length p.lists)
answer_refuses buffers (refuses k e) = listed (refuses k e)
