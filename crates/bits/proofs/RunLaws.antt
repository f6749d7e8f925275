-- A run of delta fields: one law for each way through a turn of `read_run`, what a run that was read tells, and that it is read exactly where it is spelled. Assumes nothing.
use Rattle.std.proofs.Common.{◌≡◌, ℕ, zero, suc, ◌+◌, ◌*◌, ◌<◌, ◌≤◌, leb, List, [], ◌∷◌, ◌++◌, length, get_or, sym, refl, ap, ◌∙◌, append_assoc, suc-le-suc, le_of_suc-le-suc, zero-lt-suc, arith, length-append, le-leb, leb-true}
use borrow.Author.Tests.{lt-leb}
use Rattle.bits.specs.Verdict.{Verdict, accepted, needs, declined, and_then}
use Rattle.bits.specs.Field.{field}
use Rattle.bits.specs.Number.{Moves, stepped_to}
use Rattle.bits.proofs.NumberLaws.{ran_moves, moves_ran}
use Rattle.bits.proofs.VerdictLaws.{clash, tested_value, then_value}
use Rattle.bits.specs.Run.{RunSpells, Found, complete, shift, next_of, in_front, read_run}
use Rattle.bits.specs.Internal.{FieldsAt, MovedBy}
use Rattle.bits.specs.declared.fields.runs.Five.{Five}

-- ---- fields that are to be complete

module _ {A : Type 0} (s : List ℕ) (e : ℕ) (v : Verdict A) where
  pub complete_no : 8 * length s < e → complete s e v ≡ declined 3
  unfolding complete
  complete_no h = simp (lt-leb e (8 * length s) h)

  pub complete_yes : e ≤ 8 * length s → complete s e v ≡ v
  unfolding complete
  complete_yes h = simp (le-leb e (8 * length s) h)

  pub complete_value : (a : A) → complete s e v ≡ accepted a → (e ≤ 8 * length s) × (v ≡ accepted a)
  unfolding complete
  complete_value a d = let t = tested_value (leb e (8 * length s)) v 3 a d in (leb-true e (8 * length s) t.0, t.1)

-- ---- a turn

module _ (s : List ℕ) (w limit n p : ℕ) (prior : List ℕ) where
  pub run_short : 8 * length s < p + w → read_run s w limit (suc n) p prior ≡ declined 3
  unfolding read_run
  run_short h = complete_no s (p + w) _ h

  module _ (h : p + w ≤ 8 * length s) where
    pub run_out : next_of s w limit p prior ≡ declined 8 → read_run s w limit (suc n) p prior ≡ declined 8
    unfolding read_run
    run_out e = complete_yes s (p + w) _ h ∙ rw e

    pub run_on : (next : ℕ) → next_of s w limit p prior ≡ accepted next → read_run s w limit (suc n) p prior ≡ in_front next (read_run s w limit n (p + w) (shift prior next))
    unfolding read_run
    run_on next e = complete_yes s (p + w) _ h ∙ rw e

pub front_value : (n : ℕ) (v : Found (List ℕ)) (ns : List ℕ) (q : ℕ) → in_front n v ≡ accepted (ns, q) → (ms : List ℕ) × (ns ≡ n ∷ ms) × (v ≡ accepted (ms, q))
front_value n (accepted x) ns q e =
    let z : ◌≡◌ {A = List ℕ × ℕ} (n ∷ x.0, x.1) (ns, q) = cc in
    let y : x.1 ≡ q = ap (λ (a : List ℕ × ℕ). a.1) z in
    (x.0, sym (ap (λ (a : List ℕ × ℕ). a.0) z), ap (λ (k : ℕ). accepted (x.0, k)) y)
front_value n (needs l) ns q e = clash (cc)
front_value n (declined k) ns q e = clash (cc)

-- what a run that was read tells of its first field
pub record First (s : List ℕ) (w limit n p : ℕ) (prior ns : List ℕ) (q : ℕ) : Type 0 where
  pub room : p + w ≤ 8 * length s
  pub next : ℕ
  pub ran : next_of s w limit p prior ≡ accepted next
  pub tail : List ℕ
  pub cons : ns ≡ next ∷ tail
  pub rest : read_run s w limit n (p + w) (shift prior next) ≡ accepted (tail, q)

pub run_first : (s : List ℕ) (w limit n p : ℕ) (prior ns : List ℕ) (q : ℕ) → read_run s w limit (suc n) p prior ≡ accepted (ns, q) → First s w limit n p prior ns q
unfolding read_run
run_first s w limit n p prior ns q e =
    let after : ℕ → Found (List ℕ) = λ next. in_front next (read_run s w limit n (p + w) (shift prior next)) in
    let c = complete_value s (p + w) (and_then (next_of s w limit p prior) after) (ns, q) e in
    let t = then_value (next_of s w limit p prior) after (ns, q) c.1 in
    let b = front_value t.0 (read_run s w limit n (p + w) (shift prior t.0)) ns q t.2 in
    record { room = c.0; next = t.0; ran = t.1; tail = b.0; cons = b.1; rest = b.2 }

-- ---- a spelled run, field by field

-- the running numbers and the numbers that follow are one list, and a step moves the seam
seam : (prior xs : List ℕ) (x i : ℕ) → 0 < length prior → get_or (prior ++ x ∷ xs) (suc i) 0 ≡ get_or (shift prior x ++ xs) i 0
seam [] xs x i h = absurd (omega arith)
seam (a ∷ t) xs x i h = ap (λ (l : List ℕ). get_or l i 0) (sym (append_assoc t (x ∷ []) xs))

front : (prior ns : List ℕ) → 0 < length prior → get_or (prior ++ ns) 0 0 ≡ get_or prior 0 0
front [] ns h = absurd (omega arith)
front (a ∷ t) ns h = refl

pub shift_some : (prior : List ℕ) (x : ℕ) → 0 < length (shift prior x)
shift_some prior x = simp length-append (omega arith)

module _ (s : List ℕ) (w limit p : ℕ) (prior : List ℕ) where
  pub spells_none : RunSpells s w limit p prior []
  spells_none = record { whole = λ i l. absurd (omega arith); below = λ i l. absurd (omega arith); moves = λ i l. absurd (omega arith) }

  module _ (some : 0 < length prior) (x : ℕ) (xs : List ℕ) where
    at : (i : ℕ) → p + suc i * w ≡ p + w + i * w
    at i = omega arith

    pub spells_cons : p + w ≤ 8 * length s → x < limit → Moves (field s p w) (get_or prior 0 0) x → RunSpells s w limit (p + w) (shift prior x) xs
        → RunSpells s w limit p prior (x ∷ xs)
    spells_cons h b m r = record { whole = cs; below = bs; moves = ms }
      where
        cs : (i : ℕ) → i < suc (length xs) → p + (i + 1) * w ≤ 8 * length s
        cs zero l = omega arith
        cs (suc i) l = omega (arith, r.whole i (le_of_suc-le-suc l))

        bs : (i : ℕ) → i < suc (length xs) → get_or (x ∷ xs) i 0 < limit
        bs zero l = b
        bs (suc i) l = r.below i (le_of_suc-le-suc l)

        ms : (i : ℕ) → i < suc (length xs) → Moves (field s (p + i * w) w) (get_or (prior ++ x ∷ xs) i 0) (get_or (x ∷ xs) i 0)
        ms zero l = let z : p + 0 * w ≡ p = omega arith in rw (z, front prior (x ∷ xs) some) m
        ms (suc i) l = rw (at i, seam prior xs x i some) (r.moves i (le_of_suc-le-suc l))

    pub spells_tail : RunSpells s w limit p prior (x ∷ xs) → RunSpells s w limit (p + w) (shift prior x) xs
    spells_tail r =
        record {
          whole = λ i l. omega (arith, r.whole (suc i) (suc-le-suc l));
          below = λ i l. r.below (suc i) (suc-le-suc l);
          moves = λ i l. rw (at i, seam prior xs x i some) at (r.moves (suc i) (suc-le-suc l));
        }

    pub spells_head : RunSpells s w limit p prior (x ∷ xs) → (p + w ≤ 8 * length s) × (x < limit) × Moves (field s p w) (get_or prior 0 0) x
    spells_head r =
        let o : 0 < suc (length xs) = zero-lt-suc (length xs) in
        let z : p + 0 * w ≡ p = omega arith in
        (omega (arith, r.whole 0 o), r.below 0 o, rw (z, front prior (x ∷ xs) some) at (r.moves 0 o))

-- ---- a run is read exactly where it is spelled

module _ (s : List ℕ) (w limit : ℕ) where
  pub run_spells : (n p : ℕ) (prior ns : List ℕ) (q : ℕ) → 0 < length prior → read_run s w limit n p prior ≡ accepted (ns, q)
      → RunSpells s w limit p prior ns × (length ns ≡ n) × (q ≡ p + n * w)
  unfolding read_run
  run_spells zero p prior ns q o e =
      let x : ◌≡◌ {A = List ℕ × ℕ} ([], p) (ns, q) = cc in
      let z : ns ≡ [] = sym (ap (λ (a : List ℕ × ℕ). a.0) x) in
      let y : p ≡ q = ap (λ (a : List ℕ × ℕ). a.1) x in
      rw z (spells_none s w limit p prior, refl, omega arith)
  run_spells (suc n) p prior ns q o e =
      let i = run_first s w limit n p prior ns q e in
      let x = i.next in
      let m = ran_moves (get_or prior 0 0) (field s p w) limit x i.ran in
      let ih = run_spells n (p + w) (shift prior x) i.tail q (shift_some prior x) i.rest in
      rw i.cons (spells_cons s w limit p prior o x i.tail i.room m.1 m.0 ih.0, ap suc ih.1, omega arith)

  pub spells_run : (p : ℕ) (prior ns : List ℕ) → 0 < length prior → RunSpells s w limit p prior ns
      → read_run s w limit (length ns) p prior ≡ accepted (ns, p + length ns * w)
  unfolding read_run
  spells_run p prior [] o r = ap (λ (k : ℕ). accepted ([], k)) (omega arith)
  spells_run p prior (x ∷ xs) o r =
      let f = spells_head s w limit p prior o x xs r in
      let y : p + w + length xs * w ≡ p + suc (length xs) * w = omega arith in
      run_on s w limit (length xs) p prior f.0 x (moves_ran (get_or prior 0 0) (field s p w) limit x f.2 f.1)
      ∙ rw (spells_run (p + w) (shift prior x) xs (shift_some prior x) (spells_tail s w limit p prior o x xs r)) (ap (λ (k : ℕ). accepted (x ∷ xs, k)) y)

-- ---- five fields at once

-- the five fields from bit p on take the numbers v to the numbers r
pub record FiveTo (s : List ℕ) (w p : ℕ) (v r : Five ℕ) : Type 0 where
  pub first : r.a ≡ stepped_to v.a (field s p w)
  pub second : r.b ≡ stepped_to v.b (field s (p + w) w)
  pub third : r.c ≡ stepped_to v.c (field s (p + w + w) w)
  pub fourth : r.d ≡ stepped_to v.d (field s (p + w + w + w) w)
  pub fifth : r.e ≡ stepped_to v.e (field s (p + w + w + w + w) w)

pub five-to : {s : List ℕ} {w p : ℕ} {f v r : Five ℕ} → FieldsAt s w p f → MovedBy f v r → FiveTo s w p v r
five-to {v = v} q m =
    record {
      first = m.first ∙ ap (stepped_to v.a) q.first;
      second = m.second ∙ ap (stepped_to v.b) q.second;
      third = m.third ∙ ap (stepped_to v.c) q.third;
      fourth = m.fourth ∙ ap (stepped_to v.d) q.fourth;
      fifth = m.fifth ∙ ap (stepped_to v.e) q.fifth;
    }
