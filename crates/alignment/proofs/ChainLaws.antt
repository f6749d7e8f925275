-- Laws of the asked points in chains: the last question of a stretch, chains that are made, and what is found and
-- stored along one. Assumes nothing.
use Prim.Native.Nat.{ℕ, zero, suc, ◌+◌, ◌-◌, ◌*◌, ◌/◌, ◌≤◌, ◌<◌}
use mathlib.Core.Path.{◌≡◌, refl, sym, ap, ◌∙◌}
use mathlib.Core.Bool.{Bool, true, false, cond}
use mathlib.Core.List.{List}
use mathlib.Core.Logic.{◌⊎◌, inl, inr}
use native.Mathlib.Omega.{arith}
use native.Mathlib.Decide.{ℕ_discrete}
use native.Mathlib.Numerals.{add-one}
use native.Mathlib.Nat.{add-mul, mul-le-mul_right, div-mul-le_self, lt-div-mul-add, div-eq_of_lt-le, div-lt_iff_lt-mul}
use lib.Dec.{eqb}
use lib.ListN.{length, get_or, set, length-set}
use lib.Seq.{get_or-set_same, get_or-set_other}
use borrow.Author.Tests.{eq-eqb, ne_eqb}
use Rattle.bits.proofs.VerdictLaws.{le-or-lt}
use Rattle.payload.proofs.TallyLaws.{all_zero, zero_at}
use Rattle.alignment.specs.LookUp.{farthest}
use Rattle.alignment.specs.Internal.{Stretches, last_in, ChainedTo, Chained, nearest, NoneBetween, Filled}
use Rattle.alignment.proofs.AskedLaws.{nearest_above, nearest_best, nearest_least, far_at}

-- ---- the last question of a stretch

module _ (asked : List ℕ) (width stretch : ℕ) where
  last_hit : (n : ℕ) → get_or asked n 0 / width ≡ stretch → last_in asked width stretch (suc n) ≡ suc n
  unfolding last_in
  last_hit n e = rw (eq-eqb (get_or asked n 0 / width) stretch e)

  last_miss : (n : ℕ) → (get_or asked n 0 / width ≡ stretch → ⊥)
      → last_in asked width stretch (suc n) ≡ last_in asked width stretch n
  unfolding last_in
  last_miss n e = rw (ne_eqb (get_or asked n 0 / width) stretch e)

  last_low : (n : ℕ) → last_in asked width stretch n ≤ n
  unfolding last_in
  last_low zero = omega arith
  last_low (suc n) = go (last_low n) (ℕ_discrete (get_or asked n 0 / width) stretch)
    where
      go : last_in asked width stretch n ≤ n → Dec (get_or asked n 0 / width ≡ stretch)
          → last_in asked width stretch (suc n) ≤ suc n
      go l (yes y) = omega (arith, last_hit n y)
      go l (no y) = omega (arith, last_miss n y)

  -- it asks there
  last_asks : (n i : ℕ) → last_in asked width stretch n ≡ suc i → get_or asked i 0 / width ≡ stretch
  unfolding last_in
  last_asks zero i e = absurd (omega arith)
  last_asks (suc n) i e = go (last_asks n i) (ℕ_discrete (get_or asked n 0 / width) stretch)
    where
      go : (last_in asked width stretch n ≡ suc i → get_or asked i 0 / width ≡ stretch)
          → Dec (get_or asked n 0 / width ≡ stretch) → get_or asked i 0 / width ≡ stretch
      go l (yes y) = let d : i ≡ n = omega (arith, last_hit n y) in rw d y
      go l (no y) = l (sym (last_miss n y) ∙ e)

  -- and none behind it does
  last_none : (n i : ℕ) → last_in asked width stretch n ≤ i → i < n → get_or asked i 0 / width ≡ stretch → ⊥
  unfolding last_in
  last_none zero i h l e = omega arith
  last_none (suc n) i h l e = go (last_none n i) (ℕ_discrete (get_or asked n 0 / width) stretch)
    where
      go : (last_in asked width stretch n ≤ i → i < n → get_or asked i 0 / width ≡ stretch → ⊥)
          → Dec (get_or asked n 0 / width ≡ stretch) → ⊥
      go k (yes y) = omega (arith, last_hit n y)
      go k (no y) = below (ℕ_discrete i n)
        where
          below : Dec (i ≡ n) → ⊥
          below (yes d) = y (rw d at e)
          below (no d) = k (omega (arith, last_miss n y)) (omega arith) e

-- ---- chains that are made

-- where a number up to the farthest stands
pub stretch_low : {asked : List ℕ} {width : ℕ} → Stretches asked width → (k : ℕ) → k < 1024 * width → k / width < 1024
stretch_low S k h = (div-lt_iff_lt-mul S.wide).1 h

pub asked_low : {asked : List ℕ} {width : ℕ} → Stretches asked width → (i : ℕ) → i < length asked
    → get_or asked i 0 / width < 1024
asked_low {asked} S i h = stretch_low S (get_or asked i 0) (omega (arith, far_at asked i h, S.all))

pub chained_none : (asked : List ℕ) (width : ℕ) (lasts earlier : List ℕ) → length lasts ≡ 1024 → length earlier ≡ 256
    → all_zero lasts ≡ true → ChainedTo asked width 0 lasts earlier
unfolding last_in
chained_none asked width lasts earlier a b z =
    record { long = (a, b); last = λ k h. zero_at lasts z k; before = λ i h. absurd (omega arith) }

pub stretched : (asked : List ℕ) (count : ℕ) → length asked ≤ 256 → count ≡ farthest asked → count ≤ 128000
    → Stretches asked (count / 1024 + 1)
stretched asked count h e l =
    record { few = h; wide = omega arith; fits = omega arith; all = omega arith }

module _ {asked : List ℕ} {width n : ℕ} {lasts earlier : List ℕ} (C : ChainedTo asked width n lasts earlier) where
  pub chained_on : get_or asked n 0 / width < 1024 → n < 256
      → ChainedTo asked width (n + 1) (set lasts (get_or asked n 0 / width) (n + 1))
      (set earlier n (get_or lasts (get_or asked n 0 / width) 0))
  chained_on low few =
      record {
        long = (length-set lasts here (n + 1) ∙ C.long.0, length-set earlier n (get_or lasts here 0) ∙ C.long.1);
        last = λ k o. last k o (ℕ_discrete k here);
        before = λ i o. before i o (ℕ_discrete i n);
      }
    where
      here : ℕ
      here = get_or asked n 0 / width

      last : (k : ℕ) → k < 1024 → Dec (k ≡ here)
          → get_or (set lasts here (n + 1)) k 0 ≡ last_in asked width k (n + 1)
      last k o (yes y) =
          rw (y, add-one n)
          (get_or-set_same lasts here (suc n) 0 (omega (arith, C.long.0)) ∙ sym (last_hit asked width here n refl))
      last k o (no y) =
          get_or-set_other lasts here k (n + 1) 0 y ∙ C.last k o
          ∙ rw (add-one n) (sym (last_miss asked width k n (λ e. y (sym e))))

      before : (i : ℕ) → i < n + 1 → Dec (i ≡ n)
          → get_or (set earlier n (get_or lasts here 0)) i 0 ≡ last_in asked width (get_or asked i 0 / width) i
      before i o (yes y) =
          rw y (get_or-set_same earlier n (get_or lasts here 0) 0 (omega (arith, C.long.1)) ∙ C.last here low)
      before i o (no y) = get_or-set_other earlier n i (get_or lasts here 0) 0 y ∙ C.before i (omega arith)

-- ---- along a chain

-- a place on the chain of a stretch: the last of the first `upto` questions that asks there
pub record On (asked : List ℕ) (width stretch place : ℕ) : Type 0 where
  pub upto : ℕ
  pub few : upto ≤ length asked
  pub is : place ≡ last_in asked width stretch upto

pub on_low : {asked : List ℕ} {width stretch place : ℕ} → On asked width stretch place → place ≤ length asked
on_low {asked} {width} {stretch} O = omega (arith, O.is, O.few, last_low asked width stretch O.upto)

module _ {asked : List ℕ} {width : ℕ} {lasts earlier : List ℕ} (C : Chained asked width lasts earlier) where
  pub on_start : (stretch : ℕ) → stretch < 1024 → On asked width stretch (get_or lasts stretch 0)
  on_start stretch h = record { upto = length asked; few = omega arith; is = C.chains.last stretch h }

  pub on_few : {stretch place : ℕ} → On asked width stretch place → place ≤ 256
  on_few O = omega (arith, on_low O, C.stretches.few)

  -- behind the first place none asks in the stretch
  pub start_none : (stretch : ℕ) → stretch < 1024 → (i : ℕ) → get_or lasts stretch 0 ≤ i → i < length asked
      → get_or asked i 0 / width ≡ stretch → ⊥
  start_none stretch h i o l = last_none asked width stretch (length asked) i (rw (C.chains.last stretch h) at o) l

  module _ {stretch place : ℕ} (O : On asked width stretch place) (some : 0 < place) where
    here : suc (place - 1) ≡ place
    here = omega arith

    pub on_in : place - 1 < length asked
    on_in = omega (arith, on_low O)

    -- the place before it
    on_before : get_or earlier (place - 1) 0 ≡ last_in asked width stretch (place - 1)
    on_before =
        C.chains.before (place - 1) on_in
        ∙ ap (λ (k : ℕ). last_in asked width k (place - 1))
        (last_asks asked width stretch O.upto (place - 1) (sym O.is ∙ sym here))

    pub on_next : On asked width stretch (get_or earlier (place - 1) 0)
    on_next = record { upto = place - 1; few = omega (arith, on_in); is = on_before }

    pub on_less : get_or earlier (place - 1) 0 < place
    on_less = omega (arith, on_before, last_low asked width stretch (place - 1))

    -- none between the two asks in the stretch
    pub on_none : (i : ℕ) → get_or earlier (place - 1) 0 ≤ i → i < place - 1 → get_or asked i 0 / width ≡ stretch → ⊥
    on_none i h l = last_none asked width stretch (place - 1) i (rw on_before at h) l

-- ---- what is stored along it

module _ {asked : List ℕ} {width : ℕ} {lasts earlier : List ℕ} (C : Chained asked width lasts earlier)
    (point vertex : ℕ) (out : List ℕ) where
  pub filled_start : point < 1024 * width → Filled asked (get_or lasts (point / width) 0) point vertex out out
  filled_start h =
      record {
        hit = λ i o l e. absurd (start_none C (point / width) (stretch_low C.stretches point h) i o l
            (ap (λ (k : ℕ). k / width) e));
        other = λ i l e. refl;
        rest = λ i l. refl;
        long = refl;
      }

  module _ {place : ℕ} (O : On asked width (point / width) place) (some : 0 < place) {out' : List ℕ}
      (F : Filled asked place point vertex out out') (room : length asked ≤ length out) where
    abbrev q : ℕ
    q = place - 1

    -- those before it and behind the next place on the chain ask for other points
    between : (i : ℕ) → get_or earlier q 0 ≤ i → i < place → (i ≡ q → ⊥) → get_or asked i 0 ≡ point → ⊥
    between i h l d e = on_none C O some i h (omega arith) (ap (λ (k : ℕ). k / width) e)

    pub filled_on : (out'' : List ℕ)
        → out'' ≡ cond (eqb (get_or asked (place - 1) 0) point) (set out' (place - 1) vertex) out'
        → Filled asked (get_or earlier (place - 1) 0) point vertex out out''
    filled_on out'' e =
        record {
          hit = λ i o l a. hit i o l a (ℕ_discrete i q) (le-or-lt place i);
          other = λ i l a. other i l a (ℕ_discrete i q);
          rest = λ i l. away i (λ p. omega (arith, on_in C O some)) ∙ F.rest i l;
          long = ap length e ∙ length_put (eqb (get_or asked q 0) point) ∙ F.long;
        }
      where
        length_put : (b : Bool) → length (cond b (set out' q vertex) out') ≡ length out'
        length_put true = length-set out' q vertex
        length_put false = refl

        here : get_or asked q 0 ≡ point → get_or out'' q 0 ≡ vertex
        here y =
            let d : out'' ≡ set out' q vertex = e ∙ rw (eq-eqb (get_or asked q 0) point y) in
            ap (λ (l : List ℕ). get_or l q 0) d
            ∙ get_or-set_same out' q vertex 0 (omega (arith, on_in C O some, F.long))

        same : (get_or asked q 0 ≡ point → ⊥) → out'' ≡ out'
        same y = e ∙ rw (ne_eqb (get_or asked q 0) point y)

        away : (i : ℕ) → (i ≡ q → ⊥) → get_or out'' i 0 ≡ get_or out' i 0
        away i p = ap (λ (l : List ℕ). get_or l i 0) e ∙ go (eqb (get_or asked q 0) point)
          where
            go : (b : Bool) → get_or (cond b (set out' q vertex) out') i 0 ≡ get_or out' i 0
            go true = get_or-set_other out' q i vertex 0 p
            go false = refl

        hit : (i : ℕ) → get_or earlier q 0 ≤ i → i < length asked → get_or asked i 0 ≡ point → Dec (i ≡ q)
            → (place ≤ i) ⊎ (i < place) → get_or out'' i 0 ≡ vertex
        hit i o l a (yes p) s = rw p (here (rw p at a))
        hit i o l a (no p) (inl s) = away i p ∙ F.hit i s l a
        hit i o l a (no p) (inr s) = absurd (between i o s p a)

        other : (i : ℕ) → i < length asked → (get_or asked i 0 ≡ point → ⊥) → Dec (i ≡ q)
            → get_or out'' i 0 ≡ get_or out i 0
        other i l a (yes p) = ap (λ (l : List ℕ). get_or l i 0) (same (rw p at a)) ∙ F.other i l a
        other i l a (no p) = away i p ∙ F.other i l a

-- ---- where to look next

-- the least asked number after a point in its stretch among the questions from a place on, or the end of the stretch
pub record Least (asked : List ℕ) (width point place best : ℕ) : Type 0 where
  pub low : point < best
  pub high : best ≤ (point / width + 1) * width
  pub least : (i : ℕ) → place ≤ i → i < length asked → get_or asked i 0 / width ≡ point / width → point < get_or asked i 0
      → best ≤ get_or asked i 0

module _ {asked : List ℕ} {width : ℕ} {lasts earlier : List ℕ} (C : Chained asked width lasts earlier) (point : ℕ) where
  pub end_fits : point < 1024 * width → (point / width + 1) * width ≤ 1024 * width
  end_fits h = mul-le-mul_right width (omega (arith, stretch_low C.stretches point h))

  pub least_start : point < 1024 * width
      → Least asked width point (get_or lasts (point / width) 0) ((point / width + 1) * width)
  least_start h =
      record {
        low = omega (arith, lt-div-mul-add {a = point} C.stretches.wide, add-mul (point / width) 1 width);
        high = omega arith;
        least = λ i o l e. absurd (start_none C (point / width) (stretch_low C.stretches point h) i o l e);
      }

  module _ {place best : ℕ} (O : On asked width (point / width) place) (some : 0 < place)
      (L : Least asked width point place best) where
    pub least_on : Least asked width point (get_or earlier (place - 1) 0) (nearest point (get_or asked (place - 1) 0) best)
    least_on =
        record {
          low = nearest_above point k best L.low;
          high = omega (arith, nearest_best point k best, L.high);
          least = λ i o l p f. least i o l p f (ℕ_discrete i q) (le-or-lt place i);
        }
      where
        q : ℕ
        q = place - 1

        k : ℕ
        k = get_or asked q 0

        least : (i : ℕ) → get_or earlier q 0 ≤ i → i < length asked → get_or asked i 0 / width ≡ point / width
            → point < get_or asked i 0 → Dec (i ≡ q) → (place ≤ i) ⊎ (i < place) → nearest point k best ≤ get_or asked i 0
        least i o l p f (yes y) s = rw y (nearest_least point k best (rw y at f))
        least i o l p f (no y) (inl s) = omega (arith, nearest_best point k best, L.least i s l p f)
        least i o l p f (no y) (inr s) = absurd (on_none C O some i o (omega arith) p)

  pub least_end : {best : ℕ} → Least asked width point 0 best → NoneBetween asked (suc point) best
  least_end {best} L =
      record { low = omega (arith, L.low); none = λ i h l. none i h l (le-or-lt (get_or asked i 0) point) }
    where
      none : (i : ℕ) → i < length asked → get_or asked i 0 < best → (get_or asked i 0 ≤ point) ⊎ (point < get_or asked i 0)
          → get_or asked i 0 < suc point
      none i h l (inl a) = omega arith
      none i h l (inr a) =
          let d = div-eq_of_lt-le {k = point / width} width {m = get_or asked i 0}
          (omega (arith, div-mul-le_self point width)) (omega (arith, L.high)) in
          absurd (omega (arith, L.least i (omega arith) h d a))
