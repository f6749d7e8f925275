-- What the loop over the fields keeps: the walk's state, that none is asked before the point where it looks next, and
-- that the numbers of the points behind it are filled in. Assumes nothing.
use Prim.Native.Nat.{ℕ, suc, ◌≤◌, ◌<◌}
use mathlib.Core.Path.{◌≡◌, refl, sym, ap, subst, ◌∙◌}
use mathlib.Core.List.{List, map}
use mathlib.Core.Logic.{◌⊎◌, inl, inr}
use native.Mathlib.Omega.{arith}
use native.Mathlib.Nat.{zero-add}
use native.Mathlib.Decide.{ℕ_discrete}
use lib.ListN.{length, get_or, length-map}
use lib.Seq.{sets, length-sets, ext_get_or}
use Rattle.bits.specs.Verdict.{Verdict, accepted}
use Rattle.bits.specs.Number.{width_of}
use Rattle.bits.specs.declared.fields.runs.Run.{Run}
use Rattle.bits.proofs.VerdictLaws.{le-or-lt}
use Rattle.payload.specs.Internal.{value_or}
use Rattle.payload.proofs.FillLaws.{get_d_mapped, get_d_sets}
use Rattle.payload.proofs.ExpandedLaws.{get_d_sets_after}
use Rattle.alignment.specs.LookUp.{farthest}
use Rattle.alignment.specs.Walk.{start, step, walk, walk_of}
use Rattle.alignment.specs.Internal.{StepRoom, WalkRoom, number_after}
use Rattle.alignment.specs.Internal.{NoneBetween, Filled, Settled, before, reached}
use Rattle.alignment.specs.declared.walk.Walk.{Walk}
use Rattle.alignment.proofs.AskedLaws.{far_at}
use Rattle.alignment.proofs.WalkLaws.{walk_on, stepped}

pub record Going (s : List ℕ) (run : Run) (asked out₀ out : List ℕ) (v : Walk) (next : ℕ) : Type 0 where
  pub state : walk_of s run v.taken ≡ accepted v
  pub upto : v.taken ≤ run.count
  pub ahead : NoneBetween asked v.taken next
  pub done : (i : ℕ) → i < length asked → get_or asked i 0 < v.taken
      → get_or out i 0 ≡ number_after s run (get_or asked i 0)
  pub rest : (i : ℕ) → length asked ≤ i → get_or out i 0 ≡ get_or out₀ i 0
  pub long : length out ≡ length out₀

pub going_start : (s : List ℕ) (run : Run) (asked out : List ℕ) → Going s run asked out out (start run.bit) 0
unfolding walk
going_start s run asked out =
    record {
      state = refl;
      upto = omega arith;
      ahead = record { low = omega arith; none = λ i h l. l };
      done = λ i h l. absurd (omega arith);
      rest = λ i h. refl;
      long = refl;
    }

module _ {s : List ℕ} {run : Run} {asked out₀ out : List ℕ} {v : Walk} {next : ℕ}
    (G : Going s run asked out₀ out v next) where
  abbrev w : ℕ
  w = width_of run.limit

  -- the next state
  on : walk_of s run (suc v.taken) ≡ step s w run.limit v
  on = walk_on s w run.limit run.bit v.taken v G.state

  pub going_room : WalkRoom s run → v.taken < run.count → StepRoom s w run.limit v
  going_room r h = record { goes = rw on at (r.steps v.taken h); few = omega (arith, r.few) }

  module _ (h : v.taken < run.count) (v' : Walk) (e : accepted v' ≡ step s w run.limit v) where
    pub one_more : v'.taken ≡ suc v.taken
    one_more = (stepped s w run.limit v v' (sym e)).taken ∙ omega arith

    state_on : walk_of s run v'.taken ≡ accepted v'
    state_on = ap (walk_of s run) one_more ∙ on ∙ sym e

    number : number_after s run v.taken ≡ v'.number
    number = ap (λ (u : Verdict Walk). (value_or (start 0) u).number) (on ∙ sym e)

    pub going_on : (r : ℕ) (out' : List ℕ) → Settled asked v' next out r out'
        → Going s run asked out₀ out' v' r
    going_on r out' (before a d f) =
        rw (d, f)
        (record {
          state = state_on;
          upto = omega (arith, one_more);
          ahead = record { low = a; none = λ i o l. omega (arith, one_more, G.ahead.none i o l) };
          done = λ i o l. G.done i o (G.ahead.none i o (omega (arith, one_more)));
          rest = G.rest;
          long = G.long;
        })
    going_on r out' (reached a A) =
        let n : next ≡ v.taken = omega (arith, one_more, G.ahead.low) in
        record {
          state = state_on;
          upto = omega (arith, one_more);
          ahead = ahead n;
          done = λ i o l. here n i o l (ℕ_discrete (get_or asked i 0) next);
          rest = λ i o. f.rest i o ∙ G.rest i o;
          long = f.long ∙ G.long;
        }
      where
        f : Filled asked 0 next v'.number out out'
        f = A.filled

        ahead : next ≡ v.taken → NoneBetween asked v'.taken r
        ahead n = subst (λ (k : ℕ). NoneBetween asked k r) (ap suc n ∙ sym one_more) A.ahead

        here : next ≡ v.taken → (i : ℕ) → i < length asked → get_or asked i 0 < v'.taken
            → Dec (get_or asked i 0 ≡ next) → get_or out' i 0 ≡ number_after s run (get_or asked i 0)
        here n i o l (yes y) = f.hit i (omega arith) o y ∙ sym number ∙ ap (number_after s run) (sym n ∙ sym y)
        here n i o l (no y) = f.other i o y ∙ G.done i o (less (le-or-lt v.taken (get_or asked i 0)))
          where
            less : (v.taken ≤ get_or asked i 0) ⊎ (get_or asked i 0 < v.taken) → get_or asked i 0 < v.taken
            less (inl b) = absurd (y (omega (arith, one_more)))
            less (inr b) = b

-- ---- all are filled in

-- a buffer that has these values at its front, and beyond them what it had
front : (f : ℕ → ℕ) (asked out₀ out : List ℕ) → length asked ≤ length out₀ → length out ≡ length out₀
    → ((i : ℕ) → i < length asked → get_or out i 0 ≡ f (get_or asked i 0))
    → ((i : ℕ) → length asked ≤ i → get_or out i 0 ≡ get_or out₀ i 0) → out ≡ sets out₀ 0 (map f asked)
front f asked out₀ out room long filled rest =
    ext_get_or 0 out (sets out₀ 0 l) (long ∙ sym (length-sets out₀ 0 l)) (λ i o. same i (le-or-lt (length asked) i))
  where
    l : List ℕ
    l = map f asked

    count : length l ≡ length asked
    count = length-map asked f

    same : (i : ℕ) → (length asked ≤ i) ⊎ (i < length asked) → get_or out i 0 ≡ get_or (sets out₀ 0 l) i 0
    same i (inl a) = rest i a ∙ sym (get_d_sets_after l out₀ 0 i (omega (arith, count)))
    same i (inr a) =
        filled i a ∙ sym (get_d_mapped f 0 0 asked i a)
        ∙ sym (ap (λ (k : ℕ). get_or (sets out₀ 0 l) k 0) (sym (zero-add i))
        ∙ get_d_sets out₀ 0 l i (omega (arith, count)) (omega (arith, count)))

pub going_end : {s : List ℕ} {run : Run} {asked out₀ out : List ℕ} {v : Walk} {next : ℕ}
    → Going s run asked out₀ out v next → run.count ≡ farthest asked → length asked ≤ length out₀
    → run.count ≤ v.taken
    → (accepted v ≡ walk_of s run (farthest asked)) × (out ≡ sets out₀ 0 (map (number_after s run) asked))
going_end {s} {run} {asked} {out₀} {out} {v} G far room h =
    let e : v.taken ≡ farthest asked = omega (arith, G.upto, far) in (
      sym (ap (walk_of s run) (sym e) ∙ G.state),
      front (number_after s run) asked out₀ out room G.long
          (λ i o. G.done i o (omega (arith, e, far_at asked i o))) G.rest,
    )
