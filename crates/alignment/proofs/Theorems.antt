-- The theorems that specs/Laws.antt names. Assumes nothing.
use Prim.Native.Nat.{ℕ, suc, ◌+◌, ◌*◌, ◌≤◌, ◌<◌, suc-le-suc}
use mathlib.Core.Path.{◌≡◌, refl, sym, ap, ◌∙◌}
use mathlib.Core.List.{List, [], ◌∷◌}
use mathlib.Core.Logic.{◌⊎◌, inl, inr}
use native.Mathlib.Omega.{arith}
use lib.Dec.{leb}
use lib.ListN.{length, get_or}
use borrow.Author.Tests.{leb-true}
use Rattle.bits.specs.Verdict.{Verdict, accepted, needs, declined, mapped, limited}
use Rattle.bits.specs.Number.{width_of}
use Rattle.bits.specs.declared.fields.runs.Run.{Run}
use Rattle.bits.proofs.VerdictLaws.{le-or-lt, both_true, tested_value, then_value, then_yes, mapped_value}
use Rattle.payload.specs.Lent.{Plan, answer_for}
use Rattle.payload.specs.Mesh.{Mesh}
use Rattle.payload.specs.MeshRead.{read_meshes}
use Rattle.payload.specs.MeshDrawing.{drawn_records}
use Rattle.payload.specs.MeshWrite.{all_below}
use Rattle.payload.specs.Places.{body_of, Standing, submesh_found}
use Rattle.payload.proofs.LentLaws.{refused}
use Rattle.payload.proofs.StandingProofs.{standing_laws}
use Rattle.alignment.specs.Walk.{walk, walk_of}
use Rattle.alignment.specs.LookUp.{farthest, askable, handed_out_of, looked_up_in, looked_up}
use Rattle.alignment.specs.Laws.{WalkLaws, FarthestLaws, HandedOut, CanAsk, LookUpLaws}
use Rattle.alignment.specs.Internal.{PointsOf}
use Rattle.alignment.proofs.AskedLaws.{far_at, far_below, far_least}
use Rattle.alignment.proofs.WalkLaws.{state_at, stepped, walk_back, walk_place, walk_taken}
use Rattle.alignment.proofs.AnswerLaws.{state_is, stands_points, declined_many, declined_far, plan_is, short_of}

-- ---- the walk

pub walk_laws : WalkLaws
unfolding walk
walk_laws =
    record {
      each_step = stepped;
      starts = λ s w limit p. refl;
      goes_on = walk_back;
      taken = walk_taken;
      place = walk_place;
    }

-- ---- the farthest

far_reached : (asked : List ℕ) → 0 < length asked
    → (i : ℕ) × (i < length asked) × (farthest asked ≡ suc (get_or asked i 0))
unfolding farthest
far_reached [] h = absurd (omega arith)
far_reached (k ∷ []) h = (0, omega arith, omega arith)
far_reached (k ∷ m ∷ l) h = go (far_reached (m ∷ l) (omega arith)) (le-or-lt (farthest (m ∷ l)) (suc k))
  where
    go : (i : ℕ) × (i < length (m ∷ l)) × (farthest (m ∷ l) ≡ suc (get_or (m ∷ l) i 0))
        → (farthest (m ∷ l) ≤ suc k) ⊎ (suc k < farthest (m ∷ l))
        → (i : ℕ) × (i < length (k ∷ m ∷ l)) × (farthest (k ∷ m ∷ l) ≡ suc (get_or (k ∷ m ∷ l) i 0))
    go (i, o, e) (inl a) = (0, omega arith, omega arith)
    go (i, o, e) (inr a) = (suc i, suc-le-suc o, omega arith ∙ e)

pub farthest_laws : FarthestLaws
unfolding farthest
farthest_laws = record { none = refl; above = far_at; reached = far_reached }

-- ---- looking up

found_points : (s : List ℕ) (j : ℕ) (x : Standing) → submesh_found s j ≡ accepted x
    → PointsOf (body_of s x) x.place.run x.submesh
found_points s j x e = stands_points s j x (standing_laws.stands s j x e)

-- in a payload that is read, by the record number
module _ (s : List ℕ) (l : List Mesh) (j : ℕ) (asked : List ℕ) (r : limited s (read_meshes s) ≡ accepted l) where
  -- what is said of a submesh that is found
  at : (x : Standing) → submesh_found s j ≡ accepted x
      → looked_up s j asked ≡ looked_up_in (body_of s x) x.place.run x.submesh asked
  unfolding looked_up
  at x e = then_yes (submesh_found s j) (λ y. looked_up_in (body_of s y) y.place.run y.submesh asked) x e

  -- its index count is the last word of its record
  count_is : (x : Standing) → submesh_found s j ≡ accepted x → get_or (drawn_records l) (5 * j + 4) 0 ≡ x.place.run.count
  count_is x e = (standing_laws.record_number s l j x r e).points ∙ sym (found_points s j x e).count

  module _ (p : Plan ℕ) (x : Standing) (f : submesh_found s j ≡ accepted x)
      (d : looked_up_in (body_of s x) x.place.run x.submesh asked ≡ accepted p) where
    abbrev body : List ℕ
    body = body_of s x

    abbrev run : Run
    run = x.place.run

    handed_in : HandedOut s l j asked p
    unfolding looked_up_in
    handed_in =
        let P = found_points s j x f in
        let b = tested_value (askable (length x.submesh.points) asked)
        (mapped (handed_out_of x.submesh asked) (walk_of body run (farthest asked))) 24 p d in
        let a = both_true (leb (length asked) 256) (all_below (length x.submesh.points) asked) b.0 in
        let m = mapped_value (handed_out_of x.submesh asked) (walk_of body run (farthest asked)) p (sym b.1) in
        let c : p.answer ≡ m.0.taken = sym (ap (λ (q : Plan ℕ). q.answer) m.2) in
        let n : farthest asked ≤ length x.submesh.points = far_below (length x.submesh.points) asked a.1 in
        let R = standing_laws.record_number s l j x r f in
        record {
          can =
              record {
                there = omega (arith, R.there);
                few = leb-true (length asked) 256 a.0;
                below = λ i o. omega (arith, far_at asked i o, R.points);
              };
          standing = x;
          found = f;
          of_reading = standing_laws.of_reading s l j x r f;
          last = m.0;
          walked = m.1;
          count = c;
          fields = c ∙ walk_taken body (width_of run.limit) run.limit run.bit (farthest asked) m.0 m.1;
          results = sym (ap (λ (q : Plan ℕ). q.lists) m.2);
          has = λ i o. omega (arith, far_at asked i o);
          met = λ i o. (
            state_at (width_of run.limit) run.bit x.submesh.points (suc (get_or asked i 0)),
            state_is P (suc (get_or asked i 0)) (omega (arith, far_at asked i o)),
            refl,
          );
        }

  handed : (p : Plan ℕ) → looked_up s j asked ≡ accepted p → HandedOut s l j asked p
  unfolding looked_up
  handed p e =
      let t = then_value (submesh_found s j) (λ x. looked_up_in (body_of s x) x.place.run x.submesh asked) p e in
      handed_in p t.0 t.1 t.2

  module _ (C : CanAsk l j asked) where
    near : (x : Standing) → submesh_found s j ≡ accepted x → farthest asked ≤ x.place.run.count
    near x e = far_least asked x.place.run.count (λ i o. omega (arith, C.below i o, count_is x e))

    accepts : (p : Plan ℕ) × (looked_up s j asked ≡ accepted p)
    accepts =
        let t = standing_laws.there s l j r C.there in
        let x = t.0 in
        (_, at x t.1 ∙ plan_is (found_points s j x t.1) asked [] C.few (near x t.1))

    asks : (b : List ℕ) → length b < length asked
        → answer_for (looked_up s j asked) (b ∷ []) ≡ needs (length asked ∷ [])
    asks b h =
        let t = standing_laws.there s l j r C.there in
        let x = t.0 in
        ap (λ (v : Verdict (Plan ℕ)). answer_for v (b ∷ [])) (at x t.1)
        ∙ sym (short_of (found_points s j x t.1) asked b C.few (near x t.1) h).0

  refuses : (CanAsk l j asked → ⊥) → looked_up s j asked ≡ declined 24
  unfolding looked_up
  refuses cannot = by (le-or-lt (length (drawn_records l)) (5 * j))
    where
      found : 5 * j < length (drawn_records l) → (x : Standing) → submesh_found s j ≡ accepted x
          → looked_up s j asked ≡ declined 24
      found h x e = at x e ∙ judge (le-or-lt (length asked) 256) (le-or-lt (farthest asked) x.place.run.count)
        where
          P : PointsOf (body_of s x) x.place.run x.submesh
          P = found_points s j x e

          judge : (length asked ≤ 256) ⊎ (256 < length asked)
              → (farthest asked ≤ x.place.run.count) ⊎ (x.place.run.count < farthest asked)
              → looked_up_in (body_of s x) x.place.run x.submesh asked ≡ declined 24
          judge (inr a) b = declined_many P asked [] a
          judge (inl a) (inr b) = declined_far P asked [] a b
          judge (inl a) (inl b) =
              absurd (cannot (record {
                there = h;
                few = a;
                below = λ i o. omega (arith, far_at asked i o, count_is x e);
              }))

      by : (length (drawn_records l) ≤ 5 * j) ⊎ (5 * j < length (drawn_records l)) → looked_up s j asked ≡ declined 24
      by (inl h) = rw (standing_laws.not_there s l j r h)
      by (inr h) = let t = standing_laws.there s l j r h in found h t.0 t.1

  first : (buffers : List (List ℕ)) → (CanAsk l j asked → ⊥) → answer_for (looked_up s j asked) buffers ≡ declined 24
  first buffers cannot = sym (refused (looked_up s j asked) buffers 24 (refuses cannot)).0

pub look_up_laws : LookUpLaws
unfolding looked_up submesh_found
look_up_laws =
    record {
      handed_out = λ s l j asked p r e. handed s l j asked r p e;
      payload_first = λ s j asked k e. rw e;
      accepts = λ s l j asked r C. accepts s l j asked r C;
      twenty_four = λ s l j asked r cannot. refuses s l j asked r cannot;
      first = λ s l j asked buffers r cannot. first s l j asked r buffers cannot;
      twelve = λ s l j asked b r C h. asks s l j asked r C b h;
    }
