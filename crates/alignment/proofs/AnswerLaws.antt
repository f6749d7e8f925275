-- What looking up points of a submesh that is spelled says and leaves: one law for each way. Assumes nothing.
use Prim.Native.Nat.{ℕ, suc, ◌≤◌, ◌<◌}
use mathlib.Core.Path.{◌≡◌, refl, sym, ap, ap₂, ◌∙◌}
use mathlib.Core.List.{List, [], ◌∷◌, map}
use native.Mathlib.Omega.{arith}
use lib.ListN.{length, length-map, length-take, length-drop}
use lib.Seq.{sets}
use borrow.Author.Tests.{le-leb, lt-leb}
use Rattle.bits.specs.Verdict.{Verdict, accepted, needs, declined}
use Rattle.bits.specs.Number.{width_of}
use Rattle.bits.specs.declared.fields.runs.Run.{Run}
use Rattle.bits.proofs.VerdictLaws.{mapped_value, mapped_declined}
use Rattle.payload.specs.Lent.{Plan}
use Rattle.payload.specs.Mesh.{Submesh}
use Rattle.payload.specs.MeshSpells.{part}
use Rattle.payload.specs.Places.{body_of, Standing, submesh_found, place_found}
use Rattle.payload.specs.StandingLaws.{Stands}
use Rattle.payload.specs.declared.mesh.find.PointFields.{PointFields}
use Rattle.payload.specs.Internal.{value_or}
use Rattle.payload.proofs.LentLaws.{Keeps, refused, too_short, all_stored}
use Rattle.payload.proofs.StepLaws.{was_read}
use Rattle.payload.proofs.RangeLaws.{width_small}
use Rattle.payload.proofs.StandingProofs.{standing_laws}
use Rattle.alignment.specs.Walk.{start, walk_of}
use Rattle.alignment.specs.LookUp.{farthest, vertex_at, handed_out_of, looked_up_in, looked_up}
use Rattle.alignment.specs.Internal.{WalkRoom, number_after, PointsOf}
use Rattle.alignment.specs.declared.walk.Walk.{Walk}
use Rattle.alignment.proofs.AskedLaws.{below_far, not-below}
use Rattle.alignment.proofs.WalkLaws.{state_at, walk_run}

-- the first n fields of a run
abbrev pub up_to : Run → ℕ → Run
up_to run n = record { bit = run.bit; limit = run.limit; count = n }

module _ {s : List ℕ} {run : Run} {x : Submesh} (P : PointsOf s run x) where
  narrow : width_of run.limit ≤ 32
  narrow = omega (arith, width_small run.limit P.most)

  -- the walk is known at each of its states
  pub state_is : (n : ℕ) → n ≤ length x.points
      → walk_of s run n ≡ accepted (state_at (width_of run.limit) run.bit x.points n)
  state_is = walk_run P.short narrow P.spells

  -- after the step that takes field k the running number is the reading's at point k
  pub number_point : (k : ℕ) → k < length x.points → number_after s run k ≡ vertex_at x k
  number_point k h = ap (λ (u : Verdict Walk). (value_or (start 0) u).number) (state_is (suc k) h)

  numbers_points : (asked : List ℕ) → farthest asked ≤ length x.points
      → map (number_after s run) asked ≡ map (vertex_at x) asked
  unfolding farthest
  numbers_points [] h = refl
  numbers_points (k ∷ l) h = ap₂ ◌∷◌ (number_point k (omega arith)) (numbers_points l (omega arith))

  pub walk_room : (n : ℕ) → n ≤ run.count → WalkRoom s (up_to run n)
  walk_room n h =
      record {
        steps = λ k l. was_read (walk_of s run (suc k)) _ (state_is (suc k) (omega (arith, P.count)));
        few = omega (arith, P.few);
      }

  module _ (asked out : List ℕ) where
    abbrev plan : Verdict (Plan ℕ)
    plan = looked_up_in s run x asked

    pub declined_many : 256 < length asked → plan ≡ declined 24
    unfolding looked_up_in
    declined_many h = rw (lt-leb (length asked) 256 h)

    pub too_many : 256 < length asked → Keeps plan (out ∷ []) (declined 24) (out ∷ [])
    too_many h = refused plan (out ∷ []) 24 (declined_many h)

    module _ (few : length asked ≤ 256) where
      pub declined_far : run.count < farthest asked → plan ≡ declined 24
      unfolding looked_up_in
      declined_far h =
          rw (le-leb (length asked) 256 few, not-below (length x.points) asked (omega (arith, P.count)))

      pub too_far : run.count < farthest asked → Keeps plan (out ∷ []) (declined 24) (out ∷ [])
      too_far h = refused plan (out ∷ []) 24 (declined_far h)

      module _ (near : farthest asked ≤ run.count) where
        handed : (v : Walk) → accepted v ≡ walk_of s run (farthest asked) → plan ≡ accepted (handed_out_of x asked v)
        unfolding looked_up_in
        handed v e =
            rw (le-leb (length asked) 256 few, below_far (length x.points) asked (omega (arith, P.count)), ← e) refl

        long : length asked ∷ [] ≡ map length (map (vertex_at x) asked ∷ [])
        long = ap (λ (n : ℕ). n ∷ []) (sym (length-map asked (vertex_at x)))

        -- the last state
        abbrev last : Walk
        last = state_at (width_of run.limit) run.bit x.points (farthest asked)

        pub last_is : walk_of s run (farthest asked) ≡ accepted last
        last_is = state_is (farthest asked) (omega (arith, P.count))

        pub plan_is : plan ≡ accepted (handed_out_of x asked last)
        plan_is = handed last (sym last_is)

        pub short_of : length out < length asked → Keeps plan (out ∷ []) (needs (length asked ∷ [])) (out ∷ [])
        short_of h =
            too_short plan (out ∷ []) (handed_out_of x asked last) plan_is (length asked ∷ []) long
            (lt-leb (length asked) (length out) h)

        pub all_filled : length asked ≤ length out → (v : Walk) → accepted v ≡ walk_of s run (farthest asked)
            → (out' : List ℕ) → out' ≡ sets out 0 (map (number_after s run) asked)
            → Keeps plan (out ∷ []) (accepted v.taken) (out' ∷ [])
        all_filled h v e out' d =
            all_stored plan (out ∷ []) (handed_out_of x asked v) (handed v e) (length asked ∷ []) long
            (le-leb (length asked) (length out) h) v.taken refl (out' ∷ [])
            (ap (λ (l : List ℕ). l ∷ [])
            (d ∙ ap (sets out 0) (numbers_points asked (omega (arith, P.count)))))

-- ---- in a payload

-- what is known of a submesh that was found
pub record FoundAt (s : List ℕ) (j : ℕ) (p : PointFields) : Type 0 where
  pub standing : Standing
  pub is : submesh_found s j ≡ accepted standing
  pub place : standing.place ≡ p
  pub stands : Stands s 0 j standing

pub found_at : (s : List ℕ) (j : ℕ) (p : PointFields) → accepted p ≡ place_found s j → FoundAt s j p
found_at s j p e =
    let t = mapped_value (λ (x : Standing). x.place) (submesh_found s j) p e in
    record { standing = t.0; is = t.1; place = t.2; stands = standing_laws.stands s j t.0 t.1 }

pub stands_points : (s : List ℕ) (j : ℕ) (x : Standing) → Stands s 0 j x
    → PointsOf (body_of s x) x.place.run x.submesh
stands_points s j x S =
    record {
      short = simp (length-take, length-drop) (omega (arith, S.short));
      most = omega (arith, S.inside.limit, S.body.vertex_most);
      few = omega (arith, S.inside.count, S.inside.spells.most);
      count = S.inside.count;
      spells = rw (S.inside.limit, S.inside.place) S.inside.spells.run;
    }

module _ {s : List ℕ} {j : ℕ} {p : PointFields} (F : FoundAt s j p) where
  pub found_inside : (p.body ≤ p.end) × (p.end ≤ length s)
  found_inside =
      let S = F.stands in
      let whole : F.standing.place.body ≤ F.standing.place.end = omega (arith, S.starts, S.ends, S.box.least) in
      let ends : F.standing.place.end ≤ length s = omega (arith, S.ends, S.box.most) in
      (rw F.place at whole, rw F.place at ends)

  pub found_points : PointsOf (part s p.body p.end) p.run F.standing.submesh
  found_points = rw F.place at (stands_points s j F.standing F.stands)

  pub found_kept : (asked out : List ℕ) (said : Verdict ℕ) (after : List ℕ)
      → Keeps (looked_up_in (part s p.body p.end) p.run F.standing.submesh asked) (out ∷ []) said
      (after ∷ [])
      → Keeps (looked_up s j asked) (out ∷ []) said (after ∷ [])
  unfolding looked_up
  found_kept asked out said after k = rw (F.is, F.place) k

pub not_found : (s : List ℕ) (j : ℕ) (asked out : List ℕ) (k : ℕ) → declined k ≡ place_found s j
    → Keeps (looked_up s j asked) (out ∷ []) (declined k) (out ∷ [])
unfolding looked_up
not_found s j asked out k e =
    let d = mapped_declined (λ (x : Standing). x.place) (submesh_found s j) k e in
    refused (looked_up s j asked) (out ∷ []) k (rw d)
