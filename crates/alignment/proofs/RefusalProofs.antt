-- Which refusals each call can give. Assumes nothing.
use Prim.Native.Nat.{ℕ, ◌≤◌, ◌<◌}
use mathlib.Core.Path.{◌≡◌, refl}
use mathlib.Core.List.{List, [], ◌∷◌}
use mathlib.Core.Logic.{◌⊎◌, inl, inr}
use lib.ListN.{length}
use Rattle.bits.specs.Verdict.{Verdict, and_then}
use Rattle.bits.specs.Refusals.{Refuses, gives, refuses}
use Rattle.bits.specs.declared.fields.runs.Run.{Run}
use Rattle.bits.proofs.VerdictLaws.{le-or-lt}
use Rattle.bits.proofs.RefusalLaws.{unlisted_12}
use Rattle.payload.specs.Mesh.{Submesh}
use Rattle.payload.specs.Places.{body_of, Standing, submesh_found}
use Rattle.payload.proofs.LentLaws.{answer_refuses}
use Rattle.payload.proofs.RefusalProofs.{found_refuses}
use Rattle.payload.proofs.StandingProofs.{standing_laws}
use Rattle.alignment.specs.LookUp.{farthest, looked_up_in, looked_up}
use Rattle.alignment.specs.Internal.{PointsOf}
use Rattle.alignment.specs.Refusals.{Refusals, NeverSixteen}
use Rattle.alignment.proofs.AnswerLaws.{stands_points, declined_many, declined_far, plan_is}

-- of a submesh whose points are there: nothing that a step could refuse
in_refuses : {s : List ℕ} {run : Run} {x : Submesh} → PointsOf s run x → (asked : List ℕ)
    → Refuses (2 ∷ 3 ∷ 6 ∷ 7 ∷ 8 ∷ 17 ∷ 18 ∷ 24 ∷ []) (looked_up_in s run x asked)
in_refuses {s} {run} {x} P asked = go (le-or-lt (length asked) 256) (le-or-lt (farthest asked) run.count)
  where
    go : (length asked ≤ 256) ⊎ (256 < length asked) → (farthest asked ≤ run.count) ⊎ (run.count < farthest asked)
        → Refuses (2 ∷ 3 ∷ 6 ∷ 7 ∷ 8 ∷ 17 ∷ 18 ∷ 24 ∷ []) (looked_up_in s run x asked)
    go (inr a) b = rw (declined_many P asked [] a) (refuses 24 refl)
    go (inl a) (inr b) = rw (declined_far P asked [] a b) (refuses 24 refl)
    go (inl a) (inl b) = rw (plan_is P asked [] a b) (gives _)

looked_refuses : (s : List ℕ) (j : ℕ) (asked : List ℕ)
    → Refuses (2 ∷ 3 ∷ 6 ∷ 7 ∷ 8 ∷ 17 ∷ 18 ∷ 24 ∷ []) (looked_up s j asked)
unfolding looked_up
looked_refuses s j asked = go (found_refuses s j) refl
  where
    go : {v : Verdict Standing} → Refuses (2 ∷ 3 ∷ 6 ∷ 7 ∷ 8 ∷ 17 ∷ 18 ∷ 24 ∷ []) v → submesh_found s j ≡ v
        → Refuses (2 ∷ 3 ∷ 6 ∷ 7 ∷ 8 ∷ 17 ∷ 18 ∷ 24 ∷ [])
        (and_then v (λ x. looked_up_in (body_of s x) x.place.run x.submesh asked))
    go (gives x) e = in_refuses (stands_points s j x (standing_laws.stands s j x e)) asked
    go (refuses k h) e = refuses k h

pub refusals : Refusals
refusals = record { look_up = λ s j asked buffers. answer_refuses buffers (looked_refuses s j asked) }

pub never_sixteen : NeverSixteen
never_sixteen =
    record { look_up = λ s j asked buffers. unlisted_12 16 refl (refusals.look_up s j asked buffers) }
