-- The points of a measured mesh list are those of its meshes. Assumes nothing.
use Rattle.std.proofs.Common.{◌≡◌, ℕ, List, Result, Ok, Err, MatchResult, IsOkAnd, refl, sym, ap, ◌∙◌}
use Rattle.bits.specs.Verdict.{Verdict, accepted, needs, declined, mapped, limited}
use Rattle.bits.specs.declared.refusals.Refusal.{Refusal}
use Rattle.payload.specs.Count.{counted_says}
use Rattle.payload.specs.Mesh.{Mesh}
use Rattle.payload.specs.MeshDrawing.{point_total}
use Rattle.payload.specs.Meshes.{list_size, measured_says}
use Rattle.payload.specs.declared.mesh.measure.MeshListSize.{MeshListSize}
use Rattle.payload.proofs.Theorems.{limited_mapped}
use Rattle.viewer.specs.Number.{points_of}

inside : (v : Verdict (List Mesh)) → mapped points_of (mapped list_size v) ≡ mapped point_total v
unfolding list_size
inside (accepted l) = refl
inside (needs q) = refl
inside (declined k) = refl

pub points_measured : (s : List ℕ) (v : Verdict (List Mesh))
    → mapped points_of (limited s (mapped list_size v)) ≡ limited s (mapped point_total v)
points_measured s v =
    ap (mapped points_of) (limited_mapped s list_size v) ∙ inside (limited s v)
    ∙ sym (limited_mapped s point_total v)

-- a size answered by its points alone
module _ (P : MeshListSize → ℕ → Type 0) (told : (x : MeshListSize) (n : ℕ) → P x n → n ≡ points_of x) where
  pub points_said : (r : Result MeshListSize Refusal) (q : Result ℕ Refusal)
      → MatchResult r (λ x. IsOkAnd q (λ n. P x n)) (λ e. q ≡ Err e)
      → counted_says q ≡ mapped points_of (measured_says r)
  points_said (Ok x) (Ok n) e = ap accepted (told x n e)
  points_said (Ok x) (Err k) e = absurd e
  points_said (Err k) q e = ap counted_says e
