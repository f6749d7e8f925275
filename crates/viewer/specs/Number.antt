-- An answer as one number for the viewer.
use Rattle.std.specs.Prelude.{ℕ, ◌^◌, ◌-◌, cond, leb, ℤ, pos, negsuc, neg_ℤ}
use Rattle.bits.specs.Verdict.{Verdict, accepted, needs, declined}
use Rattle.payload.specs.declared.mesh.measure.MeshListSize.{MeshListSize}

-- a length below 2^63, -14 from there on, -k for refusal k; 12 would be -12, but none of the viewer's calls is lent a
-- buffer
unfoldable pub number : Verdict ℕ → ℤ
number (accepted n) = cond (leb n (2 ^ 63 - 1)) (pos n) (negsuc 13)
number (needs l) = negsuc 11
number (declined k) = neg_ℤ (pos k)

-- for the step from a measured list to its points
abbrev pub points_of : MeshListSize → ℕ
points_of n = n.points
