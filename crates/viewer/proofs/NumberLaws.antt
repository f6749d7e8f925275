-- An answer as one number: a refusal below 0, a count that fits, one that does not, and a number handed on. Assumes
-- nothing.
use mathlib.Core.Path.{◌≡◌, ap, ◌∙◌}
use Prim.Native.Nat.{ℕ, ◌^◌, ◌≤◌, ◌<◌}
use native.Mathlib.Omega.{arith}
use borrow.Author.Rules.{sfits_of}
use borrow.Author.Tests.{le-leb, lt-leb}
use lib.IntN.{ℤ, pos, negsuc, ◌-ℤ◌}
use lib.Signed.{mag}
use mir.Syntax.{w64}
use mir.Val.{to_z, of_z}
use mir.Facts.{to_z-of_z, to_z_pos}
use Rattle.bits.specs.Verdict.{Verdict, accepted, declined}
use Rattle.bits.proofs.BelowLaws.{below_zero}
use Rattle.viewer.specs.Number.{number}

module _ (v : Verdict ℕ) where
  pub number_declined : (k : ℕ) → k < 2 ^ 8 → v ≡ declined k → to_z w64 (of_z w64 (pos 0 -ℤ to_z w64 k)) ≡ number v
  unfolding number
  number_declined k small e = rw e (below_zero k small)

  module _ (n : ℕ) (e : v ≡ accepted n) where
    pub number_large : 9223372036854775807 < n → negsuc 13 ≡ number v
    unfolding number
    number_large h = rw (e, lt-leb n 9223372036854775807 h)

    pub number_count : n ≤ 9223372036854775807 → to_z w64 n ≡ number v
    unfolding number
    number_count h = rw (e, le-leb n 9223372036854775807 h) (to_z_pos w64 {n = n} (omega arith))

-- a number that another function answered
pub handed : (z : ℤ) (v u : Verdict ℕ) → mag z < 2 ^ 63 → z ≡ number v → v ≡ u → to_z w64 (of_z w64 z) ≡ number u
handed z v u small e f = to_z-of_z {w = w64} (sfits_of small) ∙ e ∙ ap number f
