-- The share that a padding of p pixels takes of a face F pixels wide: the test of its float says whether twice p is
-- below F. The proof is in proofs/ShareProofs.antt.
use Rattle.std.specs.Prelude.{◌≡◌, ℕ, ◌*◌, ◌≤◌, nat_lt}
use Rattle.payload.specs.Float.{ratio}
use Rattle.payload.specs.Cube.{share_usable}

pub record ShareLaws : Type 0 where
  pub usable : (p F : ℕ) → p ≤ 4096 → 1 ≤ F → F ≤ 16384 → share_usable (ratio p F) ≡ nat_lt (2 * p) F
