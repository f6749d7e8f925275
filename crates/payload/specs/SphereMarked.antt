-- m6 and m7 of document 01. Their proof is in proofs/SphereMarked.antt.
use Rattle.std.specs.Prelude.{◌≡◌, true, false, [], ◌∷◌}
use Rattle.bits.specs.Verdict.{accepted}
use Rattle.payload.specs.Crop.{full}
use Rattle.payload.specs.Sphere.{grid_usable, sphere_numbers}

pub record SphereMarked : Type 0 where
  pub m6 : sphere_numbers 2 3 full
      ≡ accepted (0 ∷ 4 ∷ 5 ∷ 1 ∷ 5 ∷ 6 ∷ 2 ∷ 6 ∷ 7 ∷ 4 ∷ 9 ∷ 5 ∷ 5 ∷ 10 ∷ 6 ∷ 6 ∷ 11 ∷ 7 ∷ [])
  pub m7_square : grid_usable 255 255 ≡ true
  pub m7_square_over : grid_usable 255 256 ≡ false
  pub m7_wide : grid_usable 2 21844 ≡ true
  pub m7_wide_over : grid_usable 2 21845 ≡ false
