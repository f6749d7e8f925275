-- The two ways through each of `fov_for_zoom` and `zoom_for_fov`. Assumes nothing.
use Rattle.std.proofs.Common.{◌≡◌, true, false}
use lib.Ieee.{Float}
use Rattle.payload.specs.Float.{f1, ◌⊘◌}
use Rattle.payload.specs.View.{unusable, clamped, min_fov, max_fov, default_fov, fov_for_zoom, zoom_for_fov}

module _ (x : Float) where
  pub fov_default : unusable x ≡ true → default_fov ≡ fov_for_zoom x
  unfolding fov_for_zoom
  fov_default e = rw e

  pub fov_clamped : unusable x ≡ false → clamped (default_fov ⊘ x) min_fov max_fov ≡ fov_for_zoom x
  unfolding fov_for_zoom
  fov_clamped e = rw e

  pub zoom_default : unusable x ≡ true → f1 ≡ zoom_for_fov x
  unfolding zoom_for_fov
  zoom_default e = rw e

  pub zoom_ratio : unusable x ≡ false → default_fov ⊘ x ≡ zoom_for_fov x
  unfolding zoom_for_fov
  zoom_ratio e = rw e
