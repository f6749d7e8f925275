-- Which floats are NaNs: of those that arithmetic makes, only the share of a padding of 0 in a face of width 0.
-- The proof is in proofs/NanProofs.antt.
use Rattle.std.specs.Prelude.{◌≡◌, ℕ, ◌^◌, ◌<◌, true, false, ◌&&◌, List, ◌==◌, from_bits, is_nan, Float}
use mathlib.Core.List.{Memᴰ}
use Rattle.std.specs.Float.{binary32}
use Rattle.std.specs.Float.Ieee.{nan_bits, le, fits}
use Rattle.std.specs.Float.Ieee.Scale.{finite}
use Rattle.bits.specs.Verdict.{accepted}
use Rattle.bits.specs.Float.{scaled, bits_of}
use Rattle.payload.specs.Float.{f0, f1, ratio}
use Rattle.payload.specs.Sphere.{sphere_uvs}
use Rattle.payload.specs.Cube.{cube_floats}
use Rattle.payload.specs.View.{fov_for_zoom, zoom_for_fov}

-- b is the bit pattern of a float, and the float is no NaN
pub record Number (b : ℕ) : Type 0 where
  pub bits : bits_of (from_bits binary32 b) ≡ b
  pub number : is_nan (from_bits binary32 b) ≡ false
  pub pattern : nan_bits binary32 b ≡ false

pub record NanLaws : Type 0 where
  -- a padding of p pixels in a face F pixels wide: its share is a NaN exactly where both are 0
  pub share : (p F : ℕ) → p < 2 ^ 32 → F < 2 ^ 32 → is_nan (ratio p F) ≡ (p == 0 && F == 0)
  -- no number among the vertices of an accepted cube is a NaN
  pub points : (cells : ℕ) (radius part : Float) (l : List ℕ) (b : ℕ)
      → cube_floats cells radius part ≡ accepted l → Memᴰ b l → Number b
  -- nor an infinity, the radius being an f32
  pub points_finite : (cells : ℕ) (radius part : Float) (l : List ℕ) (b : ℕ) → fits binary32 radius ≡ true
      → cube_floats cells radius part ≡ accepted l → Memᴰ b l → finite (from_bits binary32 b) ≡ true
  -- no texture coordinate of an accepted grid is a NaN
  pub uvs : (rings sectors : ℕ) (l : List ℕ) (b : ℕ) → sphere_uvs rings sectors ≡ accepted l → Memᴰ b l → Number b
  -- each lies between 0 and 1
  pub uvs_between : (rings sectors : ℕ) (l : List ℕ) (b : ℕ) → sphere_uvs rings sectors ≡ accepted l → Memᴰ b l
      → (le f0 (from_bits binary32 b) ≡ true) × (le (from_bits binary32 b) f1 ≡ true)
  -- no side of a crop is a NaN, whatever its field
  pub side : (v : ℕ) → v < 2 ^ 32 → is_nan (scaled v) ≡ false
  -- nor a field of view or a zoom, whatever it is made of
  pub fov : (zoom : Float) → is_nan (fov_for_zoom zoom) ≡ false
  pub zoom : (fov : Float) → is_nan (zoom_for_fov fov) ≡ false
