-- The viewer's small calls, case by case.
use Rattle.std.specs.Prelude.{ℕ, Bool, true, false, cond, not, ◌||◌, List, [], ◌∷◌, ◌==◌, from_bits, Float}
use Rattle.std.specs.Prelude.{Option, Some, None}
use Rattle.std.specs.Float.{binary32}
use Rattle.std.specs.Float.Ieee.{lt, le}
use Rattle.std.specs.Float.Ieee.Scale.{finite}
use Rattle.payload.specs.Float.{f0, f¼, f½, f1, ◌⊘◌}
use Rattle.payload.specs.Crop.{full}
use Rattle.payload.specs.declared.crop.Bounds.{Bounds}
use Rattle.payload.specs.declared.view.StereoLayout.{StereoLayout}
use Rattle.payload.specs.declared.view.StereoLayout.TheVariants as S
use Rattle.payload.specs.declared.view.AnaglyphPair.{AnaglyphPair}
use Rattle.payload.specs.declared.view.AnaglyphPair.TheVariants as A
use Rattle.payload.specs.declared.view.Projection.{Projection}
use Rattle.payload.specs.declared.view.Projection.TheVariants as P
use Rattle.payload.specs.declared.view.Eye.{Eye}
use Rattle.payload.specs.declared.view.Eye.TheVariants.{Left, Right}

-- ---- the raw numbers of the layout types

abbrev pub layout_of : ℕ → StereoLayout
layout_of n =
    cond (n == 1) S.OverUnder
    (cond (n == 2) S.SideBySide (cond (n == 3) S.Anaglyph (cond (n == 4) S.RowInterleaved S.Mono)))

abbrev pub pair_of : ℕ → AnaglyphPair
pair_of n = cond (n == 1) A.GreenMagenta (cond (n == 2) A.YellowBlue A.RedCyan)

abbrev pub projection_of : ℕ → Projection
projection_of n = cond (n == 1) P.Equirect180 (cond (n == 2) P.Flat (cond (n == 3) P.Cubemap P.Equirect360))

-- ---- what they say

abbrev pub windowed : StereoLayout → Bool
windowed S.Mono = true
windowed S.OverUnder = true
windowed S.SideBySide = true
windowed S.Anaglyph = false
windowed S.RowInterleaved = false

abbrev pub panoramic : Projection → Bool
panoramic P.Equirect360 = true
panoramic P.Equirect180 = true
panoramic P.Cubemap = true
panoramic P.Flat = false

-- the patch of the sphere that a projection is short for, if it is one
abbrev pub patch_of : Projection → Option Bounds
patch_of P.Equirect360 = Some full
patch_of P.Equirect180 = Some (record { top = f0; bottom = f0; left = f¼; right = f¼ })
patch_of P.Cubemap = None
patch_of P.Flat = None

-- the texture window of an eye: u scale, u offset, v scale, v offset
abbrev pub window_of : StereoLayout → Eye → List Float
window_of S.Mono e = f1 ∷ f0 ∷ f1 ∷ f0 ∷ []
window_of S.OverUnder Left = f1 ∷ f0 ∷ f½ ∷ f½ ∷ []
window_of S.OverUnder Right = f1 ∷ f0 ∷ f½ ∷ f0 ∷ []
window_of S.SideBySide Left = f½ ∷ f0 ∷ f1 ∷ f0 ∷ []
window_of S.SideBySide Right = f½ ∷ f½ ∷ f1 ∷ f0 ∷ []
window_of S.Anaglyph e = f1 ∷ f0 ∷ f1 ∷ f0 ∷ []
window_of S.RowInterleaved e = f1 ∷ f0 ∷ f1 ∷ f0 ∷ []

-- the weights of red, green and blue in an eye's picture
abbrev pub mix_of : AnaglyphPair → Eye → List Float
mix_of A.RedCyan Left = f1 ∷ f0 ∷ f0 ∷ []
mix_of A.RedCyan Right = f0 ∷ f½ ∷ f½ ∷ []
mix_of A.GreenMagenta Left = f0 ∷ f1 ∷ f0 ∷ []
mix_of A.GreenMagenta Right = f½ ∷ f0 ∷ f½ ∷ []
mix_of A.YellowBlue Left = f½ ∷ f½ ∷ f0 ∷ []
mix_of A.YellowBlue Right = f0 ∷ f0 ∷ f1 ∷ []

-- ---- zoom and field of view, in degrees

abbrev pub min_fov : Float
min_fov = from_bits binary32 0x4120_0000

abbrev pub max_fov : Float
max_fov = from_bits binary32 0x42c8_0000

abbrev pub default_fov : Float
default_fov = from_bits binary32 0x41ce_147b

-- x, or the nearer of the two ends; a NaN stays
abbrev pub clamped : Float → Float → Float → Float
clamped x low high = cond (lt x low) low (cond (lt high x) high x)

-- not a number above 0 and below infinity
abbrev pub unusable : Float → Bool
unusable x = not (finite x) || le x f0

unfoldable pub fov_for_zoom : Float → Float
fov_for_zoom zoom = cond (unusable zoom) default_fov (clamped (default_fov ⊘ zoom) min_fov max_fov)

unfoldable pub zoom_for_fov : Float → Float
zoom_for_fov fov = cond (unusable fov) f1 (default_fov ⊘ fov)
