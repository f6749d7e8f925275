-- When a crop is usable.
use Rattle.std.specs.Prelude.{Bool, ◌&&◌, Float}
use Rattle.std.specs.Float.Ieee.{lt, le}
use Rattle.std.specs.Float.Ieee.Scale.{finite}
use Rattle.payload.specs.Float.{f0, f1, ◌⊕◌}
use Rattle.payload.specs.declared.crop.Bounds.{Bounds}

-- finite, at least 0 and below 1; -0.0 counts as 0
unfoldable pub side_usable : Float → Bool
side_usable x = finite x && (le f0 x && lt x f1)

-- each side, and the rounded sums of two opposite sides below 1
unfoldable pub usable : Bounds → Bool
usable b =
    ((((side_usable b.top && side_usable b.bottom) && side_usable b.left) && side_usable b.right)
    && lt (b.top ⊕ b.bottom) f1)
    && lt (b.left ⊕ b.right) f1

-- `Bounds::FULL`
abbrev pub full : Bounds
full = record { top = f0; bottom = f0; left = f0; right = f0 }
