-- `EquiFields::crop` meets its contract. Assumes nothing.
use Rattle.std.proofs.Common.{◌≡◌}
use lib.Ieee.{Float}
use Rattle.payload.specs.Equi.{crop_of}
use Rattle.payload.specs.declared.crop.Bounds.{Bounds}
use Rattle.payload.proofs.equi.EquiFields.crop.Goals as goal

four : {a a' b b' c c' d d' : Float} → a ≡ a' → b ≡ b' → c ≡ c' → d ≡ d'
    → ◌≡◌ {A = Bounds} (record { top = a; bottom = b; left = c; right = d }) (record { top = a'; bottom = b'; left = c'; right = d' })
four p q r s = cc

pub returns : goal.returns
unfolding crop_of
returns c = four c.scale.ensures c.scale-2.ensures c.scale-3.ensures c.scale-4.ensures
