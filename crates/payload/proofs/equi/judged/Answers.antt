-- `judged` meets its contract. Assumes nothing.
use Rattle.std.proofs.Common.{◌≡◌, true, false, sym, ap, ◌∙◌}
use Rattle.bits.specs.Verdict.{accepted, declined, mapped}
use Rattle.payload.specs.Crop.{usable}
use Rattle.payload.specs.Equi.{crop_of, equi_usable, with_crop}
use Rattle.payload.specs.declared.equi.EquiFields.{EquiFields}
use Rattle.payload.specs.declared.crop.Bounds.{Bounds}
use Rattle.payload.proofs.equi.judged.Goals as goal

module _ (ρ : EquiFields) (crop : Bounds) (e : crop ≡ crop_of ρ) where
  fine : usable crop ≡ true → accepted (ρ, crop) ≡ mapped with_crop (equi_usable ρ)
  unfolding equi_usable
  fine h = let g : usable (crop_of ρ) ≡ true = ap usable (sym e) ∙ h in rw g (ap (λ (b : Bounds). accepted (ρ, b)) e)

  bad : usable crop ≡ false → declined 10 ≡ mapped with_crop (equi_usable ρ)
  unfolding equi_usable
  bad h = let g : usable (crop_of ρ) ≡ false = ap usable (sym e) ∙ h in rw g

pub returns-then-is_usable : goal.returns-then-is_usable
returns-then-is_usable c = fine _ _ c.crop-crop.ensures (sym c.is_usable.ensures ∙ c.if-is_usable.true)

pub returns : goal.returns
returns c = bad _ _ c.crop-crop.ensures (sym c.is_usable.ensures ∙ c.if-is_usable.false)
