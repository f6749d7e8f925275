-- `write_equi` meets its contract. Assumes nothing.
use Rattle.std.proofs.Common.{◌≡◌, Bool, true, false, sym, ap, ◌∙◌}
use Rattle.bits.specs.Verdict.{accepted, declined}
use Rattle.payload.specs.Crop.{usable}
use Rattle.payload.specs.Equi.{crop_of, equi_bytes, equi_written}
use Rattle.payload.specs.declared.equi.EquiFields.{EquiFields}
use Rattle.payload.specs.declared.crop.Bounds.{Bounds}
use Rattle.payload.proofs.LentLaws.{told_declined, told_same}
use Rattle.payload.proofs.equi.write_equi.Goals as goal

module _ (ρ : EquiFields) (crop : Bounds) (e : crop ≡ crop_of ρ) (u : Bool) (f : u ≡ usable crop) where
  bad : u ≡ false → equi_written ρ ≡ declined 10
  unfolding equi_written
  bad h = let g : usable (crop_of ρ) ≡ false = ap usable (sym e) ∙ sym f ∙ h in rw g

  fine : u ≡ true → equi_written ρ ≡ accepted (equi_bytes ρ)
  unfolding equi_written
  fine h = let g : usable (crop_of ρ) ≡ true = ap usable (sym e) ∙ sym f ∙ h in rw g

pub returns-then-not-is_usable : goal.returns-then-not-is_usable
returns-then-not-is_usable c =
    let a = c.args in let r = told_declined 1 _ a.out.now 10 (bad a.fields _ c.crop.ensures _ c.is_usable.ensures (c.if-not-is_usable.true)) in record { answer = r.0; buffers = r.1 }

pub returns : goal.returns
returns c =
    let a = c.args in let r = told_same 1 _ a.out.now (equi_bytes a.fields) _ _ (fine a.fields _ c.crop.ensures _ c.is_usable.ensures (c.if-not-is_usable.false))
    (c.fill_words.ensures.answer, c.fill_words.ensures.buffers) in record { answer = r.0; buffers = r.1 }
