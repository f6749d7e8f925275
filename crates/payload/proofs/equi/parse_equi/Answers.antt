-- `parse_equi` meets its contract. Assumes nothing.
use Rattle.std.proofs.Common.{◌≡◌, ℕ, List, sym, ◌∙◌}
use Rattle.bits.specs.Verdict.{Verdict, accepted, declined, mapped}
use Rattle.payload.specs.Equi.{equi_fields, equi_usable, equi_read, with_crop}
use Rattle.payload.specs.declared.equi.EquiFields.{EquiFields}
use Rattle.payload.specs.declared.crop.Bounds.{Bounds}
use Rattle.bits.proofs.SaysLaws.{passed}
use Rattle.bits.proofs.VerdictLaws.{limited_yes, limited_no}
use Rattle.payload.proofs.equi.parse_equi.Goals as goal

module _ (s : List ℕ) where
  head : (k : ℕ) → declined k ≡ equi_fields s → declined k ≡ mapped with_crop (equi_read s)
  head k e = rw (← e)

  rest : (ρ : EquiFields) → accepted ρ ≡ equi_fields s → (o : Verdict (EquiFields × Bounds)) → o ≡ mapped with_crop (equi_usable ρ) → o ≡ mapped with_crop (equi_read s)
  rest ρ e o f = rw (← e) f

pub returns-then-payload-gt67108864 : goal.returns-then-payload-gt67108864
returns-then-payload-gt67108864 c =
    let a = c.args in
    sym (limited_no a.payload.now _ c.if-payload-gt67108864.true)

pub returns-in_err-equi_fields : goal.returns-in_err-equi_fields
returns-in_err-equi_fields c =
    let a = c.args in
    passed _ _ _ c.from_residual.ensures.1 ∙ head a.payload.now _ c.in_err-equi_fields.ensures
    ∙ sym (limited_yes a.payload.now _ c.if-payload-gt67108864.false)

pub returns : goal.returns
returns c =
    let a = c.args in
    rest a.payload.now _ c.in_ok-equi_fields.ensures _ c.judged.ensures
    ∙ sym (limited_yes a.payload.now _ c.if-payload-gt67108864.false)
