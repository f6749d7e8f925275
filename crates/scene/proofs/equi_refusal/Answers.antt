-- `equi_refusal` meets its contract. Assumes nothing.
use Rattle.std.proofs.Common.{◌≡◌, Bool, true, false, not, sym, refl, ap, ◌∙◌, rules}
use denote.Enum.Bare.{sameb, same_true}
use Rattle.bits.specs.Says.{number_of}
use Rattle.bits.specs.contracts.refusals.Refusal.{the_type}
use Rattle.bits.specs.declared.refusals.Refusal.{Refusal}
use Rattle.bits.specs.declared.refusals.Refusal.TheVariants as R
use Rattle.bits.proofs.VerdictLaws.{clash}
use Rattle.scene.proofs.SceneLaws.{refusal_grid, refusal_crop}
use Rattle.scene.proofs.equi_refusal.Goals as goal

kept : (b : Bool) → false ≡ not b → b ≡ true
kept true e = refl
kept false e = clash (cc)

-- the refusal of a crop has number 10
ten : (r : Refusal) → false ≡ not (sameb the_type r R.Crop) → number_of r ≡ 10
ten r e =
    let same : r ≡ R.Crop = same_true the_type (search rules) r R.Crop (kept (sameb the_type r R.Crop) e) in
    ap number_of same

pub returns-in-Err : goal.returns-in-Err
returns-in-Err c =
    let a = c.args in
    let t = ten a.refusal c.if-ne.ensures in
    refusal_grid a.rings a.sectors (number_of a.refusal) _ t c.in-Err.ensures

pub returns-in-Ok : goal.returns-in-Ok
returns-in-Ok c =
    let a = c.args in
    let t = ten a.refusal c.if-ne.ensures in
    t ∙ refusal_crop a.rings a.sectors (number_of a.refusal) _ _ t c.in-Ok.ensures
