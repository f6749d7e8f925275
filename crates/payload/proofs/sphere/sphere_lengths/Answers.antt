-- `sphere_lengths` meets its contract. Assumes nothing.
use Rattle.std.proofs.Common.{sym, ◌∙◌, arith}
use Rattle.bits.proofs.SaysLaws.{passed}
use Rattle.payload.specs.Sphere.{sphere_numbers, sphere_uvs}
use Rattle.payload.proofs.FillLaws.{both_first, both_yes}
use Rattle.payload.proofs.SphereLaws.{uvs_yes, uvs_length}
use Rattle.payload.proofs.sphere.sphere_lengths.Goals as goal

pub returns-in_err-patch : goal.returns-in_err-patch
returns-in_err-patch c =
    let a = c.args in
    let e = c.in_err-patch in
    passed _ _ _ c.from_residual.ensures.1
    ∙ both_first (sphere_numbers a.rings a.sectors a.bounds) (sphere_uvs a.rings a.sectors) _ (sym e.ensures.numbers)

pub returns : goal.returns
returns c =
    let a = c.args in
    let p = c.in_ok-patch in
    let g = p.patch.grid in
    both_yes (sphere_numbers a.rings a.sectors a.bounds) (sphere_uvs a.rings a.sectors) _ _ _ _
    (sym p.ensures.numbers) (uvs_yes a.rings a.sectors _ _ p.ensures.sizes g.usable) c.numbers.ensures
    (omega (arith, c.vertices.ensures, uvs_length g.rings g.sectors))
