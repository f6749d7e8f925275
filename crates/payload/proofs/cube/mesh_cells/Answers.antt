-- `mesh_cells` meets its contract. Assumes nothing.
use Rattle.std.proofs.Common.{◌∙◌}
use Rattle.bits.proofs.SaysLaws.{passed}
use Rattle.payload.proofs.CubeLaws.{floats_no, floats_odd, floats_yes}
use Rattle.payload.proofs.cube.mesh_cells.Goals as goal

pub returns-in_err-cells-clause-floats : goal.returns-in_err-cells-clause-floats
returns-in_err-cells-clause-floats c =
    let a = c.args in
    passed _ _ _ c.from_residual.ensures.1 ∙ floats_no a.cells a.radius a.padding _ c.in_err-cells.ensures

pub returns-then-not-is_finite-share_usable-clause-floats : goal.returns-then-not-is_finite-share_usable-clause-floats
returns-then-not-is_finite-share_usable-clause-floats c =
    let a = c.args in
    let k = c.in_ok-cells in
    floats_odd a.cells _ k.ensures k.cells.few a.radius a.padding _ _ c.is_finite.ensures.value c.share_usable.ensures
    c.if-not-is_finite-share_usable.true

pub returns-clause-floats : goal.returns-clause-floats
returns-clause-floats c =
    let a = c.args in
    let k = c.in_ok-cells in
    floats_yes a.cells _ k.ensures k.cells.few a.radius a.padding _ _ c.is_finite.ensures.value c.share_usable.ensures
    c.if-not-is_finite-share_usable.false
