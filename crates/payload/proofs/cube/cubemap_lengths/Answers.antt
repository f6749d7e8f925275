-- `cubemap_lengths` meets its contract. Assumes nothing.
use Rattle.std.proofs.Common.{sym, ◌∙◌, arith}
use Rattle.bits.proofs.SaysLaws.{passed}
use Rattle.payload.specs.Cube.{cube_numbers, cube_floats}
use Rattle.payload.proofs.FillLaws.{both_yes}
use Rattle.payload.proofs.CubeLaws.{length_points, numbers_yes, lengths_no}
use Rattle.payload.proofs.cube.cubemap_lengths.Goals as goal

pub returns-in_err-cells : goal.returns-in_err-cells
returns-in_err-cells c =
    let a = c.args in
    passed _ _ _ c.from_residual.ensures.1 ∙ lengths_no a.cells _ a.radius a.padding c.in_err-cells.ensures.floats

pub returns : goal.returns
returns c =
    let a = c.args in
    let k = c.in_ok-cells in
    let numbers = numbers_yes a.cells _ k.ensures.size k.cells.few in
    both_yes (cube_numbers a.cells) (cube_floats a.cells a.radius a.padding) _ _ _ _ numbers (sym k.ensures.floats)
    c.numbers.ensures (omega (arith, c.vertices.ensures.number, length_points k.cells.n a.radius a.padding))
