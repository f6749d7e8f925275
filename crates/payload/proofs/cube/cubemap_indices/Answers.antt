-- `cubemap_indices` meets its contract. Assumes nothing.
use Rattle.std.proofs.Common.{sym, ◌∙◌, div-one, arith}
use Rattle.bits.proofs.SaysLaws.{passed_on}
use Rattle.payload.specs.Cube.{cube_numbers}
use Rattle.payload.proofs.LentLaws.{told_declined, told_needs, told_filled}
use Rattle.payload.proofs.CubeLaws.{numbers_no, numbers_yes}
use Rattle.payload.proofs.cube.cubemap_indices.Goals as goal

pub returns-in_err-cells : goal.returns-in_err-cells
returns-in_err-cells c =
    let a = c.args in
    let e = numbers_no a.cells _ c.in_err-cells.ensures in
    let r = told_declined 1 (cube_numbers a.cells) a.out.now _ e in
    record { answer = passed_on _ _ _ _ c.from_residual.ensures.1 ∙ r.0; buffers = r.1 }

pub returns-then-out-count : goal.returns-then-out-count
returns-then-out-count c =
    let a = c.args in
    let k = c.in_ok-cells in
    let e = numbers_yes a.cells _ k.ensures k.cells.few in
    let r = told_needs 1 (cube_numbers a.cells) a.out.now _ _ e c.numbers-count.ensures (omega arith) in
    record { answer = r.0; buffers = r.1 }

pub index_cube-requires : goal.index_cube-requires
index_cube-requires c = omega (arith, c.numbers-count.ensures)

pub returns : goal.returns
returns c =
    let a = c.args in
    let k = c.in_ok-cells in
    let n = c.numbers-count.ensures in
    let e = numbers_yes a.cells _ k.ensures k.cells.few in
    let numbers = cube_numbers a.cells in
    let r = told_filled 1 numbers a.out.now _ _ _ e (n ∙ sym (div-one _)) (omega arith) c.index_cube.ensures in
    record { answer = r.0; buffers = r.1 }
