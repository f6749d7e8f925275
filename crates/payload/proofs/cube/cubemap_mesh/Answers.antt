-- `cubemap_mesh` meets its contract. Assumes nothing.
use Rattle.std.proofs.Common.{sym, ◌∙◌, arith}
use Rattle.bits.proofs.SaysLaws.{passed_on}
use Rattle.payload.specs.Cube.{cube_floats}
use Rattle.payload.proofs.LentLaws.{told_declined, told_needs, told_filled}
use Rattle.payload.proofs.CubeLaws.{length_points}
use Rattle.payload.proofs.cube.cubemap_mesh.Goals as goal

pub returns-in_err-cells : goal.returns-in_err-cells
returns-in_err-cells c =
    let a = c.args in
    let floats = cube_floats a.cells a.radius a.padding in
    let r = told_declined 5 floats a.out.now _ (sym c.in_err-cells.ensures.floats) in
    record { answer = passed_on _ _ _ _ c.from_residual.ensures.1 ∙ r.0; buffers = r.1 }

pub returns-then-out-count : goal.returns-then-out-count
returns-then-out-count c =
    let a = c.args in
    let k = c.in_ok-cells in
    let floats = cube_floats a.cells a.radius a.padding in
    let l = length_points k.cells.n a.radius a.padding in
    let n = c.vertices-count.ensures.number in
    let r = told_needs 5 floats a.out.now _ _ (sym k.ensures.floats) (omega arith) (omega arith) in
    record { answer = r.0; buffers = r.1 }

pub point_cube-requires : goal.point_cube-requires
point_cube-requires c =
    omega (arith, c.vertices-count.ensures.number, length_points c.in_ok-cells.cells.n c.args.radius c.args.padding)

pub returns : goal.returns
returns c =
    let a = c.args in
    let k = c.in_ok-cells in
    let floats = cube_floats a.cells a.radius a.padding in
    let l = length_points k.cells.n a.radius a.padding in
    let n = c.vertices-count.ensures.number in
    let e = sym k.ensures.floats in
    let r = told_filled 5 floats a.out.now _ _ _ e (omega arith) (omega arith) c.point_cube.ensures in
    record { answer = r.0; buffers = r.1 }
