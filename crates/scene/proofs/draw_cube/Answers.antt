-- `draw_cube` meets its contract: both lengths are known before anything is written. Assumes nothing.
use Rattle.std.proofs.Common.{sym, ◌∙◌}
use Rattle.bits.proofs.SaysLaws.{passed_on}
use Rattle.payload.specs.Cube.{cube_numbers, cube_floats}
use Rattle.scene.specs.Scene.{padding}
use Rattle.scene.proofs.GridLaws.{grid_declined, grid_short, grid_drawn}
use Rattle.scene.proofs.draw_cube.Goals as goal

pub returns-in_err-n : goal.returns-in_err-n
returns-in_err-n c =
    let a = c.args in
    λ rs.
    let r = grid_declined (padding a.pixels) (cube_numbers a.cells) (cube_floats a.cells a.radius a.share) a.numbers.now a.floats.now _ c.in_err-n.ensures rs in
    (passed_on _ _ _ _ c.from_residual.ensures.1 ∙ r.0, r.1)

pub returns-then-both_fit : goal.returns-then-both_fit
returns-then-both_fit c =
    let a = c.args in
    rw c.with_no_records-lengths.ensures
    (grid_drawn (padding a.pixels) (cube_numbers a.cells) (cube_floats a.cells a.radius a.share) a.numbers.now a.floats.now _ _ c.in_ok-n.ensures (sym c.both_fit.ensures ∙ c.if-both_fit.true) 1 5 _ _
    c.cubemap_indices.ensures.buffers c.cubemap_mesh.ensures.buffers)

pub returns : goal.returns
returns c =
    let a = c.args in
    rw c.with_no_records-lengths.ensures
    (grid_short (padding a.pixels) (cube_numbers a.cells) (cube_floats a.cells a.radius a.share) a.numbers.now a.floats.now _ _ c.in_ok-n.ensures (sym c.both_fit.ensures ∙ c.if-both_fit.false))
