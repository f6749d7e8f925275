-- `check_from_vertices` meets its contract: its answer is that on the vertices, and then that on the submeshes. Assumes
-- nothing.
use Rattle.std.proofs.Common.{refl, ◌∙◌, arith}
use Rattle.bits.specs.Number.{width_of}
use Rattle.bits.proofs.SaysLaws.{passed}
use Rattle.payload.proofs.CheckLaws.{run_told, vertices_declined, submeshes_place, body_says_law}
use Rattle.payload.proofs.mesh.measure.check_from_vertices.Goals as goal

pub returns-in_err-check_fives : goal.returns-in_err-check_fives
returns-in_err-check_fives c =
    let a = c.args in
    passed _ _ _ c.from_residual.ensures.1
    ∙ vertices_declined a.s.now a.n a.m _ (run_told a.s.now _ _ c.requires.0 c.in_err-check_fives.ensures.answer)

pub check_submesh_list-requires : goal.check_submesh_list-requires
check_submesh_list-requires c =
    let a = c.args in
    let good = run_told a.s.now _ _ c.requires.0 c.in_ok-check_fives.ensures.answer in
    rw c.submeshes_at-place.ensures.place
    (submeshes_place a.s.now a.n a.m good (width_of a.n) refl _ c.bit_width-v.ensures (omega arith) (omega arith)
    (omega arith))

pub returns-in_err-size : goal.returns-in_err-size
returns-in_err-size c =
    let a = c.args in
    let good = run_told a.s.now _ _ c.requires.0 c.in_ok-check_fives.ensures.answer in
    passed _ _ _ c.from_residual-in_err-size.ensures.1
    ∙ body_says_law a.s.now a.n a.m good (width_of a.n) refl _ _ c.bit_width-v.ensures
    (rw c.submeshes_at-place.ensures.place at c.in_err-size.ensures)

pub returns : goal.returns
returns c =
    let a = c.args in
    let good = run_told a.s.now _ _ c.requires.0 c.in_ok-check_fives.ensures.answer in
    body_says_law a.s.now a.n a.m good (width_of a.n) refl _ _ c.bit_width-v.ensures
    (rw c.submeshes_at-place.ensures.place at c.in_ok-size.ensures)
