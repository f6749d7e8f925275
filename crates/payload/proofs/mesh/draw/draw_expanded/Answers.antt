-- `draw_expanded` meets its contract: the expanded vertices lie where the last points go, which are stored over them. Assumes nothing.
use Rattle.std.proofs.Common.{◌+◌, ◌-◌, ◌*◌, ◌≤◌, length, arith}
use Rattle.payload.specs.MeshDrawing.{submesh_words}
use Rattle.payload.specs.Internal.{word_at}
use Rattle.payload.specs.InternalWalk.{submeshes_in}
use Rattle.payload.proofs.MeasureLaws.{submesh_floats}
use Rattle.payload.proofs.ExpandedLaws.{expanded_made, expanded_hidden}
use Rattle.payload.proofs.mesh.draw.draw_expanded.Goals as goal

pub draw_submeshes-requires-2-clause-expanded_from : goal.draw_submeshes-requires-2-clause-expanded_from
draw_submeshes-requires-2-clause-expanded_from c =
    let x = c.args in
    let m = x.submeshes.rest.vertices in
    let expanded = x.at + 5 * (c.count_points-points.result - m) in
    let room : expanded + 5 * m ≤ length x.words.now = omega (arith, c.count_points-points.ensures, c.requires.all_in_bounds) in
    λ h. expanded_made x.submeshes.s.now x.numbers.now x.words.now _ x.base (5 * m) expanded room c.expand_vertices.ensures

pub returns-clause-floats : goal.returns-clause-floats
returns-clause-floats c =
    let x = c.args in
    let m = x.submeshes.rest.vertices in
    let word = word_at x.submeshes.s.now x.numbers.now in
    let all = submeshes_in x.submeshes in
    let long = submesh_floats word x.base all in
    let points = c.count_points-points in
    expanded_hidden word x.base (5 * m) x.words.now _ _ (submesh_words word x.base all) (x.at + 5 * (points.result - m)) x.at (omega arith)
    (omega (arith, points.ensures, c.if-points-vertices.false, long)) (omega (arith, c.requires.all_in_bounds, long)) c.expand_vertices.ensures
    c.draw_submeshes-2.ensures.floats
