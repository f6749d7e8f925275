-- `look_up` meets its contract: what `find_submesh` declined with, or what is said of the submesh that it found.
-- Assumes nothing.
use Rattle.std.proofs.Common.{◌∙◌, arith}
use Rattle.bits.proofs.SaysLaws.{passed_on}
use Rattle.alignment.proofs.AnswerLaws.{found_at, found_inside, found_points, found_kept, not_found}
use Rattle.alignment.proofs.lookup.look_up.Goals as goal

pub returns-in_err-found : goal.returns-in_err-found
returns-in_err-found c =
    let a = c.args in
    let r = not_found a.payload.now a.number a.asked.now a.vertices.now _ c.in_err-found.ensures in
    record { answer = passed_on _ _ _ _ c.from_residual.ensures.1 ∙ r.0; buffers = r.1 }

pub slice_bounds-body-count : goal.slice_bounds-body-count
slice_bounds-body-count c = (found_inside (found_at _ _ _ c.in_ok-found.ensures)).0

pub slice_bounds-body-start : goal.slice_bounds-body-start
slice_bounds-body-start c = let i = found_inside (found_at _ _ _ c.in_ok-found.ensures) in omega (arith, i.0, i.1)

pub slice_bounds-body-end : goal.slice_bounds-body-end
slice_bounds-body-end c = let i = found_inside (found_at _ _ _ c.in_ok-found.ensures) in omega (arith, i.0, i.1)

pub look_up_in-requires : goal.look_up_in-requires
look_up_in-requires c =
    let f = found_at _ _ _ c.in_ok-found.ensures in record { submesh = f.standing.submesh; are = found_points f }

pub returns : goal.returns
returns c =
    let a = c.args in
    let f = found_at _ _ _ c.in_ok-found.ensures in
    let r = found_kept f a.asked.now a.vertices.now _ _ (c.look_up_in.ensures f.standing.submesh (found_points f)) in
    record { answer = r.0; buffers = r.1 }
