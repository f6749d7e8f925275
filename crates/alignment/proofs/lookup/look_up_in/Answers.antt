-- `look_up_in` meets its contract, by its four ways. Assumes nothing.
use native.Mathlib.Omega.{arith}
use Rattle.alignment.proofs.AnswerLaws.{walk_room, too_many, too_far, short_of, all_filled}
use Rattle.alignment.proofs.lookup.look_up_in.Goals as goal

pub returns-then-asked-gt256 : goal.returns-then-asked-gt256
returns-then-asked-gt256 c =
    let a = c.args in
    λ x P. too_many P a.asked.now a.vertices.now (omega arith)

pub returns-then-run-far : goal.returns-then-run-far
returns-then-run-far c =
    let a = c.args in
    let f = c.farthest_asked-far.ensures in
    λ x P. too_far P a.asked.now a.vertices.now (omega arith) (omega (arith, f))

pub returns-then-vertices-asked : goal.returns-then-vertices-asked
returns-then-vertices-asked c =
    let a = c.args in
    let f = c.farthest_asked-far.ensures in
    λ x P. short_of P a.asked.now a.vertices.now (omega arith) (omega (arith, f)) (omega arith)

pub walk_asked-last-requires : goal.walk_asked-last-requires
walk_asked-last-requires c =
    let f = c.farthest_asked-far in (
      walk_room c.requires.are f.result
          (omega arith),
      f.ensures,
      omega arith,
      omega arith,
    )

pub returns : goal.returns
returns c =
    let a = c.args in
    let f = c.farthest_asked-far.ensures in
    let r = c.walk_asked-last in
    λ x P.
    all_filled P a.asked.now a.vertices.now (omega arith) (omega (arith, f)) (omega arith) r.result
    r.ensures.state _ r.ensures.numbers
