-- `draw_submeshes` meets its contract. The invariant: storing the words of the submeshes that are left gives the same as storing all at first. Assumes nothing.
use Rattle.std.proofs.Common.{sym, ap, ◌∙◌, arith}
use lib.Seq.{sets}
use Rattle.payload.specs.Internal.{points_of, word_at}
use Rattle.payload.proofs.TurnLaws.{taken_points}
use Rattle.payload.proofs.DrawLaws.{submesh_drawn, submesh_words-none}
use Rattle.payload.proofs.ExpandedLaws.{expanded_after_run}
use Rattle.payload.proofs.mesh.draw.draw_submeshes.Goals as goal

pub loop-submesh-preserved : goal.loop-submesh-preserved
loop-submesh-preserved c =
    let u = c.draw_run in
    let l = c.loop-submesh in
    let a = c.args in
    let i = l.invariant in
    let r = c.in-Some.submesh in
    let T = c.in-Some.ensures.steps in
    let s = a.submeshes.s.now in
    let k = u.auto.words in
    record {
      body = T.body ∙ i.body;
      same = i.same ∙ submesh_drawn T (word_at s a.numbers.now) a.base l.words _ l.to (rw i.body u.ensures.floats);
      place = i.place ∙ omega (arith, taken_points T);
      room = omega (arith, i.room, taken_points T, k);
      long = k ∙ i.long;
      pooled = rw T.vertices i.pooled;
      vertices = rw T.vertices (expanded_after_run (word_at s a.numbers.now) a.base l.words _ l.to r.run.count (points_of s r.run) u.ensures.floats (rw i.body at (sym T.count)) i.vertices);
    }

pub returns-clause-floats : goal.returns-clause-floats
returns-clause-floats c =
    let l = c.loop-submesh in
    let a = c.args in
    sym (l.invariant.same ∙ ap (sets l.words l.to) (submesh_words-none (word_at a.submeshes.s.now a.numbers.now) a.base _ c.in-None.ensures.steps))
