-- `put_submeshes` meets its contract: the rows and points that are left. Assumes nothing.
use Rattle.std.proofs.Common.{ap, ◌∙◌}
use Rattle.payload.proofs.RowLaws.{row_first, rows_end, subs_first}
use Rattle.payload.proofs.WriterLaws.{head_ready, on_start, on_step}
use Rattle.payload.proofs.mesh.write.BitWriter.put_submeshes.Goals as goal

pub loop-row-init : goal.loop-row-init
loop-row-init c =
    let e = ap (λ s. s.rest.now) c.into_iter-row-iterator.ensures.into_iter_gives
    ∙ c.chunks_exact-row-items.ensures.rest in
    record {
      threes = ap (λ s. s.size) c.into_iter-row-iterator.ensures.into_iter_gives
          ∙ c.chunks_exact-row-items.ensures.size;
      fit = rw e c.requires.points_value;
      way = rw e (on_start c.requires.ready);
    }

pub split_at-requires : goal.split_at-requires
split_at-requires c =
    let l = c.loop-row in
    let s = c.in-Some.ensures.steps.1 in
    (row_first _ _ l.left.now s.0 (s.1 ∙ l.invariant.threes) l.invariant.fit).fits

pub put_submesh-to-requires : goal.put_submesh-to-requires
put_submesh-to-requires c =
    let l = c.loop-row in
    let s = c.in-Some.ensures.steps.1 in
    let r = row_first _ _ l.left.now s.0 (s.1 ∙ l.invariant.threes) l.invariant.fit in
    record {
      ready = rw c.split_at.ensures.front
          (head_ready _ _ (rw (subs_first c.args.width _ _ _ r.made) at l.invariant.way.0));
      width_bound = c.requires.width_bound;
    }

pub loop-row-preserved : goal.loop-row-preserved
loop-row-preserved c =
    let l = c.loop-row in
    let s = c.in-Some.ensures.steps in
    let r = row_first _ _ l.left.now s.1.0 (s.1.1 ∙ l.invariant.threes) l.invariant.fit in
    record {
      threes = s.0 ∙ l.invariant.threes;
      fit = rw c.split_at.ensures.back r.rest;
      way = rw c.split_at.ensures.back
          (on_step _ _ (rw (subs_first c.args.width _ _ _ r.made) at l.invariant.way)
          (rw c.split_at.ensures.front at c.put_submesh-to.ensures));
    }

pub returns : goal.returns
returns c =
    let l = c.loop-row in
    rw (rows_end c.args.width l.row-iterator.rest.now l.left.now _
    (rw (l.invariant.threes) at c.in-None.ensures.steps.1.0) l.invariant.fit) at l.invariant.way.1
