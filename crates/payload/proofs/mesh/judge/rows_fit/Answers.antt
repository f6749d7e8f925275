-- `rows_fit` meets its contract: what is left of the rows against what is left of the points. Assumes nothing.
use Rattle.std.proofs.Common.{◌≡◌, ◌+◌, length, sym, ap, ◌∙◌, arith, length-append}
use Rattle.payload.proofs.RowLaws.{row_taken, row_told, rows_done, rows_torn}
use Rattle.payload.proofs.mesh.judge.rows_fit.Goals as goal

pub returns-then-rows-ne0 : goal.returns-then-rows-ne0
returns-then-rows-ne0 c = sym (rows_torn c.args.rows.now c.args.points c.if-rows-ne0.true)

pub returns-then-not-row_fits : goal.returns-then-not-row_fits
returns-then-not-row_fits c =
    let l = c.loop-row in
    let s = c.in-Some.ensures.steps.1 in
    sym (l.invariant.same ∙ row_taken _ _ l.left s.0 (s.1 ∙ l.invariant.threes)
    ∙ simp (sym c.row_fits.ensures ∙ c.if-not-row_fits.true))

pub overflow_sub-left : goal.overflow_sub-left
overflow_sub-left c = (row_told _ _ _ c.loop-row.left (sym c.row_fits.ensures ∙ c.if-not-row_fits.false)).1

pub loop-row-preserved : goal.loop-row-preserved
loop-row-preserved c =
    let l = c.loop-row in
    let s = c.in-Some.ensures.steps in
    let row : length c.in-Some.row.now ≡ 3 = s.1.1 ∙ l.invariant.threes in
    let rest : length l.row-iterator.rest.now ≡ length c.in-Some.row.now + length c.next.new.self.rest.now =
    ap length s.1.0 ∙ length-append c.in-Some.row.now c.next.new.self.rest.now in
    record {
      threes = s.0 ∙ l.invariant.threes;
      whole = omega (arith, l.invariant.whole);
      same = l.invariant.same ∙ row_taken _ _ l.left s.1.0 row
          ∙ simp (sym c.row_fits.ensures ∙ c.if-not-row_fits.false);
    }

pub returns : goal.returns
returns c =
    let l = c.loop-row in
    sym (l.invariant.same ∙ rows_done l.row-iterator.rest.now l.left l.invariant.whole
    (omega (arith, c.in-None.ensures.steps.1.0, l.invariant.threes)))
