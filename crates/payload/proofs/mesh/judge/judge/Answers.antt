-- `judge` meets its contract: one test that fails decides, and so do all together. Assumes nothing.
use Rattle.std.proofs.Common.{sym, ◌∙◌, arith}
use Rattle.payload.proofs.JudgeLaws.{all_passed, coordinates_no, counts_no, counts_told, lengths_no, lengths_told}
use Rattle.payload.proofs.JudgeLaws.{not_finite, points_no, rows_no, size_no}
use Rattle.payload.proofs.mesh.judge.judge.Goals as goal

pub returns-then-not-counts_fit : goal.returns-then-not-counts_fit
returns-then-not-counts_fit c = counts_no _ _ _ _ (sym c.counts_fit.ensures ∙ c.if-not-counts_fit.true)

pub returns-then-not-rows_fit : goal.returns-then-not-rows_fit
returns-then-not-rows_fit c = rows_no _ _ _ _ (sym c.rows_fit.ensures ∙ c.if-not-rows_fit.true)

pub returns-then-not-lengths_fit : goal.returns-then-not-lengths_fit
returns-then-not-lengths_fit c = lengths_no _ _ _ _ (sym c.lengths_fit.ensures ∙ c.if-not-lengths_fit.true)

pub box_size-size-requires : goal.box_size-size-requires
box_size-size-requires c =
    let t = counts_told _ _ _ (sym c.counts_fit.ensures ∙ c.if-not-counts_fit.false) in
    let l = lengths_told _ _ (sym c.lengths_fit.ensures ∙ c.if-not-lengths_fit.false) in
    (t.pool_most, omega (arith, t.fives, t.vertex_most), t.vertex_most, omega (arith, l.0), l.1)

pub returns-then-size-gt67108864 : goal.returns-then-size-gt67108864
returns-then-size-gt67108864 c =
    size_no _ _ _ _ _ (sym c.rows_fit.ensures ∙ c.if-not-rows_fit.false) c.box_size-size.ensures
    c.if-size-gt67108864.true

pub overflow_cast-n : goal.overflow_cast-n
overflow_cast-n c =
    record {
      fits = omega (
        arith,
        (counts_told _ _ _ (sym c.counts_fit.ensures ∙ c.if-not-counts_fit.false)).pool_most,
      );
    }

pub returns-then-not-all_below : goal.returns-then-not-all_below
returns-then-not-all_below c = coordinates_no _ _ _ _ (sym c.all_below.ensures ∙ c.if-not-all_below.true)

pub overflow_cast-v : goal.overflow_cast-v
overflow_cast-v c =
    record {
      fits = omega (
        arith,
        (counts_told _ _ _ (sym c.counts_fit.ensures ∙ c.if-not-counts_fit.false)).vertex_most,
      );
    }

pub returns-then-not-all_below-2 : goal.returns-then-not-all_below-2
returns-then-not-all_below-2 c = points_no _ _ _ _ (sym c.all_below-2.ensures ∙ c.if-not-all_below-2.true)

-- what all the tests tell together decides the last two
pub returns-then-not-all_finite : goal.returns-then-not-all_finite
returns-then-not-all_finite c =
    not_finite _ _ _ _ _ (sym c.rows_fit.ensures ∙ c.if-not-rows_fit.false) c.box_size-size.ensures
    (sym c.counts_fit.ensures ∙ c.if-not-counts_fit.false) c.if-size-gt67108864.false
    (sym c.all_below.ensures ∙ c.if-not-all_below.false) (sym c.all_below-2.ensures ∙ c.if-not-all_below-2.false)
    (sym c.all_finite.ensures ∙ c.if-not-all_finite.true)

pub returns : goal.returns
returns c =
    all_passed _ _ _ _ _ (sym c.rows_fit.ensures ∙ c.if-not-rows_fit.false) c.box_size-size.ensures
    (sym c.counts_fit.ensures ∙ c.if-not-counts_fit.false) c.if-size-gt67108864.false
    (sym c.all_below.ensures ∙ c.if-not-all_below.false) (sym c.all_below-2.ensures ∙ c.if-not-all_below-2.false)
    (sym c.all_finite.ensures ∙ c.if-not-all_finite.false)
