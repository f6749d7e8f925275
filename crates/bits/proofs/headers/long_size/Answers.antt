-- `long_size` meets its contract: two words, one, or none. Assumes nothing.
use Rattle.std.proofs.Common.{ap, ◌∙◌, arith}
use Rattle.bits.specs.Verdict.{declined}
use Rattle.bits.proofs.SaysLaws.{passed}
use Rattle.bits.proofs.HeaderLaws.{word_cut, long_short, long_one_law, long_two}
use Rattle.bits.proofs.headers.long_size.Goals as goal

pub returns-in_err-high : goal.returns-in_err-high
returns-in_err-high c =
    let a = c.args in
    let cut = word_cut a.s.now a.c.at c.in_err-high.ensures in
    passed _ _ _ c.from_residual.ensures.1 ∙ ap declined cut.1 ∙ long_short a.s.now a.c.at (omega arith)

pub returns-in_err-low : goal.returns-in_err-low
returns-in_err-low c =
    let a = c.args in
    passed _ _ _ c.from_residual-in_err-low.ensures.1
    ∙ long_one_law a.s.now a.c.at _ _ c.in_ok-high.ensures c.in_err-low.ensures

pub returns : goal.returns
returns c =
    let a = c.args in
    long_two a.s.now a.c.at _ _ c.in_ok-high.ensures _ _ c.in_ok-low.ensures
