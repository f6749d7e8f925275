-- `level_of` meets its contract: whole turns up to the height have been made. Each round that goes on meets a wish. Assumes nothing.
use mathlib.Core.Path.{sym, ◌∙◌}
use native.Mathlib.Omega.{arith}
use Rattle.payload.proofs.JudgeLaws.{below_under}
use Rattle.display.proofs.LevelLaws.{reached_none, reached_met, reached_wish, reached_last, lowest_least}
use Rattle.display.proofs.LevelLaws.{unmet_less}
use Rattle.display.proofs.shares.level_of.Goals as goal

pub loop-points-init : goal.loop-points-init
loop-points-init c = reached_none c.args.points c.args.wishes.now

pub returns-then-takers-eq0 : goal.returns-then-takers-eq0
returns-then-takers-eq0 c = reached_met c.loop-points.invariant (sym c.unmet-takers.ensures ∙ c.if-takers-eq0.true)

pub overflow_sub-rise : goal.overflow_sub-rise
overflow_sub-rise c =
    let l = c.loop-points in omega (arith, lowest_least l.height c.args.wishes.now l.invariant.most)

pub returns-then-whole-rise : goal.returns-then-whole-rise
returns-then-whole-rise c =
    reached_last c.loop-points.invariant _ c.unmet-takers.ensures (omega arith) (omega arith)

pub loop-points-smaller : goal.loop-points-smaller
loop-points-smaller c =
    let l = c.loop-points in
    let low = lowest_least l.height c.args.wishes.now l.invariant.most in
    unmet_less l.height _ c.args.wishes.now (below_under 1000000 c.args.wishes.now c.requires.1) (omega arith) (omega arith) (omega arith)

pub loop-points-preserved : goal.loop-points-preserved
loop-points-preserved c =
    let l = c.loop-points in
    let low = lowest_least l.height c.args.wishes.now l.invariant.most in
    reached_wish l.invariant _ c.unmet-takers.ensures (omega arith) _ (omega arith) c.if-whole-rise.false
