-- What the pairs so far say of the whole.
use Rattle.std.proofs.Common.{arith}
use Rattle.replay.proofs.TextLaws.{no_pair, pair_turn, pairs_end}
use Rattle.replay.proofs.text.store.Goals as goal

pub returns-in_err-x : goal.returns-in_err-x
returns-in_err-x c =
    rw c.from_residual.ensures
    (no_pair _ c.loop-i.out _ (omega arith) c.loop-i.invariant (omega arith) c.in_err-x.ensures)

pub loop-i-preserved : goal.loop-i-preserved
loop-i-preserved c = pair_turn _ _ _ (omega arith) c.loop-i.invariant (omega arith) _ c.in_ok-x.ensures

pub returns : goal.returns
returns c = pairs_end _ _ _ (omega arith) c.loop-i.invariant (omega arith)
