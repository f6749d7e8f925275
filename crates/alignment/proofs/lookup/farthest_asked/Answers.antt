-- `farthest_asked` meets its contract: the farthest so far, and what is left. Assumes nothing.
use native.Mathlib.Omega.{arith}
use Rattle.alignment.proofs.AskedLaws.{far_first, far_end}
use Rattle.alignment.proofs.lookup.farthest_asked.Goals as goal

pub loop-k-preserved : goal.loop-k-preserved
loop-k-preserved c = omega (arith, far_first c.args.asked.now c.loop-k.k-index (omega arith))

pub returns : goal.returns
returns c = omega (arith, far_end c.args.asked.now c.loop-k.k-index (omega arith))
