-- `ByteCursor::seek` meets its contract. Assumes nothing.
use Rattle.std.proofs.Common.{length, sym, arith}
use Rattle.bits.specs.Verdict.{declined}
use Rattle.bits.proofs.VerdictLaws.{within_yes, within_no}
use Rattle.bits.proofs.bytes.ByteCursor.seek.Goals as goal

pub returns-then-s-to : goal.returns-then-s-to
returns-then-s-to c = let a = c.args in sym (within_no a.to (length a.s.now) a.to (declined 3) (omega arith))

pub returns : goal.returns
returns c = let a = c.args in sym (within_yes a.to (length a.s.now) a.to (declined 3) (omega arith))
