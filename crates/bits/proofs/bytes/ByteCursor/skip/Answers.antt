-- `ByteCursor::skip` meets its contract: a sum that would wrap is past every end. Assumes nothing.
use Rattle.std.proofs.Common.{◌+◌, length, sym, arith}
use Rattle.bits.specs.Verdict.{declined}
use Rattle.bits.proofs.VerdictLaws.{within_no}
use Rattle.bits.proofs.bytes.ByteCursor.skip.Goals as goal

pub returns-then-at-n : goal.returns-then-at-n
returns-then-at-n c =
    let a = c.args in
    sym (within_no (a.self.at + a.n) (length a.s.now) (a.self.at + a.n) (declined 3) (omega arith))
