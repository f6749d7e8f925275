-- `extent_of` meets its contract. Assumes nothing.
use Rattle.std.proofs.Common.{sym, arith}
use Rattle.bits.proofs.HeaderLaws.{extent_small, extent_past, extent_whole}
use Rattle.bits.proofs.headers.extent_of.Goals as goal

pub returns-then-size-header : goal.returns-then-size-header
returns-then-size-header c = let a = c.args in sym (extent_small a.n a.at a.header a.size (omega arith))

pub returns-then-n-at : goal.returns-then-n-at
returns-then-n-at c =
    let a = c.args in
    sym (extent_past a.n a.at a.header a.size (omega arith))

pub returns : goal.returns
returns c =
    let a = c.args in
    sym (extent_whole a.n a.at a.header a.size (omega arith) (omega arith))
