-- `index_count` meets its contract. Assumes nothing.
use Rattle.std.proofs.Common.{◌∙◌, arith}
use Rattle.payload.proofs.CountLaws.{index_none, index_some}
use Rattle.payload.proofs.counts.index_count.Goals as goal

pub returns-then-rings-lt2 : goal.returns-then-rings-lt2
returns-then-rings-lt2 c = let x = c.args in index_none x.rings x.sectors (omega arith)

pub returns : goal.returns
returns c =
    let x = c.args in
    c.product.ensures ∙ index_some x.rings x.sectors (omega arith)
