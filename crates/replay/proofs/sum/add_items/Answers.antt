-- The sum is a fold over the items.
use Rattle.std.proofs.Common.{◌≡◌, ◌∙◌, rules}
use Rattle.std.proofs.iter.runs.Made.{chains}
use Rattle.std.specs.List.{fold}
use Rattle.bits.specs.Put.{bytes_of}
use Rattle.replay.specs.Sum.{fnv}
use Rattle.replay.proofs.SumLaws.{fold_is}
use Rattle.replay.proofs.sum.add_items.Goals as goal

pub returns : goal.returns
returns g c =
    let bytes = λ (x : g.row.T.Denot). bytes_of g.T.Item.BYTES (g.T.Item.value x) in
    let sum : c.fold.result ≡ fold (λ n x. fnv n (bytes x)) c.args.h c.args.items.now = search (rules, chains) in
    sum ∙ fold_is bytes c.args.h c.args.items.now
