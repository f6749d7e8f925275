-- `with_words` meets its contract. Assumes nothing.
use Rattle.std.proofs.Common.{to_z-of_z, w64}
use Rattle.capi.proofs.Stores.{stored_held}
use Rattle.capi.proofs.with_words.Goals as goal

pub returns : goal.returns
returns c =
    let h = stored_held _ _ _ c.requires c.store.ensures in
    record { code = to_z-of_z {w = w64} c.ranges.code; words = h.0; there = h.1 }
