-- `list` is safe: the buffers are never too short. Assumes nothing.
use Rattle.meshlist.proofs.RefusalProofs.{never_short}
use Rattle.meshlist.proofs.listing.list.Goals as goal

pub unreachable-requires : goal.unreachable-requires
unreachable-requires g c =
    never_short c.args.payload.now _ _ c.in-Err-Needs.field-0-is c.in-Err-Needs.ensures.answer
