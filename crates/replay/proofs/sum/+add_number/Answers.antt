-- The upper bytes, then the lowest one.
use Rattle.replay.proofs.SumLaws.{no_bytes, byte_more}
use Rattle.replay.proofs.sum.+add_number.Goals as goal

pub returns-then-bytes-eq0 : goal.returns-then-bytes-eq0
returns-then-bytes-eq0 t c = rw c.if-bytes-eq0.true (no_bytes c.args.h c.args.x)

pub returns : goal.returns
returns t c = byte_more c.args.h c.args.x c.args.bytes _ _ c.if-bytes-eq0.false c.add_number.ensures c.add_byte.ensures
