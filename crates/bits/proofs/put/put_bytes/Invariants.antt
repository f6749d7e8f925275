-- `put_bytes` meets its contract: i bytes are put, the rest stands as it was. Assumes nothing.
use Rattle.std.proofs.Common.{◌≡◌}
use lib.Seq.{paste}
use Rattle.bits.specs.Put.{bytes_of}
use Rattle.bits.proofs.put.put_bytes.Given as goal

abbrev pub invariant-loop-i : goal.invariant-loop-i
invariant-loop-i l = l.out ≡ paste l.initial.out l.at (bytes_of l.n l.x) l.i
