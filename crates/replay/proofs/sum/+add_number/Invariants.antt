-- Each call has one byte less.
use Rattle.replay.proofs.sum.+add_number.Given as goal

abbrev pub decreases-add_number : goal.decreases-add_number
decreases-add_number l = l.bytes
