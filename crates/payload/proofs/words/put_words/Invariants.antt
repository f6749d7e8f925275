-- `put_words` meets its contract: the first i words are put. Assumes nothing.
use Rattle.std.proofs.Common.{◌≡◌, take}
use lib.Seq.{sets}
use Rattle.payload.specs.Words.{word_bytes}
use Rattle.payload.proofs.words.put_words.Given as goal

abbrev pub invariant-loop-i : goal.invariant-loop-i
invariant-loop-i l = l.out ≡ sets l.initial.out 0 (word_bytes (take l.i l.words))
