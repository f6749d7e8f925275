-- `put_words` meets its contract: the words that are left. Assumes nothing.
use Rattle.std.proofs.Common.{drop}
use Rattle.payload.specs.MeshWrite.{word_fields}
use Rattle.payload.proofs.WriterLaws.{Underway}
use Rattle.payload.proofs.mesh.write.BitWriter.put_words.Given as goal

abbrev pub invariant-loop-word : goal.invariant-loop-word
invariant-loop-word l =
    Underway l.initial.out l.initial.to (word_fields l.words) l.out l.to (word_fields (drop l.word-index l.words))
