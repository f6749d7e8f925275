-- `put_words` meets its contract: the words that are left. Assumes nothing.
use Rattle.std.proofs.Common.{arith}
use Rattle.payload.proofs.PutRunLaws.{words_end, words_first}
use Rattle.payload.proofs.WriterLaws.{first_ready, on_first, on_start}
use Rattle.payload.proofs.mesh.write.BitWriter.put_words.Goals as goal

pub loop-word-init : goal.loop-word-init
loop-word-init c = on_start c.requires

pub put-to-requires : goal.put-to-requires
put-to-requires c =
    let l = c.loop-word in
    record {
      ready = first_ready _ _ (rw (words_first c.args.words.now l.word-index c.loop-word-test.true) at l.invariant.0);
      width_bound = omega arith;
    }

pub loop-word-preserved : goal.loop-word-preserved
loop-word-preserved c =
    let l = c.loop-word in
    on_first _ _ (rw (words_first c.args.words.now l.word-index c.loop-word-test.true) at l.invariant) c.put-to.ensures

pub returns : goal.returns
returns c =
    let l = c.loop-word in
    rw (words_end c.args.words.now l.word-index c.loop-word-test.false) at l.invariant.1
