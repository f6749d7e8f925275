-- `put_words` meets its contract: the first i words are put. Assumes nothing.
use Rattle.std.proofs.Common.{◌∙◌, arith}
use Rattle.payload.proofs.WordLaws.{put-none, put_next, put_ok}
use Rattle.payload.proofs.words.put_words.Goals as goal

pub loop-i-init : goal.loop-i-init
loop-i-init c = put-none c.args.out.now c.args.words.now

pub unwrap-requires : goal.unwrap-requires
unwrap-requires c = put_ok _ _ _ c.put_word.ensures.result_value (omega (arith, c.loop-i.auto.out))

pub loop-i-preserved : goal.loop-i-preserved
loop-i-preserved c =
    let a = c.args in
    let l = c.loop-i in
    c.put_word.ensures.out_after ∙ put_next a.out.now l.out a.words.now l.i (omega arith) c.requires l.invariant
