-- `fill_words` meets its contract. Assumes nothing.
use Rattle.std.proofs.Common.{refl, arith}
use Rattle.payload.specs.Words.{word_bytes}
use Rattle.payload.proofs.LentLaws.{told_needs, told_filled}
use Rattle.payload.proofs.WordLaws.{length-word_bytes}
use Rattle.payload.proofs.words.fill_words.Goals as goal

pub returns-then-out-n : goal.returns-then-out-n
returns-then-out-n c =
    let a = c.args in let r = told_needs 1 _ a.out.now (word_bytes a.words.now) _ refl
    (omega (arith, length-word_bytes a.words.now)) (omega arith) in record { answer = r.0; buffers = r.1 }

pub returns : goal.returns
returns c =
    let a = c.args in let r = told_filled 1 _ a.out.now (word_bytes a.words.now) _ _ refl
    (omega (arith, length-word_bytes a.words.now)) (omega (arith, length-word_bytes a.words.now))
    c.put_words.ensures in record { answer = r.0; buffers = r.1 }
