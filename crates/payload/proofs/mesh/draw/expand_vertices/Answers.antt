-- `expand_vertices` meets its contract. The invariant: storing the words that are left gives the same as storing all at first. Assumes nothing.
use Rattle.std.proofs.Common.{◌+◌, ◌-◌, sym, ap, ◌∙◌, arith, length-set}
use lib.Seq.{sets}
use Rattle.payload.specs.Internal.{word_at}
use Rattle.payload.proofs.ExpandedLaws.{words_next, words_none}
use Rattle.payload.proofs.mesh.draw.expand_vertices.Goals as goal

pub loop-i-preserved : goal.loop-i-preserved
loop-i-preserved c =
    let a = c.args in
    let l = c.loop-i in
    record {
      same = l.invariant.same ∙ words_next (word_at a.s.now a.numbers.now) l.words a.base a.count a.at l.i (omega arith) c.word_at.ensures;
      long = simp length-set l.invariant.long;
    }

pub returns : goal.returns
returns c =
    let a = c.args in
    let l = c.loop-i in
    sym (l.invariant.same ∙ ap (sets l.words (a.at + l.i)) (words_none (word_at a.s.now a.numbers.now) (a.base + l.i) (a.count - l.i) (omega arith)))
