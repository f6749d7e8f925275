-- `fill_pool` meets its contract: what is left of the words goes to what is left of the buffer. Assumes nothing.
use Rattle.std.proofs.Common.{ℕ, ◌+◌, ◌-◌, ◌*◌, List, sym, ap, ◌∙◌, arith, length-set}
use lib.Seq.{sets}
use Rattle.payload.proofs.TableLaws.{words_none, word-stored}
use Rattle.payload.proofs.mesh.tables.fill_pool.Goals as goal

pub loop-i-preserved : goal.loop-i-preserved
loop-i-preserved c =
    let a = c.args in
    let l = c.loop-i in
    record {
      same = l.invariant.same ∙ word-stored a.s.now l.out a.n l.i c.word.result (omega arith) c.word.ensures;
      long = simp length-set l.invariant.long;
    }

pub returns : goal.returns
returns c =
    let l = c.loop-i in
    let z = words_none c.args.s.now (32 + 32 * l.i) (c.args.n - l.i) (omega arith) in
    sym (ap (λ (k : List ℕ). sets l.out l.i k) z) ∙ sym l.invariant.same
