-- `pool_word` meets its contract: a word that is cut off, one that is not finite, and a good one. Assumes nothing.
use Rattle.std.proofs.Common.{ℕ, ◌+◌, ◌*◌, sym, ap, ◌∙◌, arith}
use Rattle.bits.specs.Verdict.{accepted}
use Rattle.payload.specs.Float.{finite_word}
use Rattle.payload.proofs.PoolLaws.{word_cut, word_other, word_good}
use Rattle.payload.proofs.mesh.fields.pool_word.Goals as goal

pub returns-then-s-i : goal.returns-then-s-i
returns-then-s-i c = let a = c.args in sym (word_cut a.s.now (8 * a.i) (omega arith))

pub returns-then-word_is_finite : goal.returns-then-word_is_finite
returns-then-word_is_finite c =
    let a = c.args in
    let w = c.word-fetched in
    ap (λ (v : ℕ). accepted (v, 8 * a.i + 32)) w.ensures
    ∙ sym (word_good a.s.now (8 * a.i) (omega arith)
    (ap finite_word (sym w.ensures) ∙ sym c.word_is_finite.ensures ∙ c.if-word_is_finite.true))

pub returns : goal.returns
returns c =
    let a = c.args in
    sym (word_other a.s.now (8 * a.i) (omega arith)
    (ap finite_word (sym c.word-fetched.ensures) ∙ sym c.word_is_finite.ensures ∙ c.if-word_is_finite.false))
