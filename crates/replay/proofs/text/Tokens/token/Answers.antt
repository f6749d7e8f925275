-- Where the token ends.
use Rattle.std.proofs.Common.{arith}
use Rattle.replay.proofs.TextLaws.{no_rest, no_word, word_is}
use Rattle.replay.proofs.text.Tokens.token.Goals as goal

pub returns-in_err-rest-clause-value : goal.returns-in_err-rest-clause-value
returns-in_err-rest-clause-value c =
    rw c.from_residual.ensures (no_rest _ _ (omega (arith, c.in_err-rest.ensures.lookup)))

pub returns-in_err-end-clause-value : goal.returns-in_err-end-clause-value
returns-in_err-end-clause-value c =
    rw c.from_residual-in_err-end.ensures
    (no_word _ _ c.in_ok-rest.rest.now c.in_ok-rest.ensures.lookup.0.2 c.in_err-end.ensures)

pub returns-clause-value : goal.returns-clause-value
returns-clause-value c =
    word_is _ _ c.in_ok-rest.rest.now c.in_ok-rest.ensures.lookup.0.2 _ c.in_ok-end.ensures
