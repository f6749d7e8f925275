-- `word` meets its contract. Assumes nothing.
use Rattle.std.proofs.Common.{sym, ◌∙◌}
use Rattle.bits.proofs.FieldLaws.{field-word}
use Rattle.payload.proofs.mesh.fields.word.Goals as goal

pub returns : goal.returns
returns c = let a = c.args in c.word_of.ensures ∙ sym (field-word a.s.now a.i (λ k. (c.type_inv.s k).fits))
