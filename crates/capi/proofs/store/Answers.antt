-- `store` meets its contract. Assumes nothing.
use Rattle.capi.proofs.Stores.{stored_front, stored_not}
use Rattle.capi.proofs.store.Goals as goal

pub returns-then-given-words : goal.returns-then-given-words
returns-then-given-words c = stored_front _ _ _ c.if-given-words.true c.copy_from_slice.ensures.after

pub returns-else-given-words : goal.returns-else-given-words
returns-else-given-words c = stored_not _ _ c.if-given-words.false
