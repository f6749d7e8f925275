-- `face_share` meets its contract. Assumes nothing.
use mathlib.Core.Path.{sym, ◌∙◌}
use Rattle.scene.proofs.face_share.Goals as goal

pub returns-then-face_width : goal.returns-then-face_width
returns-then-face_width c = c.padding_share.ensures ∙ sym (rw c.if-face_width.true)

pub returns : goal.returns
returns c = sym (rw c.if-face_width.false)
