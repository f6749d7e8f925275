-- `zoom_for_fov` meets its contract. Assumes nothing.
use Rattle.std.proofs.Common.{sym, ◌∙◌}
use Rattle.payload.proofs.ViewLaws.{zoom_default, zoom_ratio}
use Rattle.payload.proofs.view.zoom_for_fov.Goals as goal

pub returns-then-is_unusable : goal.returns-then-is_unusable
returns-then-is_unusable c = zoom_default _ (sym c.is_unusable.ensures ∙ c.if-is_unusable.true)

pub returns : goal.returns
returns c = zoom_ratio _ (sym c.is_unusable.ensures ∙ c.if-is_unusable.false)
