-- `fov_for_zoom` meets its contract. Assumes nothing.
use Rattle.std.proofs.Common.{sym, ◌∙◌}
use Rattle.payload.proofs.ViewLaws.{fov_default, fov_clamped}
use Rattle.payload.proofs.view.fov_for_zoom.Goals as goal

pub returns-then-is_unusable : goal.returns-then-is_unusable
returns-then-is_unusable c = fov_default _ (sym c.is_unusable.ensures ∙ c.if-is_unusable.true)

pub returns : goal.returns
returns c = c.clamp.ensures.value ∙ fov_clamped _ (sym c.is_unusable.ensures ∙ c.if-is_unusable.false)
