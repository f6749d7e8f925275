-- `level_of` meets its contract: whole turns up to the height have been made. Each round that goes on meets a wish. Assumes nothing.
use Rattle.display.specs.InternalLevels.{unmet_at}
use Rattle.display.proofs.LevelLaws.{Reached}
use Rattle.display.proofs.shares.level_of.Given as goal

abbrev pub invariant-loop-points : goal.invariant-loop-points
invariant-loop-points l = Reached l.points l.wishes l.height l.left

abbrev pub decreases-loop-points : goal.decreases-loop-points
decreases-loop-points l = unmet_at l.height l.wishes
