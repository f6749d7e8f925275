-- `copy_point` meets its contract: five stores, one after the other, of words that were read before. Assumes nothing.
use Rattle.std.proofs.Common.{arith, length-set}
use Rattle.payload.proofs.FillLaws.{set-five}
use Rattle.payload.proofs.mesh.points.copy_point.Goals as goal

pub bounds-words-at-2 : goal.bounds-words-at-2
bounds-words-at-2 c = simp length-set (omega arith)

pub returns : goal.returns
returns c = let a = c.args in set-five a.words.now a.at _ _ _ _ _
