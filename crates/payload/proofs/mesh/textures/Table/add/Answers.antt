-- `add` meets its contract: by whether the texture has points yet. Assumes nothing.
use Rattle.std.proofs.Common.{arith}
use Rattle.payload.proofs.TallyLaws.{sum_fits, new_room, added_old, added_new}
use Rattle.payload.proofs.mesh.textures.Table.add.Goals as goal

pub overflow_add-self : goal.overflow_add-self
overflow_add-self c = let p = c.requires in let A = p.2 in omega (arith, sum_fits _ _ p.0 p.1 A.tally A.fits)

pub returns-else-sum-eq0 : goal.returns-else-sum-eq0
returns-else-sum-eq0 c = let p = c.requires in λ before T h. added_old _ _ p.0 p.1 T c.if-sum-eq0.false

pub bounds-self-self : goal.bounds-self-self
bounds-self-self c = let p = c.requires in new_room _ _ p.0 p.1 p.2.tally c.if-sum-eq0.true

pub returns-then-sum-eq0 : goal.returns-then-sum-eq0
returns-then-sum-eq0 c = let p = c.requires in λ before T h. added_new _ _ p.0 p.1 T c.if-sum-eq0.true
