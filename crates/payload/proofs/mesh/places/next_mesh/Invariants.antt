-- `next_mesh` meets its contract. The invariant: what is found from here is what is found from the start. Assumes nothing.
use Rattle.std.proofs.Common.{◌≡◌, ◌-◌, length}
use Rattle.payload.specs.Places.{next_body}
use Rattle.payload.proofs.mesh.places.next_mesh.Given as goal

abbrev pub invariant-loop-fourcc : goal.invariant-loop-fourcc
invariant-loop-fourcc l = next_body l.s l.from ≡ next_body l.s l.at

abbrev pub decreases-loop-fourcc : goal.decreases-loop-fourcc
decreases-loop-fourcc l = length l.s - l.at
