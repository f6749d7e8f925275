-- `find_in` meets its contract. The invariant: what is sought has the number `skip` among the submeshes that follow.
-- Assumes nothing.
use Rattle.std.proofs.Common.{◌≡◌}
use Rattle.payload.specs.Places.{standing_from}
use Rattle.payload.specs.Internal.{meshes_from}
use Rattle.payload.proofs.StandingLaws.{standing_in}
use Rattle.payload.proofs.mesh.find.find_in.Given as goal

abbrev pub invariant-loop-mesh : goal.invariant-loop-mesh
invariant-loop-mesh l =
    standing_from l.s 0 (meshes_from l.s 0) l.number ≡ standing_in l.mesh-iterator l.skip
