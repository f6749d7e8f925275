-- `measure_list` meets its contract. The invariant: the answer from here on, with what is counted, is the whole answer, and what is counted fits the bytes before. Assumes nothing.
use Rattle.std.proofs.Common.{◌≡◌, ◌-◌, length}
use Rattle.bits.specs.Verdict.{mapped}
use Rattle.payload.specs.MeshRead.{read_from, read_meshes}
use Rattle.payload.specs.Internal.{no_totals, totals_of, Room}
use Rattle.payload.proofs.MeasureLaws.{more_after}
use Rattle.payload.proofs.mesh.measure.measure_list.Given as goal

abbrev pub invariant-loop-fourcc : goal.invariant-loop-fourcc
invariant-loop-fourcc l =
    (mapped (totals_of no_totals) (read_meshes l.s) ≡ mapped (totals_of l.t) (read_from l.s (more_after l.t) l.at)) × Room l.t l.at

abbrev pub decreases-loop-fourcc : goal.decreases-loop-fourcc
decreases-loop-fourcc l = length l.s - l.at
