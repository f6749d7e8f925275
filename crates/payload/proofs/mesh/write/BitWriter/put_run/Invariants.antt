-- `put_run` meets its contract: the numbers that are left, each with the one before it. Assumes nothing.
use Rattle.std.proofs.Common.{◌++◌, drop}
use Rattle.payload.specs.MeshWrite.{run_fields}
use Rattle.bits.specs.Run.{zeros}
use Rattle.payload.proofs.PutRunLaws.{coded}
use Rattle.payload.proofs.WriterLaws.{Underway}
use Rattle.payload.proofs.mesh.write.BitWriter.put_run.Given as goal

abbrev pub invariant-loop-i : goal.invariant-loop-i
invariant-loop-i l =
    Underway l.initial.out l.initial.to (run_fields l.width (zeros l.stride) l.ns) l.out l.to
    (coded l.width (drop l.i (zeros l.stride ++ l.ns)) (drop l.i l.ns))
