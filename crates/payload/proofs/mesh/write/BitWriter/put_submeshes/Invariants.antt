-- `put_submeshes` meets its contract: the rows and points that are left. Assumes nothing.
use Rattle.std.proofs.Common.{◌≡◌, true, length}
use Rattle.payload.specs.MeshWrite.{submeshes_fields, submeshes_of}
use Rattle.payload.specs.InternalWriting.{rows_all_fit}
use Rattle.payload.proofs.WriterLaws.{Underway}
use Rattle.payload.proofs.mesh.write.BitWriter.put_submeshes.Given as goal

abbrev pub invariant-loop-row : goal.invariant-loop-row
invariant-loop-row l =
    record {
      threes : l.row-iterator.size ≡ 3;
      fit : rows_all_fit l.row-iterator.rest.now (length l.left) ≡ true;
      way : Underway l.initial.out l.initial.to (submeshes_fields l.width (submeshes_of l.rows l.points)) l.out l.to
          (submeshes_fields l.width (submeshes_of l.row-iterator.rest.now l.left));
    }
