-- `rows_fit` meets its contract: what is left of the rows against what is left of the points. Assumes nothing.
use Rattle.std.proofs.Common.{◌≡◌, ◌%◌, length}
use Rattle.payload.specs.InternalWriting.{rows_all_fit}
use Rattle.payload.proofs.mesh.judge.rows_fit.Given as goal

abbrev pub invariant-loop-row : goal.invariant-loop-row
invariant-loop-row l =
    record {
      threes : l.row-iterator.size ≡ 3;
      whole : length l.row-iterator.rest.now % 3 ≡ 0;
      same : rows_all_fit l.rows l.points ≡ rows_all_fit l.row-iterator.rest.now l.left;
    }
