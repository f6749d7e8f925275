-- `fill_pairs` meets its contract: storing the numbers that are left gives what storing all at first gives. Assumes nothing.
use Rattle.std.proofs.Common.{◌-◌, ◌*◌, [], ◌∷◌}
use Rattle.bits.specs.Run.{summed}
use Rattle.bits.specs.Internal.{Inside}
use Rattle.bits.proofs.SummedLaws.{Storing}
use Rattle.bits.proofs.fields.runs.fill_pairs.Given as goal

abbrev pub invariant-loop-i : goal.invariant-loop-i
invariant-loop-i l = record {
  storing :
      Storing l.s l.width l.initial.out (summed l.s l.width l.n l.start (l.from ∷ [])) l.out l.n (2 * l.i) l.bit (l.last ∷ []);
  inside : Inside l.s l.bit ((l.n - 2 * l.i) * l.width);
}
