-- `check_submeshes` meets its contract. The invariant: the answer from here on, with the points counted so far, is the
-- whole answer. Assumes nothing.
use Rattle.std.proofs.Common.{◌≡◌, ◌-◌, ◌*◌, ◌≤◌, length}
use Rattle.bits.specs.Verdict.{mapped}
use Rattle.payload.specs.MeshRead.{many, read_submesh}
use Rattle.payload.specs.Internal.{submeshes_size}
use Rattle.payload.proofs.CheckLaws.{counted}
use Rattle.payload.proofs.mesh.measure.check_submeshes.Given as goal

abbrev pub invariant-loop : goal.invariant-loop
invariant-loop l = record {
  same : mapped submeshes_size (many (read_submesh l.s l.w l.m) l.count l.p)
      ≡ mapped (counted l.count l.points) (many (read_submesh l.s l.w l.m) (l.count - l.counter) l.bit);
  low : 64 ≤ l.bit;
  inside : l.bit ≤ 8 * length l.s;
  few : l.points ≤ l.bit;
}
