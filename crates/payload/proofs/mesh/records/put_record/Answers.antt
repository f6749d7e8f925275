-- `mesh::records::put_record` meets its contract: five stores, one after the other. Assumes nothing.
use Rattle.std.proofs.Common.{arith, length-set}
use Rattle.payload.proofs.FillLaws.{set-five}
use Rattle.payload.proofs.mesh.records.put_record.Goals as goal

pub bounds-out-at-2 : goal.bounds-out-at-2
bounds-out-at-2 c = simp length-set (omega arith)

pub bounds-out-at-3 : goal.bounds-out-at-3
bounds-out-at-3 c = simp length-set (omega arith)

pub bounds-out-at-4 : goal.bounds-out-at-4
bounds-out-at-4 c = simp length-set (omega arith)

pub bounds-out-at-5 : goal.bounds-out-at-5
bounds-out-at-5 c = simp length-set (omega arith)

pub returns : goal.returns
returns c = let a = c.args in set-five a.out.now a.at a.r.eye a.r.texture a.r.mode a.r.first a.r.points
