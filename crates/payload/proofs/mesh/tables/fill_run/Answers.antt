-- `fill_run` meets its contract: the part of the buffer takes the numbers of the run. Assumes nothing.
use Rattle.std.proofs.Common.{◌+◌, ◌-◌, arith}
use Rattle.payload.proofs.PartLaws.{run_stored}
use Rattle.payload.proofs.mesh.tables.fill_run.Goals as goal

pub returns : goal.returns
returns c =
    let a = c.args in record { points = run_stored a.s.now a.run c.bit_width-width.result a.at a.out.now c.fill_run.new.out c.requires.points_there c.bit_width-width.ensures c.requires.count_in_bounds (a.at + a.run.count - a.at) (omega arith) c.fill_run.ensures.numbers }
