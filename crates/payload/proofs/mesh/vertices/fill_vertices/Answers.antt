-- `fill_vertices` meets its contract: the part of the buffer takes the numbers of the run. Assumes nothing.
use Rattle.std.proofs.Common.{◌+◌, ◌-◌, ◌*◌, arith}
use Rattle.payload.proofs.PartLaws.{fives_stored}
use Rattle.payload.proofs.mesh.vertices.fill_vertices.Goals as goal

pub returns : goal.returns
returns c =
    let a = c.args in record {
      numbers =
          fives_stored a.s.now a.run c.bit_width-width.result a.at a.out.now c.fill_fives.new.out
          c.requires.vertices_there c.bit_width-width.ensures c.requires.count_in_bounds
          (a.at + 5 * a.run.count - a.at) (omega arith) c.fill_fives.ensures.numbers;
    }
