-- `measure_mesh` meets its contract: the counts give the four lengths. Assumes nothing.
use Rattle.std.proofs.Common.{refl, ◌∙◌, arith}
use Rattle.bits.proofs.SaysLaws.{passed}
use Rattle.payload.proofs.TableLaws.{lengths_long, lengths_refused, count_there, lengths_found}
use Rattle.payload.proofs.mesh.measure.measure_mesh.Goals as goal

pub returns-then-body-gt67108864 : goal.returns-then-body-gt67108864
returns-then-body-gt67108864 c = lengths_long c.args.body.now c.if-body-gt67108864.true

pub returns-in_err-size : goal.returns-in_err-size
returns-in_err-size c =
    passed _ _ _ c.from_residual.ensures.1
    ∙ lengths_refused c.args.body.now _ c.if-body-gt67108864.false c.in_err-size.ensures

pub word-requires : goal.word-requires
word-requires c = omega (arith, count_there c.args.body.now _ _ _ c.in_ok-size.ensures)

pub returns : goal.returns
returns c =
    lengths_found c.args.body.now _ _ _ _ c.if-body-gt67108864.false c.in_ok-size.ensures c.word.ensures refl refl refl
