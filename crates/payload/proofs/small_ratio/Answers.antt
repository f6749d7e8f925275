-- `small_ratio` meets its contract: both casts are exact. Assumes nothing.
use Rattle.std.proofs.Common.{arith}
use Rattle.payload.proofs.CubeLaws.{in_float_lem}
use Rattle.payload.proofs.small_ratio.Goals as goal

pub int_to_float-result : goal.int_to_float-result
int_to_float-result c = in_float_lem _ (omega arith)

pub int_to_float-result-2 : goal.int_to_float-result-2
int_to_float-result-2 c = in_float_lem _ (omega arith)
