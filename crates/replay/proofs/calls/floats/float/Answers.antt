-- What is made into a float is no pattern of a NaN.
use Rattle.replay.proofs.ArgumentLaws.{no_nan}
use Rattle.replay.proofs.calls.floats.float.Goals as goal

pub float_from_bits-result : goal.float_from_bits-result
float_from_bits-result c = no_nan _ c.if-bits-gt2139095040.false
