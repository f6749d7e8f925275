-- A sum below 2^32 is taken before the product, which changes nothing modulo 2^32.
use Rattle.replay.proofs.SumLaws.{step_is}
use Rattle.replay.proofs.sum.add_byte.Goals as goal

pub returns : goal.returns
returns c = step_is c.args.h c.args.b
