-- `product` meets its contract. Assumes nothing.
use Rattle.std.proofs.Common.{◌*◌, Some, None}
use Rattle.payload.proofs.CountLaws.{product_said}
use Rattle.payload.proofs.counts.product.Goals as goal

pub returns-in-Some : goal.returns-in-Some
returns-in-Some c = product_said (c.args.a * c.args.b) (Some c.in-Some.n) c.in-Some.ensures

pub returns-in-None : goal.returns-in-None
returns-in-None c = product_said (c.args.a * c.args.b) None c.in-None.ensures
