-- `Grid::new` meets its contract. Assumes nothing.
use Rattle.std.proofs.Common.{refl, arith}
use Rattle.payload.proofs.SphereLaws.{usable_yes, usable_no}
use Rattle.payload.proofs.grid.Grid.new.Goals as goal

pub returns-then-rings-lt2 : goal.returns-then-rings-lt2
returns-then-rings-lt2 c = (refl, usable_no c.args.rings c.args.sectors (λ p q r. omega arith))

pub invariant_of-result : goal.invariant_of-result
invariant_of-result c =
    record { usable = usable_yes c.args.rings c.args.sectors (omega arith) (omega arith) (omega arith) }
