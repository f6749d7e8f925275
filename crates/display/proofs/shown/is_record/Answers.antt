-- `is_record` meets its contract. Assumes nothing.
use Prim.Native.Nat.{ℕ}
use mathlib.Core.Path.{ap}
use native.Mathlib.Omega.{arith}
use lib.Dec.{ltb}
use Rattle.display.proofs.NumberedRecordLaws.{records-count}
use Rattle.display.proofs.shown.is_record.Goals as goal

pub returns : goal.returns
returns c =
    let a = c.args in
    ap (λ (k : ℕ). ltb a.number k) (omega (arith, records-count a.records.now))
