-- `run_there` meets its contract: the tests one after the other. Assumes nothing.
use Rattle.std.proofs.Common.{◌≤◌, mul-le-mul_left, arith}
use Rattle.bits.proofs.ThereLaws.{there_long, there_narrow, there_wide, there_low, there_short, there_left}
use Rattle.bits.proofs.fields.runs.run_there.Goals as goal

pub returns-then-s-gt67108864 : goal.returns-then-s-gt67108864
returns-then-s-gt67108864 c = let a = c.args in there_long a.s.now a.bit a.width a.count c.if-s-gt67108864.true

pub returns-then-width-lt1 : goal.returns-then-width-lt1
returns-then-width-lt1 c = let a = c.args in there_narrow a.s.now a.bit a.width a.count (omega arith) (omega arith)

pub returns-then-width-gt16 : goal.returns-then-width-gt16
returns-then-width-gt16 c = let a = c.args in there_wide a.s.now a.bit a.width a.count (omega arith) (omega arith) (omega arith)

pub returns-then-bit-lt33 : goal.returns-then-bit-lt33
returns-then-bit-lt33 c = let a = c.args in there_low a.s.now a.bit a.width a.count (omega arith) (omega arith) (omega arith) (omega arith)

pub returns-then-n-bit : goal.returns-then-n-bit
returns-then-n-bit c = let a = c.args in there_short a.s.now a.bit a.width a.count (omega arith) (omega arith) (omega arith) (omega arith) (omega arith)

pub returns-then-n-bit-2 : goal.returns-then-n-bit-2
returns-then-n-bit-2 c = let a = c.args in there_short a.s.now a.bit a.width a.count (omega arith) (omega arith) (omega arith) (omega arith) (omega arith)

pub overflow_mul-result : goal.overflow_mul-result
overflow_mul-result c =
    let a = c.args in
    let h : a.width ≤ 16 = omega arith in
    omega (arith, mul-le-mul_left a.count h)

pub returns : goal.returns
returns c = let a = c.args in there_left a.s.now a.bit a.width a.count (omega arith) (omega arith) (omega arith) (omega arith) (omega arith) _ (omega arith)
