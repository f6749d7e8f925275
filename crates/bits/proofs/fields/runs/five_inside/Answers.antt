-- `five_inside` meets its contract: two fields, two and one. Assumes nothing.
use Rattle.std.proofs.Common.{◌≡◌, ◌+◌, ◌*◌, arith}
use Rattle.bits.proofs.fields.runs.five_inside.Goals as goal

pub returns : goal.returns
returns c =
    let g = c.two_inside-g.ensures in
    let f = c.two_inside-f.ensures in
    let a = c.args in
    let w = a.width in
    let e₁ : a.bit + 2 * w ≡ a.bit + w + w = omega arith in
    let e₂ : a.bit + 2 * (2 * w) ≡ a.bit + w + w + w + w = omega arith in
    record { first = f.0; second = f.1; third = rw e₁ at g.0; fourth = rw e₁ at g.1; fifth = rw e₂ at c.one_inside.ensures }
