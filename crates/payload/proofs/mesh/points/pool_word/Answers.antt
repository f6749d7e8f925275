-- `mesh::points::pool_word` meets its contract: the pool starts after four bytes. Assumes nothing.
use Rattle.std.proofs.Common.{◌≡◌, ℕ, ◌+◌, ◌*◌, ap, ◌∙◌, arith}
use Rattle.bits.specs.Field.{field}
use Rattle.payload.proofs.mesh.points.pool_word.Goals as goal

pub returns : goal.returns
returns c =
    let a = c.args in
    let e : 8 * (4 + 4 * a.c.0) ≡ 32 + 32 * a.c.0 = omega arith in
    c.word.ensures ∙ ap (λ (n : ℕ). field a.s.now n 32) e
