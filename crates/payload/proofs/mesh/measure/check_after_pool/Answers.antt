-- `check_after_pool` meets its contract: each return is a way on from the pool. Assumes nothing.
use Rattle.std.proofs.Common.{◌≡◌, ◌+◌, ◌*◌, sym, ap, ◌∙◌, arith}
use Rattle.bits.specs.Verdict.{mapped}
use Rattle.payload.specs.Internal.{body_size}
use Rattle.payload.proofs.BodyLaws.{pool_short, pool_low, pool_high, pool_on}
use Rattle.payload.proofs.mesh.measure.check_after_pool.Goals as goal

pub returns-then-s-n : goal.returns-then-s-n
returns-then-s-n c =
    let a = c.args in
    let p = c.requires.3 in
    sym (ap (mapped body_size) (pool_short a.s.now a.n p (omega arith)))

pub returns-then-m-lt1 : goal.returns-then-m-lt1
returns-then-m-lt1 c =
    let a = c.args in
    let z : 8 * (4 * a.n + 4) ≡ 32 * a.n + 32 = omega arith in
    let m = rw z at c.word-m.ensures in
    sym (ap (mapped body_size) (pool_low a.s.now a.n c.requires.3 (omega arith) (omega arith)))

pub returns-then-m-gt32000 : goal.returns-then-m-gt32000
returns-then-m-gt32000 c =
    let a = c.args in
    let z : 8 * (4 * a.n + 4) ≡ 32 * a.n + 32 = omega arith in
    let m = rw z at c.word-m.ensures in
    sym (ap (mapped body_size) (pool_high a.s.now a.n c.requires.3 (omega arith) (omega arith)))

pub returns : goal.returns
returns c =
    let a = c.args in
    let z : 8 * (4 * a.n + 4) ≡ 32 * a.n + 32 = omega arith in
    let m = rw z at c.word-m.ensures in
    c.check_from_vertices.ensures
    ∙ sym (ap (mapped body_size) (pool_on a.s.now a.n c.requires.3 (omega arith) _ (sym m) (omega arith) (omega arith)))
