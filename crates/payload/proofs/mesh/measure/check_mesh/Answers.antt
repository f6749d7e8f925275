-- `check_mesh` meets its contract: each return is a way through `read_mesh`. Assumes nothing.
use Rattle.std.proofs.Common.{sym, ap, ◌∙◌, arith}
use Rattle.bits.specs.Verdict.{mapped}
use Rattle.bits.proofs.SaysLaws.{passed}
use Rattle.bits.proofs.VerdictLaws.{mapped_declined}
use Rattle.payload.specs.MeshRead.{many, read_word}
use Rattle.payload.specs.Internal.{body_size, nothing}
use Rattle.payload.proofs.PoolLaws.{pool_good}
use Rattle.payload.proofs.BodyLaws.{mesh_short, mesh_low, mesh_high, mesh_on, pool_declined}
use Rattle.payload.proofs.mesh.measure.check_mesh.Goals as goal

pub returns-then-s-lt4 : goal.returns-then-s-lt4
returns-then-s-lt4 c = sym (ap (mapped body_size) (mesh_short c.args.s.now (omega arith)))

pub returns-then-n-lt1 : goal.returns-then-n-lt1
returns-then-n-lt1 c = sym (ap (mapped body_size) (mesh_low c.args.s.now (omega arith) (omega arith)))

pub returns-then-n-gt10000 : goal.returns-then-n-gt10000
returns-then-n-gt10000 c = sym (ap (mapped body_size) (mesh_high c.args.s.now (omega arith) (omega arith)))

pub returns-in_err-check_pool : goal.returns-in_err-check_pool
returns-in_err-check_pool c =
    let s = c.args.s.now in
    let n = c.word-n in
    let on = mesh_on s n.result (omega arith) (sym n.ensures) (omega arith) (omega arith) in
    let d = mapped_declined nothing (many (read_word s) n.result 32) _ c.in_err-check_pool.ensures in
    passed _ _ _ c.from_residual.ensures.1 ∙ sym (ap (mapped body_size) (on ∙ pool_declined s n.result _ d))

pub check_after_pool-requires : goal.check_after_pool-requires
check_after_pool-requires c =
    let n = c.word-n.result in
    (omega arith, omega arith, omega arith, pool_good c.args.s.now n (omega arith) c.in_ok-check_pool.ensures)

pub returns : goal.returns
returns c =
    let s = c.args.s.now in
    let n = c.word-n in
    let on = mesh_on s n.result (omega arith) (sym n.ensures) (omega arith) (omega arith) in
    c.check_after_pool.ensures ∙ sym (ap (mapped body_size) on)
