-- `check_pool` meets its contract: each turn is a word more. Assumes nothing.
use Rattle.std.proofs.Common.{◌≡◌, ◌+◌, ◌-◌, ◌*◌, sym, ap₂, ◌∙◌, arith}
use Rattle.bits.proofs.SaysLaws.{passed}
use Rattle.payload.proofs.PoolLaws.{pool_from, pool_none, pool_stop, pool_next}
use Rattle.payload.proofs.mesh.measure.check_pool.Goals as goal

pub returns-in_err-pool_word : goal.returns-in_err-pool_word
returns-in_err-pool_word c =
    let s = c.args.s.now in
    let l = c.loop-i in
    let z : 8 * (4 * l.i + 4) ≡ 32 * l.i + 32 = omega arith in
    passed _ _ _ c.from_residual.ensures.1
    ∙ pool_stop s (c.args.n - l.i) (32 * l.i + 32) _ (omega arith) (sym (rw z at c.in_err-pool_word.ensures))
    ∙ sym l.invariant

pub loop-i-preserved : goal.loop-i-preserved
loop-i-preserved c =
    let s = c.args.s.now in
    let l = c.loop-i in
    let z : 8 * (4 * l.i + 4) ≡ 32 * l.i + 32 = omega arith in
    let y : 32 * l.i + 32 + 32 ≡ 32 * (l.i + 1) + 32 = omega arith in
    let x : c.args.n - l.i - 1 ≡ c.args.n - (l.i + 1) = omega arith in
    l.invariant
    ∙ pool_next s (c.args.n - l.i) (32 * l.i + 32) _ _ (omega arith) (sym (rw z at c.in_ok-pool_word.ensures))
    ∙ ap₂ (pool_from s) x y

pub returns : goal.returns
returns c =
    let l = c.loop-i in
    pool_none c.args.s.now (c.args.n - l.i) (32 * l.i + 32) (omega arith) ∙ sym l.invariant
