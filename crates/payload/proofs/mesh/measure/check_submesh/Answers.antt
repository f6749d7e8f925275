-- `check_submesh` meets its contract: each return is a way through `read_submesh`, and the last two follow the answer on
-- the run. Assumes nothing.
use Rattle.std.proofs.Common.{sym, ap, ◌∙◌, arith}
use Rattle.bits.specs.Verdict.{mapped}
use Rattle.bits.proofs.SaysLaws.{passed}
use Rattle.payload.specs.Internal.{points_end}
use Rattle.payload.proofs.SubmeshLaws.{submesh_short, submesh_low, submesh_high}
use Rattle.payload.proofs.CheckLaws.{submesh_told, submesh_refused}
use Rattle.payload.proofs.mesh.measure.check_submesh.Goals as goal

pub returns-then-end-p-lt48 : goal.returns-then-end-p-lt48
returns-then-end-p-lt48 c =
    let a = c.args in
    sym (ap (mapped points_end) (submesh_short a.s.now a.w a.m a.p (omega arith)))

pub returns-then-count-lt1 : goal.returns-then-count-lt1
returns-then-count-lt1 c =
    let a = c.args in
    sym (ap (mapped points_end) (submesh_low a.s.now a.w a.m a.p (omega arith) (omega arith)))

pub returns-then-count-gt128000 : goal.returns-then-count-gt128000
returns-then-count-gt128000 c =
    let a = c.args in
    sym (ap (mapped points_end) (submesh_high a.s.now a.w a.m a.p (omega arith) (omega arith)))

pub returns-in_err-check_run : goal.returns-in_err-check_run
returns-in_err-check_run c =
    let a = c.args in
    let n = c.one_field-count in
    passed _ _ _ c.from_residual.ensures.1
    ∙ submesh_refused a.s.now a.w a.m a.p n.result (omega arith) n.ensures (omega arith) (omega arith) c.requires.short
    c.requires.wide _ c.in_err-check_run.ensures.answer

pub overflow_mul-result : goal.overflow_mul-result
overflow_mul-result c =
    let a = c.args in
    let n = c.one_field-count in
    let room = (submesh_told a.s.now a.w a.m a.p n.result (omega arith) n.ensures (omega arith) (omega arith)
    c.requires.short c.requires.wide c.in_ok-check_run.ensures.answer).1 in
    omega (arith, room)

pub overflow_add-result-2 : goal.overflow_add-result-2
overflow_add-result-2 c =
    let a = c.args in
    let n = c.one_field-count in
    let room = (submesh_told a.s.now a.w a.m a.p n.result (omega arith) n.ensures (omega arith) (omega arith)
    c.requires.short c.requires.wide c.in_ok-check_run.ensures.answer).1 in
    omega (arith, room)

pub returns : goal.returns
returns c =
    let a = c.args in
    let n = c.one_field-count in
    (submesh_told a.s.now a.w a.m a.p n.result (omega arith) n.ensures (omega arith) (omega arith)
    c.requires.short c.requires.wide c.in_ok-check_run.ensures.answer).0
