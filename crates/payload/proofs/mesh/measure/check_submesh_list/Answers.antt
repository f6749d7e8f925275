-- `check_submesh_list` meets its contract: each return is a way through `read_submeshes`. Assumes nothing.
use Rattle.std.proofs.Common.{sym, ap, ◌∙◌, arith}
use Rattle.bits.specs.Verdict.{mapped}
use Rattle.payload.specs.Internal.{submeshes_size}
use Rattle.payload.proofs.SubmeshLaws.{submeshes_short, submeshes_none, submeshes_on}
use Rattle.payload.proofs.mesh.measure.check_submesh_list.Goals as goal

pub returns-then-end-p-lt32 : goal.returns-then-end-p-lt32
returns-then-end-p-lt32 c =
    let a = c.args in
    sym (ap (mapped submeshes_size) (submeshes_short a.s.now a.w a.m a.p (omega arith)))

pub returns-then-count-lt1 : goal.returns-then-count-lt1
returns-then-count-lt1 c =
    let a = c.args in
    sym (ap (mapped submeshes_size) (submeshes_none a.s.now a.w a.m a.p (omega arith) (omega arith)))

pub returns : goal.returns
returns c =
    let a = c.args in
    let k = c.one_field-count in
    c.check_submeshes.ensures ∙ sym (ap (mapped submeshes_size) (submeshes_on a.s.now a.w a.m k.result a.p (omega arith) (sym k.ensures) (omega arith)))
