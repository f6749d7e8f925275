-- `PayloadKind::try_from` meets its contract. Assumes nothing.
use Rattle.std.proofs.Common.{sym, arith}
use Rattle.scene.proofs.SceneLaws.{kind_equi, kind_cbmp, kind_mesh, kind_none}
use Rattle.scene.proofs.PayloadKindTryFromU32.try_from.Goals as goal

pub returns-in-0 : goal.returns-in-0
returns-in-0 c = sym (kind_equi c.args.number c.in-0.is)

pub returns-in-1 : goal.returns-in-1
returns-in-1 c = sym (kind_cbmp c.args.number c.in-1.is)

pub returns-in-2 : goal.returns-in-2
returns-in-2 c = sym (kind_mesh c.args.number c.in-2.is)

pub returns-in_default : goal.returns-in_default
returns-in_default c = sym (kind_none c.args.number (λ e. omega arith) (λ e. omega arith) (λ e. omega arith))
