-- `triangle_count` meets its contract. Assumes nothing.
use native.Mathlib.Omega.{arith}
use borrow.Author.Tests.{eq-eqb, ne_eqb}
use Rattle.display.specs.Triangles.{triangle_count}
use Rattle.display.proofs.triangulation.triangle_count.Goals as goal

pub returns-in-0 : goal.returns-in-0
unfolding triangle_count
returns-in-0 c = rw (eq-eqb c.args.mode 0 (omega arith))

pub returns-in_default : goal.returns-in_default
unfolding triangle_count
returns-in_default c = rw (ne_eqb c.args.mode 0 (λ e. omega arith)) (omega arith)
