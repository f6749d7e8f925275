-- `put_record` meets its contract: the loop of its mode puts its triangles. Assumes nothing.
use mathlib.Core.Path.{ap, ◌∙◌}
use native.Mathlib.Omega.{arith}
use lib.Seq.{sets}
use Rattle.display.proofs.TriangleLaws.{count, long}
use Rattle.display.proofs.LoopLaws.{of_threes, of_strip, of_fan, threes_few, numbered}
use Rattle.display.proofs.triangulation.put_record.Goals as goal
use Rattle.display.proofs.triangulation.put_record.Goals.{in-0, in-1, in_default}

pub put_threes-requires : goal.put_threes-requires
put_threes-requires c =
    let r = c.args.submesh in
    let n = c.triangle_count-n in (
      omega (arith, c.requires.0, threes_few r _ n.ensures (omega arith)),
      omega (arith, c.requires.1, count r, n.ensures),
    )

pub put_strip-requires : goal.put_strip-requires
put_strip-requires c =
    let r = c.args.submesh in
    let n = c.triangle_count-n in
    record {
      numbered = numbered r _ n.ensures (λ e. omega arith) c.requires.0;
      n_in_bounds = omega (arith, c.requires.1, count r, n.ensures, long 1 r.first n.result);
    }

pub put_fan-requires : goal.put_fan-requires
put_fan-requires c =
    let r = c.args.submesh in
    let n = c.triangle_count-n in
    record {
      numbered = numbered r _ n.ensures (λ e. omega arith) c.requires.0;
      n_in_bounds = omega (arith, c.requires.1, count r, n.ensures, long 2 r.first n.result);
    }

pub returns-clause-place : goal.returns-clause-place
returns-clause-place c = omega (arith, count c.args.submesh, c.triangle_count-n.ensures)

pub returns-clause-numbers : goal.returns-clause-numbers
returns-clause-numbers c =
    let a = c.args in
    let n = c.triangle_count-n in
    elim c.match-submesh.branch [
      | in-0 w ↦ w.out-is ∙ w.put_threes.ensures ∙ ap (sets a.out.now a.at) (of_threes a.submesh _ n.ensures (omega arith))
      | in-1 w ↦ w.out-is ∙ w.put_strip.ensures ∙ ap (sets a.out.now a.at) (of_strip a.submesh _ n.ensures (omega arith))
      | in_default w ↦ w.out-is ∙ w.put_fan.ensures ∙ ap (sets a.out.now a.at) (of_fan a.submesh _ n.ensures (λ e. omega arith) (λ e. omega arith))
    ]
