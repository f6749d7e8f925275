-- `check_submeshes` meets its contract. Assumes nothing.
use Rattle.std.proofs.Common.{◌≡◌, ℕ, ◌+◌, ◌-◌, sym, ap, ◌∙◌, arith}
use Rattle.bits.specs.Verdict.{mapped}
use Rattle.bits.proofs.SaysLaws.{passed}
use Rattle.payload.specs.MeshRead.{many, read_submesh}
use Rattle.payload.proofs.RangeLaws.{width_some}
use Rattle.payload.proofs.CheckLaws.{submesh_end, counted, counted_all, counted_end, counted_declined, counted_on}
use Rattle.payload.proofs.mesh.measure.check_submeshes.Goals as goal

pub loop-init : goal.loop-init
loop-init c =
    let a = c.args in
    let z : a.count ≡ a.count - 0 = omega arith in
    let all = counted_all a.s.now a.w a.m a.count a.p
    ∙ ap (λ (n : ℕ). mapped (counted a.count 0) (many (read_submesh a.s.now a.w a.m) n a.p)) z in
    record { same = all; low = omega arith; inside = omega arith; few = omega arith }

pub returns-in_err-submesh : goal.returns-in_err-submesh
returns-in_err-submesh c =
    let a = c.args in
    let l = c.loop in
    passed _ _ _ c.from_residual.ensures.1
    ∙ sym (l.invariant.same
    ∙ counted_declined a.s.now a.w a.m a.count l.points (a.count - l.counter) l.bit _ (omega arith) c.in_err-submesh.ensures)

pub overflow_add-points : goal.overflow_add-points
overflow_add-points c =
    let a = c.args in
    let q = c.requires in
    let e = c.in_ok-submesh.ensures in
    let after = submesh_end a.s.now a.w a.m c.loop.bit _ _ (rw q.wide (width_some a.m q.some)) e in
    omega (arith, after, c.loop.invariant.few)

pub loop-preserved : goal.loop-preserved
loop-preserved c =
    let a = c.args in
    let l = c.loop in
    let q = c.requires in
    let e = c.in_ok-submesh.ensures in
    let after = c.in_ok-submesh.submesh in
    let end = submesh_end a.s.now a.w a.m l.bit _ _ (rw q.wide (width_some a.m q.some)) e in
    let x : a.count - l.counter - 1 ≡ a.count - (l.counter + 1) = omega arith in
    record {
      same = l.invariant.same
          ∙ counted_on a.s.now a.w a.m a.count l.points (a.count - l.counter) l.bit _ _ (omega arith) e
          ∙ ap (λ (n : ℕ). mapped (counted a.count (l.points + after.points)) (many (read_submesh a.s.now a.w a.m) n after.bit)) x;
      low = omega (arith, end, l.invariant.low);
      inside = omega (arith, end);
      few = omega (arith, end, l.invariant.few);
    }

pub returns : goal.returns
returns c =
    let a = c.args in
    let l = c.loop in
    sym (l.invariant.same ∙ counted_end a.s.now a.w a.m a.count l.points (a.count - l.counter) l.bit (omega arith))
