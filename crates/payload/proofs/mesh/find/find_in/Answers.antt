-- `find_in` meets its contract. The invariant: what is sought has the number `skip` among the submeshes that follow.
-- Assumes nothing.
use Rattle.std.proofs.Common.{sym, ap, ◌∙◌, arith}
use Rattle.bits.specs.Verdict.{mapped}
use Rattle.payload.specs.Places.{Standing}
use Rattle.payload.proofs.MeshTheorems.{any_was}
use Rattle.payload.proofs.HeadLaws.{head_known}
use Rattle.payload.proofs.StandingLaws.{standing-none, standing_on, standing_here}
use Rattle.payload.proofs.mesh.find.find_in.Goals as goal

pub invariant_of-mesh-items : goal.invariant_of-mesh-items
invariant_of-mesh-items c = record { short = c.requires.0; read = any_was _ c.requires.1 }

pub invariant_of-points_run : goal.invariant_of-points_run
invariant_of-points_run c =
    let m = c.in-Some.mesh in record { there = (head_known _ _ m.short m.read c.mesh_head.ensures).submeshes }

pub returns-then-skip-rest : goal.returns-then-skip-rest
returns-then-skip-rest c =
    standing_here c.in-Some.ensures.steps _ c.mesh_head.ensures _ (omega arith) _ c.points_run-run.ensures
    ∙ ap (mapped (λ (x : Standing). x.place)) (sym c.loop-mesh.invariant)

pub loop-mesh-preserved : goal.loop-mesh-preserved
loop-mesh-preserved c =
    c.loop-mesh.invariant ∙ standing_on c.in-Some.ensures.steps _ c.mesh_head.ensures _ (omega arith)

pub returns : goal.returns
returns c =
    sym (ap (mapped (λ (x : Standing). x.place)) (c.loop-mesh.invariant ∙ standing-none c.loop-mesh.mesh-iterator _ c.in-None.ensures.steps))
