-- `hoodsorrel_measure_meshes` meets its contract: the points of the measured size. Assumes nothing.
use Rattle.std.proofs.Common.{rules, ap, ◌∙◌}
use Rattle.bits.specs.Verdict.{mapped}
use Rattle.payload.specs.MeshRead.{read_meshes}
use Rattle.viewer.specs.Number.{points_of}
use Rattle.viewer.proofs.NumberLaws.{handed}
use Rattle.viewer.proofs.PointLaws.{points_measured, points_said}
use Rattle.viewer.proofs.hoodsorrel_measure_meshes.Goals as goal

pub returns : goal.returns
returns c =
    let s = c.args.payload.now in
    handed c.number.result _ _ c.number.type_inv c.number.ensures
    (points_said _ (λ x n h. search rules) c.measure_meshes.result c.map.result c.map.ensures.cases
    ∙ ap (mapped points_of) c.measure_meshes.ensures ∙ points_measured s (read_meshes s))
