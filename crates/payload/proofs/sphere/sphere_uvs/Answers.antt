-- `sphere_uvs` meets its contract. Assumes nothing.
use Rattle.std.proofs.Common.{◌∙◌, arith}
use Rattle.bits.proofs.SaysLaws.{passed_on}
use Rattle.payload.specs.Sphere.{sphere_uvs}
use Rattle.payload.proofs.LentLaws.{told_declined, told_needs, told_filled}
use Rattle.payload.proofs.SphereLaws.{uvs_no, uvs_yes, uvs_length}
use Rattle.payload.proofs.sphere.sphere_uvs.Goals as goal

pub returns-in_err-grid : goal.returns-in_err-grid
returns-in_err-grid c =
    let a = c.args in
    let e = uvs_no a.rings a.sectors _ c.in_err-grid.ensures in
    let r = told_declined 2 (sphere_uvs a.rings a.sectors) a.out.now _ e in
    record { answer = passed_on _ _ _ _ c.from_residual.ensures.1 ∙ r.0; buffers = r.1 }

pub returns-then-out-vertices : goal.returns-then-out-vertices
returns-then-out-vertices c =
    let a = c.args in
    let g = c.in_ok-grid in
    let l = uvs_length g.grid.rings g.grid.sectors in
    let e = uvs_yes a.rings a.sectors _ _ g.ensures g.grid.usable in
    let n = c.vertices-vertices.ensures.number in
    let r = told_needs 2 (sphere_uvs a.rings a.sectors) a.out.now _ _ e (omega arith) (omega arith) in
    record { answer = r.0; buffers = r.1 }

pub fill_uv_rows-requires : goal.fill_uv_rows-requires
fill_uv_rows-requires c =
    let g = c.in_ok-grid.grid in
    omega (arith, c.vertices-vertices.ensures, uvs_length g.rings g.sectors)

pub returns : goal.returns
returns c =
    let a = c.args in
    let g = c.in_ok-grid in
    let l = uvs_length g.grid.rings g.grid.sectors in
    let e = uvs_yes a.rings a.sectors _ _ g.ensures g.grid.usable in
    let n = c.vertices-vertices.ensures.number in
    let uvs = sphere_uvs a.rings a.sectors in
    let r = told_filled 2 uvs a.out.now _ _ _ e (omega arith) (omega arith) c.fill_uv_rows.ensures in
    record { answer = r.0; buffers = r.1 }
