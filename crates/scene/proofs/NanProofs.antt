-- No NaN and no infinity among the floats of any kind. Assumes nothing.
use Prim.Native.Nat.{ℕ, ◌*◌}
use mathlib.Core.Path.{◌≡◌, ◌∙◌}
use mathlib.Core.Bool.{true}
use mathlib.Core.List.{Memᴰ}
use lib.Ieee.{binary32, of_bits, le, fits}
use lib.Ieee.Scale.{finite}
use borrow.Author.Tests.{lt-ltb}
use Rattle.bits.specs.Verdict.{accepted}
use Rattle.payload.specs.Float.{f0, f1, ratio, AllFinite}
use Rattle.payload.specs.Sphere.{grid_uvs, sphere_uvs}
use Rattle.payload.specs.Cube.{cube_floats}
use Rattle.payload.specs.NanLaws.{Number}
use Rattle.payload.proofs.Theorems.{nan_laws, finite_laws, meshes_reads, share_laws, sphere_uvs_law, cube_floats_lem}
use Rattle.scene.specs.Scene.{equi, cbmp, mesh, Given, GridLimits, CubeLimits, Call}
use Rattle.scene.specs.Laws.{InLimits, FittingReading, drawn}
use Rattle.scene.specs.NanLaws.{SceneNumbers}
use Rattle.scene.proofs.SceneProofs.{grid_usable_lem, cells_usable_lem}

-- ---- the makers of the two kinds of floats accept what the scene call accepts

grid_made : (g : Given) → GridLimits g
    → sphere_uvs g.rings g.sectors ≡ accepted (grid_uvs g.rings g.sectors)
grid_made g h = sphere_uvs_law g.rings g.sectors ∙ rw (grid_usable_lem g h)

cube_made : (c : Call) → InLimits cbmp c → (ρ : FittingReading cbmp c)
    → cube_floats c.given.cells c.given.radius (ratio ρ.reading c.given.face_width)
    ≡ accepted (drawn ρ).floats
cube_made c i ρ =
    let g = c.given in
    let h : CubeLimits g = i.numbers in
    let p = ρ.reading in
    let F = g.face_width in
    let u = share_laws.usable p F ρ.spells.limit h.width_least h.width_most
    ∙ lt-ltb (2 * p) F ρ.drawable in
    cube_floats_lem g.cells g.radius (ratio p F) ∙ rw (cells_usable_lem g h, h.finite_radius, u)

sphere : (c : Call) → InLimits equi c → (ρ : FittingReading equi c) (b : ℕ) → Memᴰ b (drawn ρ).floats
    → Number b × (le f0 (of_bits binary32 b) ≡ true) × (le (of_bits binary32 b) f1 ≡ true)
sphere c i ρ b m =
    let g = c.given in
    let e = grid_made g i.numbers in
    let t = nan_laws.uvs_between g.rings g.sectors (drawn ρ).floats b e m in
    (nan_laws.uvs g.rings g.sectors (drawn ρ).floats b e m, t.0, t.1)

cube : (c : Call) → InLimits cbmp c → fits binary32 c.given.radius ≡ true → (ρ : FittingReading cbmp c) (b : ℕ)
    → Memᴰ b (drawn ρ).floats → Number b × (finite (of_bits binary32 b) ≡ true)
cube c i f ρ b m =
    let g = c.given in
    let part = ratio ρ.reading g.face_width in
    let e = cube_made c i ρ in (
      nan_laws.points g.cells g.radius part (drawn ρ).floats b e m,
      nan_laws.points_finite g.cells g.radius part (drawn ρ).floats b f e m,
    )

mesh_list : (c : Call) → InLimits mesh c → (ρ : FittingReading mesh c) → AllFinite (drawn ρ).floats
mesh_list c i ρ =
    finite_laws.drawn c.payload ρ.reading ((meshes_reads.reads ρ.reading c.payload).1 ρ.spells)

pub scene_numbers : SceneNumbers
scene_numbers = record { sphere = sphere; cube = cube; mesh_list = mesh_list }
