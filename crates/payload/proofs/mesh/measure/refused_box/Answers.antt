-- `refused_box` meets its contract. Assumes nothing.
use Rattle.std.proofs.Common.{◌≡◌, ℕ, ◌<◌, ◌≤◌, arith, eq-eqb, ne_eqb, le-leb}
use borrow.Author.Tests.{lt-leb}
use Rattle.bits.specs.Says.{number_of}
use Rattle.payload.specs.MeshSpells.{mesh_type}
use Rattle.payload.specs.Internal.{box_refusal}
use Rattle.payload.specs.declared.mesh.measure.Totals.{Totals}
use Rattle.payload.proofs.mesh.measure.refused_box.Goals as goal

skipped : (type k : ℕ) (t : Totals) → (type ≡ mesh_type → ⊥) → k ≡ box_refusal type k t
skipped type k t n = simp (ne_eqb type mesh_type n)

counted : (type k : ℕ) (t : Totals) → type ≡ mesh_type → t.meshes < 2 → k ≡ box_refusal type k t
counted type k t y h = simp (eq-eqb type mesh_type y, lt-leb 2 t.meshes h)

third : (type k : ℕ) (t : Totals) → type ≡ mesh_type → 2 ≤ t.meshes → 18 ≡ box_refusal type k t
third type k t y h = simp (eq-eqb type mesh_type y, le-leb 2 t.meshes h)

pub returns-then-fourcc-ne-MESH : goal.returns-then-fourcc-ne-MESH
returns-then-fourcc-ne-MESH c = let a = c.args in skipped a.fourcc (number_of a.refusal) a.t c.if-fourcc-ne-MESH.true

pub returns-then-t-lt2 : goal.returns-then-t-lt2
returns-then-t-lt2 c =
    let a = c.args in
    counted a.fourcc (number_of a.refusal) a.t c.if-fourcc-ne-MESH.false (omega arith)

pub returns : goal.returns
returns c =
    let a = c.args in
    third a.fourcc (number_of a.refusal) a.t c.if-fourcc-ne-MESH.false (omega arith)
