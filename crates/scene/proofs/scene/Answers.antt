-- `scene` meets its contract: one of the three kinds, or none. Assumes nothing.
use Rattle.scene.proofs.SceneLaws.{scene_of_equi, scene_of_cbmp, scene_of_mesh, scene_of_none}
use Rattle.std.proofs.Common.{◌≡◌, ℕ, List, Result, Ok, Err, IsErrAnd, sym, refl, ap, ◌∙◌}
use Rattle.bits.specs.Verdict.{accepted, mapped}
use Rattle.bits.proofs.SaysLaws.{passed_on}
use Rattle.bits.specs.declared.refusals.FillError.{FillError}
use Rattle.bits.specs.declared.refusals.FillError.TheVariants as F
use Rattle.payload.specs.Meshes.{meshes_says}
use Rattle.payload.specs.declared.mesh.draw.DrawingLengths.{DrawingLengths}
use Rattle.payload.specs.declared.mesh.measure.MeshListSize.{MeshListSize}
use Rattle.scene.specs.Internal.{meshes_name}
use Rattle.scene.specs.declared.Drawing.{Drawing}
use Rattle.scene.specs.Scene.{Given, given, Call, kind_named, scene_says}
use Rattle.scene.proofs.scene.Goals as goal

-- what the reader of mesh lists refused, as the scene call hands it on
handed_on : (r : Result Drawing (FillError DrawingLengths)) (x : Result MeshListSize (FillError DrawingLengths))
    (e : FillError DrawingLengths) → IsErrAnd r (λ y. y ≡ e) → x ≡ Err e
    → scene_says r ≡ mapped meshes_name (meshes_says x)
handed_on (Ok y) x e p q = absurd p
handed_on (Err y) x (F.Needs n) p q = rw (p, q) refl
handed_on (Err y) x (F.Refused k) p q = rw (p, q) refl

-- the call that was made
abbrev called : ℕ → List ℕ → Given → List ℕ → List ℕ → List ℕ → Call
called kind payload g numbers floats records =
    record {
      kind = kind;
      given = g;
      payload = payload;
      buffers = record { numbers = numbers; floats = floats; records = records };
    }

pub returns-in_err-try_from : goal.returns-in_err-try_from
returns-in_err-try_from c =
    let a = c.args in
    let s = called a.kind a.payload.now (given a.rings a.sectors a.cells a.radius a.face_width) a.numbers.now a.floats.now
    a.records.now in
    let r = scene_of_none s _ (sym c.in_err-try_from.ensures) in
    record { answer = passed_on _ _ _ _ c.from_residual.ensures.1 ∙ r.0; buffers = r.1 }

pub returns-in-Equi : goal.returns-in-Equi
returns-in-Equi c =
    let a = c.args in
    let s = called a.kind a.payload.now (given a.rings a.sectors a.cells a.radius a.face_width) a.numbers.now a.floats.now
    a.records.now in
    let kind = sym c.in_ok-try_from.ensures ∙ ap (λ k. accepted (kind_named k)) c.in-Equi.is in
    let r = scene_of_equi s kind _ _ (c.scene_equi.ensures a.records.now) in
    record { answer = r.0; buffers = r.1 }

pub returns-in-Cbmp : goal.returns-in-Cbmp
returns-in-Cbmp c =
    let a = c.args in
    let s = called a.kind a.payload.now (given a.rings a.sectors a.cells a.radius a.face_width) a.numbers.now a.floats.now
    a.records.now in
    let kind = sym c.in_ok-try_from.ensures ∙ ap (λ k. accepted (kind_named k)) c.in-Cbmp.is in
    let r = scene_of_cbmp s kind _ _ (c.scene_cbmp.ensures a.records.now) in
    record { answer = r.0; buffers = r.1 }

pub returns-in_err-n-in-Meshes : goal.returns-in_err-n-in-Meshes
returns-in_err-n-in-Meshes c =
    let a = c.args in
    let s = called a.kind a.payload.now (given a.rings a.sectors a.cells a.radius a.face_width) a.numbers.now a.floats.now
    a.records.now in
    let p = c.parse_meshes.ensures in
    let kind = sym c.in_ok-try_from.ensures ∙ ap (λ k. accepted (kind_named k)) c.in-Meshes.is in
    let said = handed_on _ _ _ c.from_residual-in_err-n-in-Meshes.ensures.1 c.in_err-n-in-Meshes.was in
    let r = scene_of_mesh s kind _ _ _ said (p.answer, p.buffers) in
    record { answer = r.0; buffers = r.1 }

pub returns-in_ok-n-in-Meshes : goal.returns-in_ok-n-in-Meshes
returns-in_ok-n-in-Meshes c =
    let a = c.args in
    let s = called a.kind a.payload.now (given a.rings a.sectors a.cells a.radius a.face_width) a.numbers.now a.floats.now
    a.records.now in
    let p = c.parse_meshes.ensures in
    let kind = sym c.in_ok-try_from.ensures ∙ ap (λ k. accepted (kind_named k)) c.in-Meshes.is in
    let said = ap accepted c.of_meshes.ensures ∙ sym (ap (λ x. mapped meshes_name (meshes_says x)) c.in_ok-n-in-Meshes.was) in
    let r = scene_of_mesh s kind _ _ _ said (p.answer, p.buffers) in
    record { answer = r.0; buffers = r.1 }
