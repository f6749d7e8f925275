-- `mesh::records::mesh_records` meets its contract: a refusal and a buffer that is too short leave it as it was, and else
-- the records are stored. Assumes nothing.
use Rattle.std.proofs.Common.{◌≡◌, ℕ, List, [], ◌∷◌, map, length, ap, ◌∙◌, arith, le-leb}
use borrow.Author.Tests.{lt-leb}
use Rattle.bits.specs.Verdict.{accepted, mapped}
use Rattle.payload.specs.Meshes.{list_size, recorded_meshes, records_plan}
use Rattle.payload.specs.Internal.{meshes_from}
use Rattle.payload.specs.declared.mesh.measure.MeshListSize.{MeshListSize}
use Rattle.bits.proofs.SaysLaws.{passed_on}
use Rattle.payload.proofs.LentLaws.{refused, too_short, all_stored}
use Rattle.payload.proofs.TurnLaws.{Listed, listed, not_listed, listed_lengths, listed_meshes_law}
use Rattle.payload.proofs.mesh.records.mesh_records.Goals as goal

-- what was measured
module _ (s : List ℕ) (size : MeshListSize) (told : Listed s size) where
  planned : records_plan s ≡ accepted (recorded_meshes (meshes_from s 0))
  planned = ap (mapped recorded_meshes) told.is

  sized : size.records ∷ [] ≡ map length (recorded_meshes (meshes_from s 0)).lists
  sized = ap (λ (n : ℕ). n ∷ []) (listed_lengths told).2

  counts : ◌≡◌ {A = ℕ × ℕ × ℕ} (size.meshes, size.submeshes, size.points) (recorded_meshes (meshes_from s 0)).answer
  unfolding list_size
  counts = ap (λ (n : MeshListSize). (n.meshes, n.submeshes, n.points)) told.size

pub returns-in_err-n : goal.returns-in_err-n
returns-in_err-n c =
    let a = c.args in
    let r = refused (records_plan a.payload.now) (a.records.now ∷ []) _
    (ap (mapped recorded_meshes) (not_listed a.payload.now _ c.in_err-n.ensures)) in
    record { answer = passed_on _ _ _ _ c.from_residual.ensures.1 ∙ r.0; buffers = r.1 }

pub returns-then-records-n : goal.returns-then-records-n
returns-then-records-n c =
    let s = c.args.payload.now in
    let out = c.args.records.now in
    let size = c.in_ok-n.n in
    let told = listed s size c.in_ok-n.ensures in
    let r = too_short (records_plan s) (out ∷ []) _ (planned s size told) (size.records ∷ []) (sized s size told)
    (lt-leb size.records (length out) (omega arith)) in record { answer = r.0; buffers = r.1 }

pub record_boxes-requires : goal.record_boxes-requires
record_boxes-requires c =
    let told = listed c.args.payload.now c.in_ok-n.n c.in_ok-n.ensures in
    let h = listed_lengths told in
    (told.short, told.read, omega arith, listed_meshes_law told)

pub returns : goal.returns
returns c =
    let s = c.args.payload.now in
    let out = c.args.records.now in
    let size = c.in_ok-n.n in
    let told = listed s size c.in_ok-n.ensures in
    let r = all_stored (records_plan s) (out ∷ []) _ (planned s size told) (size.records ∷ []) (sized s size told)
    (le-leb size.records (length out) (omega arith)) _ (counts s size told) _
    (ap (λ x. x ∷ []) c.record_boxes.ensures) in record { answer = r.0; buffers = r.1 }
