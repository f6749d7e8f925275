-- `list_payload` meets its contract: the records call says whether there is a list, and what both calls leave always
-- fits. Assumes nothing.
use Rattle.std.proofs.Common.{◌≡◌, ℕ, ◌/◌, ◌≤◌, [], ◌∷◌, length, sym, ap, ◌∙◌, arith}
use Rattle.bits.specs.Verdict.{accepted, mapped}
use Rattle.payload.specs.Textures.{list_textures}
use Rattle.payload.proofs.LentLaws.{refused}
use Rattle.meshlist.specs.Listing.{line_counts, listed_meshes, listing_plan}
use Rattle.meshlist.proofs.ListingLaws.{too_long, textures_of, few_records, records_left, textures_told, textures_left}
use Rattle.meshlist.proofs.ListingLaws.{both_left, told, refused_so, refused_left, accepted_so, all_counts, joined}
use Rattle.meshlist.proofs.listing.list_payload.Goals as goal

pub returns-then-payload-gt16384-clause-answer : goal.returns-then-payload-gt16384-clause-answer
returns-then-payload-gt16384-clause-answer c =
    sym (ap (mapped line_counts) (too_long c.args.payload.now (omega arith)))

pub returns-then-payload-gt16384-clause-buffers : goal.returns-then-payload-gt16384-clause-buffers
returns-then-payload-gt16384-clause-buffers c =
    let a = c.args in
    (refused (listing_plan a.payload.now) (a.records.now ∷ a.textures.now ∷ []) 2
    (ap (mapped listed_meshes) (too_long a.payload.now (omega arith)))).1

pub returns-in_err-counts-clause-answer : goal.returns-in_err-counts-clause-answer
returns-in_err-counts-clause-answer c =
    refused_so c.args.payload.now (omega arith) c.args.records.now (omega arith) _ c.in_err-counts.ensures.answer _
    c.from_residual.ensures.1

pub returns-in_err-counts-clause-buffers : goal.returns-in_err-counts-clause-buffers
returns-in_err-counts-clause-buffers c =
    refused_left c.args.payload.now (omega arith) c.args.records.now (omega arith) _ c.in_err-counts.ensures.answer _
    c.args.textures.now c.mesh_records.ensures.buffers

pub returns-in_err-n : goal.returns-in_err-n
returns-in_err-n c =
    let s = c.args.payload.now in
    let few : length s ≤ 16384 = omega arith in
    let t = told s few c.args.records.now (omega arith) c.in_ok-counts.counts c.in_ok-counts.ensures.answer in
    absurd (accepted_so _ _
    (c.in_err-n.ensures.answer ∙ textures_told s few t.meshes t.read c.args.textures.now (omega arith)))

pub returns : goal.returns
returns c =
    let s = c.args.payload.now in
    let records = c.args.records.now in
    let textures = c.args.textures.now in
    let few : length s ≤ 16384 = omega arith in
    let wide : 13650 ≤ length records = omega arith in
    let room : 512 ≤ length textures = omega arith in
    let t = told s few records wide c.in_ok-counts.counts c.in_ok-counts.ensures.answer in
    let filled = c.in_ok-n.ensures.answer ∙ textures_told s few t.meshes t.read textures room in
    let n : c.in_ok-n.n ≡ length (list_textures t.meshes) / 2 = cc filled in
    let k = ap (λ (y : ℕ × ℕ × ℕ). y.1) t.counts in
    record {
      answer = ap accepted (all_counts t.meshes _ _ _ _ t.counts n) ∙ sym (ap (mapped line_counts) t.read);
      lines = (
        omega (arith, k, few_records s few t.meshes t.read, c.mesh_records.auto.records),
        omega (arith, n, (textures_of s few t.meshes t.read).enough, c.texture_points.auto.out),
      );
      buffers = joined
          (c.mesh_records.ensures.buffers ∙ records_left s few t.meshes t.read records wide)
          (c.texture_points.ensures.buffers ∙ textures_left s few t.meshes t.read textures room)
          ∙ sym (both_left s few t.meshes t.read textures room records wide);
    }
