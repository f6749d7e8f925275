-- `parse_mesh` meets its contract: a body that was measured is the mesh whose tables are stored. Assumes nothing.
use Rattle.std.proofs.Common.{◌≡◌, ℕ, List, [], ◌∷◌, map, length, ap, ◌∙◌, ap₂}
use Rattle.bits.specs.Verdict.{accepted, mapped}
use Rattle.bits.proofs.VerdictLaws.{mapped_declined}
use Rattle.payload.specs.Tables.{table_lengths, body_read, tables_of, tables_plan}
use Rattle.payload.specs.Internal.{mesh_read}
use Rattle.payload.specs.declared.mesh.measure.TableLengths.{TableLengths}
use Rattle.bits.proofs.SaysLaws.{passed_on}
use Rattle.payload.proofs.LentLaws.{refused, enough, too_short, all_stored}
use Rattle.payload.proofs.TableLaws.{BodyKnown, body_known}
use Rattle.payload.proofs.mesh.tables.parse_mesh.Goals as goal

abbrev lengths : TableLengths → List ℕ
lengths size = size.pool ∷ size.coordinates ∷ size.submeshes ∷ size.points ∷ []

-- what was measured
module _ (s : List ℕ) (size : TableLengths) (known : BodyKnown s size) where
  planned : tables_plan s ≡ accepted (tables_of (mesh_read s))
  planned = ap (mapped tables_of) known.is

  sized : lengths size ≡ map length (tables_of (mesh_read s)).lists
  unfolding table_lengths
  sized = ap lengths known.lengths

abbrev buffers : (pool coordinates submeshes points : List ℕ) → List (List ℕ)
buffers pool coordinates submeshes points = pool ∷ coordinates ∷ submeshes ∷ points ∷ []

pub returns-in_err-n : goal.returns-in_err-n
returns-in_err-n c =
    let a = c.args in
    let r = refused (tables_plan a.body.now) (buffers a.pool.now a.coordinates.now a.submeshes.now a.points.now) _
    (ap (mapped tables_of) (mapped_declined table_lengths (body_read a.body.now) _ c.in_err-n.ensures)) in
    record { answer = passed_on _ _ _ _ c.from_residual.ensures.1 ∙ r.0; buffers = r.1 }

pub fill_tables-requires : goal.fill_tables-requires
fill_tables-requires c =
    let a = c.args in
    let s = a.body.now in
    let size = c.in_ok-n.n in
    let known = body_known s size c.in_ok-n.ensures in
    let r = enough (tables_plan s) (buffers a.pool.now a.coordinates.now a.submeshes.now a.points.now) _
    (planned s size known) (lengths size) (sized s size known) c.if-n-pool.true in
    (known.size, known.read, r.0, r.1.0, r.1.1.0, r.1.1.1.0)

pub returns-then-n-pool : goal.returns-then-n-pool
returns-then-n-pool c =
    let a = c.args in
    let s = a.body.now in
    let size = c.in_ok-n.n in
    let known = body_known s size c.in_ok-n.ensures in
    let u = c.fill_tables.ensures in
    let r = all_stored (tables_plan s) (buffers a.pool.now a.coordinates.now a.submeshes.now a.points.now) _
    (planned s size known) (lengths size) (sized s size known) c.if-n-pool.true _ known.lengths _
    (ap₂ ◌∷◌ u.pool (ap₂ ◌∷◌ u.coordinates (ap₂ ◌∷◌ u.submeshes (ap (λ x. x ∷ []) u.points)))) in
    record { answer = r.0; buffers = r.1 }

pub returns : goal.returns
returns c =
    let a = c.args in
    let s = a.body.now in
    let size = c.in_ok-n.n in
    let known = body_known s size c.in_ok-n.ensures in
    let r = too_short (tables_plan s) (buffers a.pool.now a.coordinates.now a.submeshes.now a.points.now) _
    (planned s size known) (lengths size) (sized s size known) c.if-n-pool.false in
    record { answer = r.0; buffers = r.1 }
