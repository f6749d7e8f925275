-- The tables of a mesh are stored piece by piece. Assumes nothing.
use Rattle.std.proofs.Common.{◌≡◌, ℕ, zero, suc, ◌+◌, ◌-◌, ◌*◌, ◌<◌, ◌≤◌, List, [], ◌∷◌, length, set, sym, refl, ap, ◌∙◌, arith, length-append}
use lib.Seq.{sets}
use Rattle.bits.specs.Verdict.{accepted, declined, mapped}
use Rattle.bits.specs.Field.{field}
use Rattle.bits.proofs.VerdictLaws.{then_yes, then_no, mapped_value, mapped_declined}
use Rattle.payload.specs.Mesh.{Submesh, Mesh}
use Rattle.payload.specs.MeshSpells.{mesh_vertices}
use Rattle.payload.specs.MeshRead.{read_mesh}
use Rattle.payload.specs.MeshDrawing.{point_count}
use Rattle.payload.specs.Internal.{read_words, WasRead, points_of, mesh_read, body_size}
use Rattle.payload.specs.declared.mesh.submeshes.TakenSubmesh.{TakenSubmesh}
use Rattle.payload.specs.declared.mesh.submeshes.SubmeshWalk.{SubmeshWalk}
use Rattle.payload.specs.InternalWalk.{submeshes_in, Taken}
use Rattle.payload.specs.Tables.{submesh_rows, all_points, pool_table, coordinate_table, submesh_table, point_table, table_lengths, body_read}
use Rattle.payload.specs.declared.mesh.measure.TableLengths.{TableLengths}
use Rattle.bits.proofs.VerdictLaws.{limited_yes, limited_no}
use Rattle.payload.proofs.PayloadLaws.{limited_value}
use Rattle.payload.proofs.StepLaws.{was_read, read_value}
use Rattle.payload.proofs.RangeLaws.{words-length}
use Rattle.payload.proofs.MeshReadLaws.{MeshParts, mesh_parts, mesh_spells}
use Rattle.payload.proofs.TurnLaws.{taken_points, taken_stored, mesh_is}

-- the same list stored
pub stored_same : (d e l m : List ℕ) → e ≡ sets d 0 l → l ≡ m → e ≡ sets d 0 m
stored_same d e l m h k = h ∙ ap (λ (x : List ℕ). sets d 0 x) k

-- ---- pool words

pub words_none : (s : List ℕ) (p n : ℕ) → n ≤ 0 → read_words s p n ≡ []
unfolding read_words
words_none s p zero h = refl
words_none s p (suc n) h = absurd (omega arith)

words_first : (s : List ℕ) (p n : ℕ) → 0 < n → read_words s p n ≡ field s p 32 ∷ read_words s (p + 32) (n - 1)
unfolding read_words
words_first s p zero o = absurd (omega arith)
words_first s p (suc n) o = let z : suc n - 1 ≡ n = omega arith in rw z

-- word i of n is stored, and the others are left
pub word-stored : (s d : List ℕ) (n i r : ℕ) → i < n → r ≡ field s (8 * (4 * i + 4)) 32
    → sets d i (read_words s (32 + 32 * i) (n - i)) ≡ sets (set d i r) (i + 1) (read_words s (32 + 32 * (i + 1)) (n - (i + 1)))
word-stored s d n i r h e =
    let a : 32 + 32 * i + 32 ≡ 32 + 32 * (i + 1) = omega arith in
    let b : n - i - 1 ≡ n - (i + 1) = omega arith in
    let k : i + 1 ≡ suc i = omega arith in
    let f : field s (32 + 32 * i) 32 ≡ r = ap (λ (q : ℕ). field s q 32) (omega arith) ∙ sym e in
    ap (λ (l : List ℕ). sets d i l) (words_first s (32 + 32 * i) (n - i) (omega arith)) ∙ rw (f, a, b, k)

-- ---- submesh rows

pub rows_none : (l : List Submesh) → l ≡ [] → submesh_rows l ≡ []
unfolding submesh_rows
rows_none l e = rw e

pub rows_length : (l : List Submesh) → length (submesh_rows l) ≡ 3 * length l
unfolding submesh_rows
rows_length [] = refl
rows_length (x ∷ l) = omega (arith, rows_length l)

-- ---- points

pub points_none : (l : List Submesh) → l ≡ [] → all_points l ≡ []
unfolding all_points
points_none l e = rw e

pub points_length : (l : List Submesh) → length (all_points l) ≡ point_count l
unfolding all_points
points_length [] = refl
points_length (x ∷ l) = length-append x.points (all_points l) ∙ ap (λ (k : ℕ). length x.points + k) (points_length l)

-- ---- the first of some submeshes was taken

module _ {w t : SubmeshWalk} {r : TakenSubmesh} (T : Taken w r t) where
  -- its row was stored, and the others' are left
  pub row_stored : (d d' : List ℕ) (at : ℕ) → d' ≡ sets d at (r.texture ∷ r.mode ∷ r.run.count ∷ [])
      → sets d at (submesh_rows (submeshes_in w)) ≡ sets d' (at + 3) (submesh_rows (submeshes_in t))
  unfolding submesh_rows
  row_stored d d' at e = taken_stored T submesh_rows submesh_rows (r.texture ∷ r.mode ∷ r.run.count ∷ []) (λ l. ap (λ (k : ℕ). r.texture ∷ r.mode ∷ k ∷ submesh_rows l) (sym T.count)) d d' at (at + 3) e refl

  -- its points were stored, and the others' are left
  pub points_stored : (d d' : List ℕ) (at : ℕ) → d' ≡ sets d at (points_of w.s.now r.run)
      → sets d at (all_points (submeshes_in w)) ≡ sets d' (at + r.run.count) (all_points (submeshes_in t))
  unfolding all_points
  points_stored d d' at e = taken_stored T all_points all_points (points_of w.s.now r.run) (λ l. refl) d d' at (at + r.run.count) e (omega (arith, T.count))

  -- how many points all of them have
  pub points_split : length (all_points (submeshes_in w)) ≡ r.run.count + length (all_points (submeshes_in t))
  points_split = points_length (submeshes_in w) ∙ taken_points T ∙ ap (λ (k : ℕ). r.run.count + k) (sym (points_length (submeshes_in t)))

-- ---- a mesh that was read

-- its pool, and how many words that has
pub pool_known : (s : List ℕ) → WasRead (read_mesh s) → (n : ℕ) → n ≡ field s 0 32 → ((mesh_read s).pool ≡ read_words s 32 n) × (length (mesh_read s).pool ≡ n)
pool_known s r n e = let v = read_value (read_mesh s) r in go v.0.0 v.0.1 v.1 (mesh_parts s v.0.0 v.0.1 v.1)
  where
    go : (x : Mesh) (t : ℕ) → read_mesh s ≡ accepted (x, t) → MeshParts s x t → ((mesh_read s).pool ≡ read_words s 32 n) × (length (mesh_read s).pool ≡ n)
    go x t f P =
        let i : P.n ≡ n = sym P.n_is ∙ sym e in
        let z : x.pool ≡ read_words s 32 n = P.pool_is ∙ rw i in
        rw (f, mesh_read) (z, ap length z ∙ words-length s 32 n)

-- ---- measuring a body

body_declined : (s : List ℕ) (k : ℕ) → length s ≤ 67108864 → read_mesh s ≡ declined k → body_read s ≡ declined k
body_declined s k h e = limited_yes s _ h ∙ then_no (read_mesh s) (λ x. accepted x.0) k e

body_accepted : (s : List ℕ) (x : Mesh) (t : ℕ) → length s ≤ 67108864 → read_mesh s ≡ accepted (x, t) → body_read s ≡ accepted x
body_accepted s x t h e = limited_yes s _ h ∙ then_yes (read_mesh s) (λ x. accepted x.0) (x, t) e

lengths_of_lem : (x : Mesh) (n : TableLengths)
    → n.pool ≡ length (pool_table x) → n.coordinates ≡ length (coordinate_table x) → n.submeshes ≡ length (submesh_table x) → n.points ≡ length (point_table x) → n ≡ table_lengths x
unfolding table_lengths
lengths_of_lem x n a b c d = λ i. record { pool = a i; coordinates = b i; submeshes = c i; points = d i }

module _ (s : List ℕ) where
  pub lengths_long : 67108864 < length s → declined 2 ≡ mapped table_lengths (body_read s)
  lengths_long h = sym (then_no (body_read s) (λ x. accepted (table_lengths x)) 2 (limited_no s _ h))

  pub lengths_refused : (k : ℕ) → length s ≤ 67108864 → declined k ≡ mapped body_size (read_mesh s) → declined k ≡ mapped table_lengths (body_read s)
  lengths_refused k h e = sym (then_no (body_read s) (λ x. accepted (table_lengths x)) k (body_declined s k h (mapped_declined body_size (read_mesh s) k e)))

  -- a mesh that was read has m vertices, k submeshes and j points. Its coordinate count is there
  pub count_there : (m k j : ℕ) → accepted (m, k, j) ≡ mapped body_size (read_mesh s) → 4 ≤ length s
  count_there m k j e =
      let v = mapped_value body_size (read_mesh s) (m, k, j) e in
      let S = mesh_spells s v.0.0 v.0.1 v.1 in
      omega (arith, S.head, S.pool_some)

  -- and they give its lengths
  pub lengths_found : (n : TableLengths) (m k j : ℕ) → length s ≤ 67108864 → accepted (m, k, j) ≡ mapped body_size (read_mesh s)
      → n.pool ≡ field s 0 32 → n.coordinates ≡ 5 * m → n.submeshes ≡ 3 * k → n.points ≡ j → accepted n ≡ mapped table_lengths (body_read s)
  lengths_found n m k j h e a b c d =
      let v = mapped_value body_size (read_mesh s) (m, k, j) e in
      let x = v.0.0 in
      let S = mesh_spells s x v.0.1 v.1 in
      let i : mesh_vertices x ≡ m = ap (λ (y : ℕ × ℕ × ℕ). y.0) v.2 in
      let f : length x.submeshes ≡ k = ap (λ (y : ℕ × ℕ × ℕ). y.1) v.2 in
      let g : point_count x.submeshes ≡ j = ap (λ (y : ℕ × ℕ × ℕ). y.2) v.2 in
      let z = lengths_of_lem x n (a ∙ S.pool_count) (omega (arith, S.fives)) (omega (arith, rows_length x.submeshes)) (d ∙ sym g ∙ sym (points_length x.submeshes)) in
      ap accepted z ∙ sym (then_yes (body_read s) (λ x. accepted (table_lengths x)) x (body_accepted s x v.0.1 h v.1))

-- a body that was measured was read
pub record BodyKnown (s : List ℕ) (n : TableLengths) : Type 0 where
  pub size : length s ≤ 67108864
  pub read : WasRead (read_mesh s)
  pub is : body_read s ≡ accepted (mesh_read s)
  pub lengths : n ≡ table_lengths (mesh_read s)

pub body_known : (s : List ℕ) (n : TableLengths) → accepted n ≡ mapped table_lengths (body_read s) → BodyKnown s n
body_known s n e =
    let b = mapped_value table_lengths (body_read s) n e in
    let l = limited_value s (mapped (λ (x : Mesh × ℕ). x.0) (read_mesh s)) b.0 b.1 in
    let v = mapped_value (λ (x : Mesh × ℕ). x.0) (read_mesh s) b.0 (sym l.1) in
    let z : mesh_read s ≡ b.0 = mesh_is s v.0 v.1 ∙ v.2 in
    record { size = l.0; read = was_read (read_mesh s) v.0 v.1; is = rw z b.1; lengths = rw z (sym b.2) }
