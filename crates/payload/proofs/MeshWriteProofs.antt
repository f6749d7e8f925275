-- Reading and writing a mesh undo each other.
use Rattle.std.proofs.Common.{◌≡◌, ℕ, suc, ◌+◌, ◌-◌, ◌*◌, ◌<◌, ◌≤◌, true, List, [], ◌∷◌, ◌++◌, length, get_or, take, drop, sym, refl, ap, ◌∙◌, subst, ap₂, suc-le-suc, arith, length-append, length-drop, take-append-drop, length-take-le, eqb-true, le-leb}
use lib.Seq.{take-append_seam, drop-append_seam}
use Rattle.bits.specs.Number.{width_of}
use Rattle.bits.specs.Verdict.{accepted, mapped}
use Rattle.bits.proofs.FieldLaws.{field_lt}
use Rattle.payload.specs.Laws.{MeshWrites, PlainBox, TablesRead, Words32, written_of}
use Rattle.payload.specs.Mesh.{Mesh, Submesh}
use Rattle.payload.specs.MeshSpells.{MeshSpells, MeshesSpell, SubmeshesSpell, submesh_bits, mesh_vertices}
use Rattle.payload.specs.Float.{finite_word}
use Rattle.payload.specs.MeshWrite.{box_size, is_mesh, mesh_body, mesh_box, row_within, submeshes_of, tables_mesh}
use Rattle.payload.specs.Tables.{all_points, coordinate_table, point_table, pool_table, submesh_rows, submesh_table}
use Rattle.payload.specs.InternalWriting.{row_fits, rows_all_fit}
use Rattle.payload.proofs.BoxLaws.{box_length, body_length, body_spells, box_body, box_spells, plain_body, plain_box, plain_size}
use Rattle.payload.proofs.JudgeLaws.{mesh_within, passes, tested_all, told, under_below, written_value, written_yes}
use Rattle.payload.proofs.MeshReadLaws.{spells_mesh}
use Rattle.payload.proofs.MeshTheorems.{meshes_reads}
use Rattle.payload.proofs.MeshWriteLaws.{Each, SubmeshWithin, Under, Within, mesh_bits}
use Rattle.bits.proofs.VerdictLaws.{limited_yes}
use Rattle.payload.proofs.ReadLaws.{writes_laws}
use Rattle.payload.proofs.RowLaws.{first_row, limits_row, not_so}

-- ---- a mesh's tables, and back

pub rows_back : (l : List Submesh) → submeshes_of (submesh_rows l) (all_points l) ≡ l
unfolding submesh_rows all_points submeshes_of
rows_back [] = refl
rows_back (x ∷ l) =
    ap₂ (λ (a b : List ℕ). record { texture = x.texture; mode = x.mode; points = a } ∷ submeshes_of (submesh_rows l) b) (take-append_seam x.points (all_points l)) (drop-append_seam x.points (all_points l))
    ∙ ap (λ (t : List Submesh). x ∷ t) (rows_back l)

pub mesh_back : (x : Mesh) → tables_mesh (pool_table x) (coordinate_table x) (submesh_table x) (point_table x) ≡ x
mesh_back x = ap (λ (l : List Submesh). record { pool = x.pool; vertices = x.vertices; submeshes = l }) (rows_back x.submeshes)

-- rows that fit, as submeshes, give those rows and points again
tables_back : (l points : List ℕ) → rows_all_fit l (length points) ≡ true → (submesh_rows (submeshes_of l points) ≡ l) × (all_points (submeshes_of l points) ≡ points)
unfolding rows_all_fit submeshes_of submesh_rows all_points
tables_back [] points e = (refl, none points (eqb-true (length points) 0 e))
  where
    none : (p : List ℕ) → length p ≡ 0 → [] ≡ p
    none [] h = refl
    none (x ∷ p) h = absurd (omega arith)
tables_back (t ∷ []) points e = not_so e
tables_back (t ∷ m ∷ []) points e = not_so e
tables_back (t ∷ m ∷ c ∷ more) points e =
    let r = first_row (t ∷ m ∷ c ∷ more) points (omega arith) e in
    let d : length (drop c points) ≡ length points - c = length-drop c points in
    let k : length (take c points) ≡ c = length-take-le c points r.fits in
    let ih = tables_back more (drop c points) (rw d r.rest) in (
      ap₂ (λ (n : ℕ) (l : List ℕ). t ∷ m ∷ n ∷ l) k ih.0,
      ap (λ (l : List ℕ). take c points ++ l) ih.1 ∙ take-append-drop c points,
    )

-- ---- what is spelled is within the rules, and passes the tests

from_places : (limit : ℕ) (l : List ℕ) → ((i : ℕ) → i < length l → get_or l i 0 < limit) → Under limit l
from_places limit [] h = tt
from_places limit (x ∷ l) h = (h 0 (omega arith), from_places limit l (λ i b. h (suc i) (suc-le-suc b)))

subs_within : (s : List ℕ) (w m p : ℕ) (l : List Submesh) → SubmeshesSpell s w m p l → Each (SubmeshWithin m) l
subs_within s w m p [] e = tt
subs_within s w m p (x ∷ l) e = (
  record {
    texture = rw e.0.texture at (field_lt s p 8);
    mode = rw e.0.mode at (field_lt s (p + 8) 8);
    some = e.0.some;
    most = e.0.most;
    points = from_places m x.points e.0.run.below;
  },
  subs_within s w m (p + submesh_bits w x) l e.1,
)

rows_fit : (m : ℕ) (l : List Submesh) → Each (SubmeshWithin m) l → rows_all_fit (submesh_rows l) (length (all_points l)) ≡ true
unfolding submesh_rows all_points rows_all_fit row_fits
rows_fit m [] h = refl
rows_fit m (x ∷ l) h =
    let c : ℕ = length x.points in
    let n : length (x.points ++ all_points l) ≡ c + length (all_points l) = length-append x.points (all_points l) in
    let z : c + length (all_points l) - c ≡ length (all_points l) = omega arith in
    let r : row_within x.texture x.mode c ≡ true = limits_row x.texture x.mode c (record { texture = omega (arith, h.0.texture); mode = omega (arith, h.0.mode); some = h.0.some; most = h.0.most }) in
    rw (n, r, le-leb c (c + length (all_points l)) (omega arith), z) (rows_fit m l h.1)

both_under : (m : ℕ) (a b : List ℕ) → Under m a → Under m b → Under m (a ++ b)
both_under m [] b p q = q
both_under m (y ∷ a) b p q = (p.0, both_under m a b p.1 q)

points_under : (m : ℕ) (l : List Submesh) → Each (SubmeshWithin m) l → Under m (all_points l)
unfolding all_points
points_under m [] h = tt
points_under m (x ∷ l) h = both_under m x.points (all_points l) h.0.points (points_under m l h.1)

rows_long : (l : List Submesh) → length (submesh_rows l) ≡ 3 * length l
unfolding submesh_rows
rows_long [] = refl
rows_long (x ∷ l) = omega (arith, rows_long l)

spelled_mesh : (s : List ℕ) (x : Mesh) → MeshSpells s x → box_size x ≤ 67108864 → is_mesh (pool_table x) (coordinate_table x) (submesh_table x) (point_table x) ≡ true
spelled_mesh s x e b =
    let m : ℕ = mesh_vertices x in
    let w : Each (SubmeshWithin (mesh_vertices x)) x.submeshes = subs_within s (width_of (mesh_vertices x)) (mesh_vertices x) _ x.submeshes e.submeshes_run in
    passes (pool_table x) (coordinate_table x) (submesh_table x) (point_table x)
    (record {
      pool_some = e.pool_some;
      pool_most = e.pool_most;
      fives = omega (arith, e.fives);
      vertex_some = e.vertex_some;
      vertex_most = e.vertex_most;
      coordinates_below = under_below (length x.pool) x.vertices (from_places (length x.pool) x.vertices e.vertices_run.below);
      rows_some = omega (arith, rows_long x.submeshes, e.submesh_some);
      rows_fit = rows_fit (mesh_vertices x) x.submeshes w;
      points_below = under_below (mesh_vertices x) (point_table x) (points_under (mesh_vertices x) x.submeshes w);
      size = rw (mesh_back x) b;
    })

-- ---- the theorems

written_spells : (x : Mesh) (s : List ℕ) → Words32 x.pool → written_of x ≡ accepted s → MeshesSpell (x ∷ []) s
written_spells x s w e =
    let v = written_value (pool_table x) (coordinate_table x) (submesh_table x) (point_table x) s e in
    let h = mesh_within (pool_table x) (coordinate_table x) (submesh_table x) (point_table x) w v.0 in
    let i : Within x = subst Within (mesh_back x) h in
    let j : s ≡ mesh_box x = v.1 ∙ ap mesh_box (mesh_back x) in
    rw j (box_spells x i v.2)

written_back : (x : Mesh) (s : List ℕ) → PlainBox x s → MeshesSpell (x ∷ []) s → written_of x ≡ accepted s
written_back x s b e =
    let p : s ≡ mesh_box x = plain_box s x e b in
    let z : box_size x ≡ length s = plain_size s x e b in
    let i = spelled_mesh (drop 8 s) x (plain_body s x e b) (omega (arith, b.most)) in
    let f = tested_all finite_word (pool_table x) (plain_body s x e b).pool_finite in
    written_yes (pool_table x) (coordinate_table x) (submesh_table x) (point_table x) i f
    ∙ ap (λ (l : List ℕ). accepted l) (ap mesh_box (mesh_back x) ∙ sym p)

pub mesh_writes : MeshWrites
mesh_writes = writes_laws (λ x s. meshes_reads.reads (x ∷ []) s) written_spells written_back

pub tables_read : TablesRead
tables_read pool coordinates rows points s w e =
    let v = written_value pool coordinates rows points s e in
    let x : Mesh = tables_mesh pool coordinates rows points in
    let t = told pool coordinates rows points v.0 in
    let h = mesh_within pool coordinates rows points w v.0 in
    let b = tables_back rows points t.rows_fit in
    let f = spells_mesh (mesh_body (tables_mesh pool coordinates rows points)) (tables_mesh pool coordinates rows points) (body_spells (tables_mesh pool coordinates rows points) h v.2) in
    let l : length (mesh_body (tables_mesh pool coordinates rows points)) ≤ 67108864 = omega (arith, body_length (tables_mesh pool coordinates rows points), mesh_bits (tables_mesh pool coordinates rows points), t.size) in
    let d : drop 8 s ≡ mesh_body (tables_mesh pool coordinates rows points) = ap (drop 8) v.1 ∙ box_body (tables_mesh pool coordinates rows points) in
    record {
      mesh = tables_mesh pool coordinates rows points;
      size = rw v.1 (omega (arith, box_length (tables_mesh pool coordinates rows points), t.size));
      spells = rw v.1 (box_spells (tables_mesh pool coordinates rows points) h v.2);
      box_reads = rw v.1 ((meshes_reads.reads (tables_mesh pool coordinates rows points ∷ []) (mesh_box (tables_mesh pool coordinates rows points))).1 (box_spells (tables_mesh pool coordinates rows points) h v.2));
      body_reads = rw d (limited_yes (mesh_body (tables_mesh pool coordinates rows points)) _ l ∙ ap (mapped (λ y. y.0)) f.1);
      pool_same = refl;
      coordinates_same = refl;
      rows_same = b.0;
      points_same = b.1;
    }
