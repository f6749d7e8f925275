-- Judging four tables: the size by a formula, what the tests tell, and that they pass exactly where the tables are a mesh within the rules.
use Rattle.std.proofs.Common.{◌≡◌, ℕ, suc, ◌*◌, ◌/◌, ◌%◌, ◌^◌, ◌<◌, ◌≤◌, Bool, true, false, cond, ◌&&◌, eqb, ltb, leb, List, [], ◌∷◌, length, sym, refl, ap, ◌∙◌, mul-le-mul_left, arith, ltb-true, lt-ltb, eq-eqb, eqb-true, le-leb, leb-true}
use mathlib.Core.List.Memᴰ
use Rattle.std.specs.List.{fold}
use Rattle.bits.specs.Number.{width_of}
use Rattle.bits.specs.Verdict.{accepted, declined, mapped}
use Rattle.bits.proofs.VerdictLaws.{both_true, tested_value}
use Rattle.payload.specs.Laws.{Words32}
use Rattle.payload.specs.Mesh.{Mesh}
use Rattle.payload.specs.Float.{finite_word, AllFinite}
use Rattle.payload.specs.MeshWrite.{all_of, all_below, box_size, every, is_mesh, mesh_box, mesh_written, tables_mesh}
use Rattle.payload.specs.InternalWriting.{counts_fit, lengths_fit, rows_all_fit, size_of}
use Rattle.payload.proofs.AllLaws.{All, nil_all, cons_all}
use Rattle.payload.proofs.BoxLaws.{box_length}
use Rattle.payload.proofs.RangeLaws.{width_some}
use Rattle.payload.proofs.MeshWriteLaws.{Under, Within, mesh_bits}
use Rattle.payload.proofs.RowLaws.{cond_inv, every_inv, not_so, rows_count, rows_made, rows_right, rows_told}

-- ---- the size

pub size_is : (pool coordinates rows points : List ℕ) → rows_all_fit rows (length points) ≡ true
    → box_size (tables_mesh pool coordinates rows points) ≡ size_of (length pool) (length coordinates) (length coordinates / 5) (length rows / 3) (length points)
size_is pool coordinates rows points e =
    let x : Mesh = tables_mesh pool coordinates rows points in
    let r = rows_made 0 rows points e in
    omega (arith, mesh_bits x, r.size (width_of (length coordinates / 5)), rows_count rows points e)

pub points_least : (q m : ℕ) → 1 ≤ m → q ≤ q * width_of m
points_least q m h = let p : q * 1 ≤ q * width_of m = mul-le-mul_left q (width_some m h) in omega arith

-- ---- a test of every number

module _ (test : ℕ → Bool) where
  -- a fold that looks at all of them
  pub all_folded : (l : List ℕ) → fold (λ b x. b && test x) true l ≡ all_of test l
  unfolding all_of
  all_folded [] = refl
  all_folded (x ∷ l) = go (test x) (all_folded l)
    where
      lost : (l : List ℕ) → fold (λ b x. b && test x) false l ≡ false
      lost [] = refl
      lost (y ∷ l) = lost l

      go : (b : Bool) → fold (λ b x. b && test x) true l ≡ all_of test l
          → fold (λ b x. b && test x) b l ≡ cond b (all_of test l) false
      go true e = e
      go false e = lost l

  pub all_tested : (l : List ℕ) → all_of test l ≡ true → All (λ x. test x ≡ true) l
  unfolding all_of
  all_tested [] e = nil_all (λ x. test x ≡ true)
  all_tested (x ∷ l) e =
      let q = cond_inv (test x) (all_of test l) e in cons_all (λ x. test x ≡ true) q.0 (all_tested l q.1)

  pub tested_all : (l : List ℕ) → All (λ x. test x ≡ true) l → all_of test l ≡ true
  unfolding all_of
  tested_all [] h = refl
  tested_all (x ∷ l) h = rw (h x (Memᴰ.head refl)) (tested_all l (λ y k. h y (Memᴰ.tail k)))

-- ---- numbers below a limit

pub below_under : (limit : ℕ) (l : List ℕ) → all_below limit l ≡ true → Under limit l
unfolding all_of
below_under limit [] e = tt
below_under limit (x ∷ l) e =
    let q = cond_inv (ltb x limit) (all_below limit l) e in
    (ltb-true x limit q.0, below_under limit l q.1)

pub under_below : (limit : ℕ) (l : List ℕ) → Under limit l → all_below limit l ≡ true
unfolding all_of
under_below limit [] h = refl
under_below limit (x ∷ l) h = rw (lt-ltb x limit h.0) (under_below limit l h.1)

pub under_words : (l : List ℕ) → Words32 l → Under (2 ^ 32) l
under_words [] h = tt
under_words (x ∷ l) h = (h 0, under_words l (λ k. h (suc k)))

-- ---- the tests

-- what they tell
pub record Told (pool coordinates rows points : List ℕ) : Type 0 where
  pub pool_some : 1 ≤ length pool
  pub pool_most : length pool ≤ 10000
  pub fives : length coordinates % 5 ≡ 0
  pub vertex_some : 1 ≤ length coordinates / 5
  pub vertex_most : length coordinates / 5 ≤ 32000
  pub coordinates_below : all_below (length pool) coordinates ≡ true
  pub rows_some : 1 ≤ length rows
  pub rows_fit : rows_all_fit rows (length points) ≡ true
  pub points_below : all_below (length coordinates / 5) points ≡ true
  pub size : box_size (tables_mesh pool coordinates rows points) ≤ 67108864

module _ (pool coordinates rows points : List ℕ) where
  pub told : is_mesh pool coordinates rows points ≡ true → Told pool coordinates rows points
  unfolding is_mesh
  told e =
      let a = every_inv _ _ e in
      let b = every_inv _ _ a.1 in
      let d = every_inv _ _ b.1 in
      let f = every_inv _ _ d.1 in
      let g = every_inv _ _ f.1 in
      let h = every_inv _ _ g.1 in
      let i = every_inv _ _ h.1 in
      let j = every_inv _ _ i.1 in
      let k = every_inv _ _ j.1 in
      let l = every_inv _ _ k.1 in
      let m = every_inv _ _ l.1 in
      let n = every_inv _ _ m.1 in
      record {
        pool_some = leb-true _ _ a.0;
        pool_most = leb-true _ _ b.0;
        fives = eqb-true _ _ d.0;
        vertex_some = leb-true _ _ f.0;
        vertex_most = leb-true _ _ g.0;
        coordinates_below = h.0;
        rows_some = leb-true _ _ i.0;
        rows_fit = rows_right rows (length points) (record { threes = eqb-true _ _ j.0; limits = k.0; total = eqb-true _ _ l.0 });
        points_below = m.0;
        size = leb-true _ _ n.0;
      }

  pub passes : Told pool coordinates rows points → is_mesh pool coordinates rows points ≡ true
  unfolding is_mesh every
  passes t =
      let r = rows_told rows (length points) t.rows_fit in
      rw (
        le-leb _ _ t.pool_some,
        le-leb _ _ t.pool_most,
        eq-eqb _ _ t.fives,
        le-leb _ _ t.vertex_some,
        le-leb _ _ t.vertex_most,
        t.coordinates_below,
        le-leb _ _ t.rows_some,
        eq-eqb _ _ r.threes,
        r.limits,
        eq-eqb _ _ r.total,
        t.points_below,
        le-leb _ _ t.size,
      )

  -- tables that pass are a mesh within the rules
  pub mesh_within : Words32 pool → is_mesh pool coordinates rows points ≡ true → Within (tables_mesh pool coordinates rows points)
  mesh_within w e =
      let t = told e in
      let r = rows_made (length coordinates / 5) rows points t.rows_fit in
      record {
        pool_some = t.pool_some;
        pool_most = t.pool_most;
        words = under_words pool w;
        fives = omega (arith, t.fives);
        vertex_some = t.vertex_some;
        vertex_most = t.vertex_most;
        vertices = below_under _ _ t.coordinates_below;
        submesh_some = omega (arith, t.rows_some, r.count);
        submeshes = r.within (below_under _ _ t.points_below);
        size = t.size;
      }

  -- ---- what is written

  pub written_yes : is_mesh pool coordinates rows points ≡ true → all_of finite_word pool ≡ true
      → mesh_written pool coordinates rows points ≡ accepted (mesh_box (tables_mesh pool coordinates rows points))
  unfolding mesh_written
  written_yes e f = rw (e, f)

  pub written_other : is_mesh pool coordinates rows points ≡ true → all_of finite_word pool ≡ false
      → mesh_written pool coordinates rows points ≡ declined 17
  unfolding mesh_written
  written_other e f = rw (e, f)

  pub written_no : is_mesh pool coordinates rows points ≡ false → mesh_written pool coordinates rows points ≡ declined 13
  unfolding mesh_written
  written_no e = rw e

  pub written_value : (s : List ℕ) → mesh_written pool coordinates rows points ≡ accepted s
      → (is_mesh pool coordinates rows points ≡ true) × (s ≡ mesh_box (tables_mesh pool coordinates rows points))
      × AllFinite pool
  unfolding mesh_written
  written_value s e =
      let t = tested_value (is_mesh pool coordinates rows points) _ 13 s e in
      let u = tested_value (all_of finite_word pool) (accepted (mesh_box (tables_mesh pool coordinates rows points))) 17 s t.1 in
      let d = u.1 in
      (t.0, cc, all_tested finite_word pool u.0)

-- ---- one test that fails, as `judge` finds it

refuse : (b : Bool) → (b ≡ true → ⊥) → b ≡ false
refuse true h = absurd (h refl)
refuse false h = refl

clash : (b : Bool) → b ≡ true → b ≡ false → ⊥
clash b e f = not_so (sym f ∙ e)

module _ (pool coordinates rows points : List ℕ) where
  abbrev Declines : Type 0
  Declines = declined 13 ≡ mapped length (mesh_written pool coordinates rows points)

  -- whatever contradicts what the tests tell
  pub judged_not : (Told pool coordinates rows points → ⊥) → Declines
  judged_not h =
      ap (mapped length) (sym (written_no pool coordinates rows points
      (refuse (is_mesh pool coordinates rows points) (λ e. h (told pool coordinates rows points e)))))

  pub counts_no : counts_fit (length pool) (length coordinates) (length rows) ≡ false → Declines
  unfolding counts_fit
  counts_no f =
      judged_not (λ t.
      clash _
      (simp (
        le-leb 1 (length pool) t.pool_some,
        le-leb (length pool) 10000 t.pool_most,
        eq-eqb (length coordinates % 5) 0 t.fives,
        le-leb 1 (length coordinates / 5) t.vertex_some,
        le-leb (length coordinates / 5) 32000 t.vertex_most,
        le-leb 1 (length rows) t.rows_some,
      )) f)

  pub rows_no : rows_all_fit rows (length points) ≡ false → Declines
  rows_no f = judged_not (λ t. clash _ t.rows_fit f)

  pub lengths_no : lengths_fit (length rows) (length points) ≡ false → Declines
  unfolding lengths_fit
  lengths_no f =
      judged_not (λ t.
      let s = size_is pool coordinates rows points t.rows_fit in
      let l = points_least (length points) (length coordinates / 5) t.vertex_some in
      clash _
      (simp (
        le-leb (length rows) 67108864 (omega (arith, s, t.size)),
        le-leb (length points) 536870912 (omega (arith, s, l, t.size)),
      )) f)

  pub size_no : (size : ℕ) → rows_all_fit rows (length points) ≡ true
      → size ≡ size_of (length pool) (length coordinates) (length coordinates / 5) (length rows / 3) (length points)
      → 67108864 < size → Declines
  size_no size r s h = judged_not (λ t. omega (arith, t.size, size_is pool coordinates rows points r))

  pub coordinates_no : all_below (length pool) coordinates ≡ false → Declines
  coordinates_no f = judged_not (λ t. clash _ t.coordinates_below f)

  pub points_no : all_below (length coordinates / 5) points ≡ false → Declines
  points_no f = judged_not (λ t. clash _ t.points_below f)

-- ---- and all that pass

pub record Counts (n v k : ℕ) : Type 0 where
  pub pool_some : 1 ≤ n
  pub pool_most : n ≤ 10000
  pub fives : v % 5 ≡ 0
  pub vertex_some : 1 ≤ v / 5
  pub vertex_most : v / 5 ≤ 32000
  pub rows_some : 1 ≤ k

pub counts_told : (n v k : ℕ) → counts_fit n v k ≡ true → Counts n v k
unfolding counts_fit
counts_told n v k e =
    let a = both_true ((((leb 1 n && leb n 10000) && eqb (v % 5) 0) && leb 1 (v / 5)) && leb (v / 5) 32000) (leb 1 k) e in
    let b = both_true (((leb 1 n && leb n 10000) && eqb (v % 5) 0) && leb 1 (v / 5)) (leb (v / 5) 32000) a.0 in
    let d = both_true ((leb 1 n && leb n 10000) && eqb (v % 5) 0) (leb 1 (v / 5)) b.0 in
    let f = both_true (leb 1 n && leb n 10000) (eqb (v % 5) 0) d.0 in
    let g = both_true (leb 1 n) (leb n 10000) f.0 in
    record { pool_some = leb-true 1 n g.0; pool_most = leb-true n 10000 g.1; fives = eqb-true (v % 5) 0 f.1; vertex_some = leb-true 1 (v / 5) d.1; vertex_most = leb-true (v / 5) 32000 b.1; rows_some = leb-true 1 k a.1 }

pub lengths_told : (k q : ℕ) → lengths_fit k q ≡ true → (k ≤ 67108864) × (q ≤ 536870912)
unfolding lengths_fit
lengths_told k q e =
    let a = both_true (leb k 67108864) (leb q 536870912) e in
    (leb-true k 67108864 a.0, leb-true q 536870912 a.1)

module _ (pool coordinates rows points : List ℕ) (size : ℕ) (r : rows_all_fit rows (length points) ≡ true)
    (s : size ≡ size_of (length pool) (length coordinates) (length coordinates / 5) (length rows / 3) (length points))
    (c : counts_fit (length pool) (length coordinates) (length rows) ≡ true) (most : size ≤ 67108864)
    (a : all_below (length pool) coordinates ≡ true) (b : all_below (length coordinates / 5) points ≡ true) where
  pub box_told : size ≡ box_size (tables_mesh pool coordinates rows points)
  box_told = s ∙ sym (size_is pool coordinates rows points r)

  pub all_told : is_mesh pool coordinates rows points ≡ true
  all_told =
      let t = counts_told (length pool) (length coordinates) (length rows) c in
      let n = box_told in
      passes pool coordinates rows points
      (record {
        pool_some = t.pool_some;
        pool_most = t.pool_most;
        fives = t.fives;
        vertex_some = t.vertex_some;
        vertex_most = t.vertex_most;
        coordinates_below = a;
        rows_some = t.rows_some;
        rows_fit = r;
        points_below = b;
        size = rw (← n) most;
      })

  pub not_finite : all_of finite_word pool ≡ false → declined 17 ≡ mapped length (mesh_written pool coordinates rows points)
  not_finite f = ap (mapped length) (sym (written_other pool coordinates rows points all_told f))

  pub all_passed : all_of finite_word pool ≡ true → accepted size ≡ mapped length (mesh_written pool coordinates rows points)
  all_passed f =
      ap accepted (box_told ∙ sym (box_length (tables_mesh pool coordinates rows points)))
      ∙ ap (mapped length) (sym (written_yes pool coordinates rows points all_told f))
