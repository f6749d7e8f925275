-- Rows of the submesh table: as a loop takes them, what those that fit make, and that they fit exactly where refusal 13 lets them pass.
use Rattle.std.proofs.Common.{◌≡◌, ℕ, zero, suc, ◌+◌, ◌-◌, ◌*◌, ◌/◌, ◌%◌, ◌<◌, ◌≤◌, Bool, true, false, cond, ◌&&◌, eqb, leb, List, [], ◌∷◌, ◌++◌, length, get_or, take, drop, sym, refl, ap, ◌∙◌, add-mul, mul-le-mul_left, arith, length-drop, length-take-le, eq-eqb, eqb-true, le-leb, leb-true}
use Rattle.bits.specs.Number.{width_of}
use Rattle.payload.specs.Mesh.{Submesh}
use Rattle.payload.specs.MeshSpells.{sizes, submesh_bits}
use Rattle.bits.proofs.VerdictLaws.{clash}
use Rattle.payload.specs.MeshWrite.{every, row_points, row_within, rows_within, submesh_fields, submeshes_fields, submeshes_of}
use Rattle.payload.specs.InternalWriting.{row_fits, rows_all_fit}
use Rattle.payload.proofs.RangeLaws.{width_small}
use Rattle.payload.proofs.MeshWriteLaws.{Each, SubmeshWithin, Under}

-- ---- tests together

pub not_so : {A : Type 0} → false ≡ true → A
not_so e = clash (cc)

pub every_inv : (b : Bool) (l : List Bool) → every (b ∷ l) ≡ true → (b ≡ true) × (every l ≡ true)
unfolding every
every_inv true l e = (refl, e)
every_inv false l e = not_so e

pub cond_inv : (a b : Bool) → cond a b false ≡ true → (a ≡ true) × (b ≡ true)
cond_inv true b e = (refl, e)
cond_inv false b e = not_so e

-- ---- a row

pub record RowLimits (t m c : ℕ) : Type 0 where
  pub texture : t ≤ 255
  pub mode : m ≤ 255
  pub some : 1 ≤ c
  pub most : c ≤ 128000

pub row_limits : (t m c : ℕ) → row_within t m c ≡ true → RowLimits t m c
unfolding row_within
row_limits t m c e =
    let a = every_inv (leb t 255) _ e in
    let b = every_inv (leb m 255) _ a.1 in
    let d = every_inv (leb 1 c) _ b.1 in
    let f = every_inv (leb c 128000) _ d.1 in
    record { texture = leb-true t 255 a.0; mode = leb-true m 255 b.0; some = leb-true 1 c d.0; most = leb-true c 128000 f.0 }

pub limits_row : (t m c : ℕ) → RowLimits t m c → row_within t m c ≡ true
unfolding row_within every
limits_row t m c r = rw (le-leb t 255 r.texture, le-leb m 255 r.mode, le-leb 1 c r.some, le-leb c 128000 r.most)

-- how `row_fits` answers
module _ (t m c left : ℕ) where
  pub row_tested : ((((leb t 255 && leb m 255) && leb 1 c) && leb c 128000) && leb c left) ≡ row_fits t m c left
  unfolding row_fits row_within every
  row_tested = go (leb t 255) (leb m 255) (leb 1 c) (leb c 128000) (leb c left)
    where
      go : (p q r s o : Bool) → ((((p && q) && r) && s) && o) ≡ cond (every (p ∷ q ∷ r ∷ s ∷ [])) o false
      go false q r s o = refl
      go true false r s o = refl
      go true true false s o = refl
      go true true true false o = refl
      go true true true true o = refl

  pub row_told : row_fits t m c left ≡ true → RowLimits t m c × (c ≤ left)
  unfolding row_fits
  row_told e =
      let q = cond_inv (row_within t m c) (leb c left) e in
      (row_limits t m c q.0, leb-true c left q.1)

-- ---- the first row of tables that fit

pub record FirstRow (l : List ℕ) (points : List ℕ) : Type 0 where
  pub long : 3 ≤ length l
  pub limits : RowLimits (get_or l 0 0) (get_or l 1 0) (get_or l 2 0)
  pub fits : get_or l 2 0 ≤ length points
  pub rest : rows_all_fit (drop 3 l) (length points - get_or l 2 0) ≡ true
  pub made : submeshes_of l points ≡ record { texture = get_or l 0 0; mode = get_or l 1 0; points = take (get_or l 2 0) points } ∷ submeshes_of (drop 3 l) (drop (get_or l 2 0) points)

pub first_row : (l points : List ℕ) → 0 < length l → rows_all_fit l (length points) ≡ true → FirstRow l points
unfolding rows_all_fit submeshes_of
first_row [] points h e = absurd (omega arith)
first_row (t ∷ []) points h e = not_so e
first_row (t ∷ m ∷ []) points h e = not_so e
first_row (t ∷ m ∷ c ∷ more) points h e =
    let q = cond_inv (row_fits t m c (length points)) (rows_all_fit more (length points - c)) e in
    let r = row_told t m c (length points) q.0 in
    record { long = omega arith; limits = r.0; fits = r.1; rest = q.1; made = refl }

-- the first row, as a loop takes it off what is left
pub record RowTaken (l row more points : List ℕ) : Type 0 where
  pub fits : get_or row 2 0 ≤ length points
  pub rest : rows_all_fit more (length (drop (get_or row 2 0) points)) ≡ true
  pub made : submeshes_of l points
      ≡ record { texture = get_or row 0 0; mode = get_or row 1 0; points = take (get_or row 2 0) points }
      ∷ submeshes_of more (drop (get_or row 2 0) points)

pub row_first : {l : List ℕ} (row more points : List ℕ) → l ≡ row ++ more → length row ≡ 3
    → rows_all_fit l (length points) ≡ true → RowTaken l row more points
row_first {l} row more points e h f = rw e (go row h (rw e at f))
  where
    go : (row : List ℕ) → length row ≡ 3 → rows_all_fit (row ++ more) (length points) ≡ true
        → RowTaken (row ++ more) row more points
    go [] h f = absurd (omega arith)
    go (t ∷ []) h f = absurd (omega arith)
    go (t ∷ m ∷ []) h f = absurd (omega arith)
    go (t ∷ m ∷ c ∷ []) h f =
        let r = first_row (t ∷ m ∷ c ∷ more) points (omega arith) f in
        record { fits = r.fits; rest = rw length-drop r.rest; made = r.made }
    go (t ∷ m ∷ c ∷ x ∷ l) h f = absurd (omega arith)

pub subs_first : (w : ℕ) (x : Submesh) (l k : List Submesh) → k ≡ x ∷ l → submeshes_fields w k ≡ submesh_fields w x ++ submeshes_fields w l
unfolding submeshes_fields
subs_first w x l k e = rw e

pub rows_end : (w : ℕ) (l points : List ℕ) (n : ℕ) → length l < 3 → rows_all_fit l n ≡ true
    → submeshes_fields w (submeshes_of l points) ≡ []
unfolding submeshes_fields submeshes_of rows_all_fit
rows_end w [] points n h e = refl
rows_end w (t ∷ []) points n h e = not_so e
rows_end w (t ∷ m ∷ []) points n h e = not_so e
rows_end w (t ∷ m ∷ c ∷ l) points n h e = absurd (omega arith)

-- the first row, as a loop takes it
pub row_taken : {l : List ℕ} (row more : List ℕ) (left : ℕ) → l ≡ row ++ more → length row ≡ 3
    → rows_all_fit l left
    ≡ cond (row_fits (get_or row 0 0) (get_or row 1 0) (get_or row 2 0) left)
    (rows_all_fit more (left - get_or row 2 0)) false
unfolding rows_all_fit
row_taken {l} row more left e h = ap (λ (k : List ℕ). rows_all_fit k left) e ∙ go row h
  where
    go : (row : List ℕ) → length row ≡ 3 → rows_all_fit (row ++ more) left
        ≡ cond (row_fits (get_or row 0 0) (get_or row 1 0) (get_or row 2 0) left)
        (rows_all_fit more (left - get_or row 2 0)) false
    go [] h = absurd (omega arith)
    go (t ∷ []) h = absurd (omega arith)
    go (t ∷ m ∷ []) h = absurd (omega arith)
    go (t ∷ m ∷ c ∷ []) h = refl
    go (t ∷ m ∷ c ∷ x ∷ l) h = absurd (omega arith)

-- and once all are taken
pub rows_done : (l : List ℕ) (left : ℕ) → length l % 3 ≡ 0 → length l < 3 → rows_all_fit l left ≡ eqb left 0
unfolding rows_all_fit
rows_done [] left h k = refl
rows_done (t ∷ []) left h k = absurd (omega arith)
rows_done (t ∷ m ∷ []) left h k = absurd (omega arith)
rows_done (t ∷ m ∷ c ∷ l) left h k = absurd (omega arith)

-- ---- what rows that fit are made of

all_take : (limit n : ℕ) (l : List ℕ) → Under limit l → Under limit (take n l)
all_take limit zero l h = tt
all_take limit (suc n) [] h = tt
all_take limit (suc n) (x ∷ l) h = (h.0, all_take limit n l h.1)

all_drop : (limit n : ℕ) (l : List ℕ) → Under limit l → Under limit (drop n l)
all_drop limit zero l h = h
all_drop limit (suc n) [] h = tt
all_drop limit (suc n) (x ∷ l) h = all_drop limit n l h.1

-- what rows that fit are made of
pub record Rows (m : ℕ) (l points : List ℕ) : Type 0 where
  pub count : 3 * length (submeshes_of l points) ≡ length l
  pub size : (w : ℕ) → sizes (submesh_bits w) (submeshes_of l points) ≡ 48 * length (submeshes_of l points) + length points * w
  pub within : Under m points → Each (SubmeshWithin m) (submeshes_of l points)

pub rows_made : (m : ℕ) (l points : List ℕ) → rows_all_fit l (length points) ≡ true → Rows m l points
unfolding rows_all_fit submeshes_of
rows_made m [] points e =
    let z : length points ≡ 0 = eqb-true (length points) 0 e in
    record { count = refl; size = λ w. rw z (omega arith); within = λ b. tt }
rows_made m (t ∷ []) points e = not_so e
rows_made m (t ∷ u ∷ []) points e = not_so e
rows_made m (t ∷ u ∷ c ∷ more) points e =
    let r = first_row (t ∷ u ∷ c ∷ more) points (omega arith) e in
    let d : length (drop c points) ≡ length points - c = length-drop c points in
    let k : length (take c points) ≡ c = length-take-le c points r.fits in
    let ih = rows_made m more (drop c points) (rw d r.rest) in
    record {
      count = omega (arith, ih.count);
      size = λ w. let p : length points * w ≡ c * w + (length points - c) * w = split (length points) c w r.fits in omega (arith, ih.size w, ap (λ (x : ℕ). x * w) k, ap (λ (x : ℕ). x * w) d);
      within = λ b.
          (record { texture = omega (arith, r.limits.texture); mode = omega (arith, r.limits.mode); some = omega (arith, r.limits.some); most = omega (arith, r.limits.most); points = all_take m c points b }, ih.within (all_drop m c points b));
    }
  where
    split : (a c w : ℕ) → c ≤ a → a * w ≡ c * w + (a - c) * w
    split a c w h = let z : a ≡ c + (a - c) = omega arith in ap (λ (x : ℕ). x * w) z ∙ add-mul c (a - c) w

pub rows_count : (l points : List ℕ) → rows_all_fit l (length points) ≡ true → length (submeshes_of l points) ≡ length l / 3
rows_count l points e = omega (arith, (rows_made 0 l points e).count)

-- ---- they fit exactly where they are whole threes, within the limits, and add up to the points

pub record RowsRight (l : List ℕ) (n : ℕ) : Type 0 where
  pub threes : length l % 3 ≡ 0
  pub limits : rows_within l ≡ true
  pub total : row_points l ≡ n

pub rows_told : (l : List ℕ) (n : ℕ) → rows_all_fit l n ≡ true → RowsRight l n
unfolding rows_all_fit row_points rows_within
rows_told [] n e = record { threes = refl; limits = refl; total = sym (eqb-true n 0 e) }
rows_told (t ∷ []) n e = not_so e
rows_told (t ∷ m ∷ []) n e = not_so e
rows_told (t ∷ m ∷ c ∷ more) n e =
    let q = cond_inv (row_fits t m c n) (rows_all_fit more (n - c)) e in
    let r = row_told t m c n q.0 in
    let ih = rows_told more (n - c) q.1 in
    record { threes = omega (arith, ih.threes); limits = rw (limits_row t m c r.0) ih.limits; total = omega (arith, ih.total, r.1) }

pub rows_right : (l : List ℕ) (n : ℕ) → RowsRight l n → rows_all_fit l n ≡ true
unfolding rows_all_fit row_fits row_points rows_within
rows_right [] n h = eq-eqb n 0 (sym h.total)
rows_right (t ∷ []) n h = absurd (omega (arith, h.threes))
rows_right (t ∷ m ∷ []) n h = absurd (omega (arith, h.threes))
rows_right (t ∷ m ∷ c ∷ more) n h =
    let q = cond_inv (row_within t m c) (rows_within more) h.limits in
    let ih = rows_right more (n - c) (record { threes = omega (arith, h.threes); limits = q.1; total = omega (arith, h.total) }) in
    rw (q.0, le-leb c n (omega (arith, h.total))) ih

-- words that are no whole threes
pub rows_torn : (l : List ℕ) (n : ℕ) → (length l % 3 ≡ 0 → ⊥) → rows_all_fit l n ≡ false
rows_torn l n h = go (rows_all_fit l n) (λ e. h (rows_told l n e).threes)
  where
    go : (b : Bool) → (b ≡ true → ⊥) → b ≡ false
    go true k = absurd (k refl)
    go false k = refl

-- ---- widths

pub width_fits : (c : ℕ) → c ≤ 32000 → width_of c ≤ 32
width_fits c h = omega (arith, width_small c h)

-- a run of numbers of width a
pub run_most : (n limit a : ℕ) → limit ≤ 32000 → a ≡ width_of limit → n * a ≤ 16 * n
run_most n limit a h e =
    let w : a ≤ 16 = rw e (width_small limit h) in
    omega (arith, mul-le-mul_left n w)
