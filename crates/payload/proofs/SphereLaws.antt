-- Laws of the sphere's grid: what a usable grid is, its rows by the corners of their first cell, the lengths of its lists, and the ways through what the calls put into a buffer. Assumes nothing.
use Rattle.std.proofs.Common.{◌≡◌, ℕ, zero, suc, ◌+◌, ◌-◌, ◌*◌, ◌<◌, ◌≤◌, Bool, true, false, cond, ◌&&◌, eqb, leb, [], ◌∷◌, ◌++◌, length, sym, refl, ap, ◌∙◌, ap₂, mul-le-mul_right, mul_assoc, suc-mul, mul_comm, add-mul, mul-le-mul, mul-le-mul_left, mul-add, add-one, arith, length-append, eq-eqb, ne_eqb, eqb-true, leb-true, le-leb}
use mathlib.Core.Bool.{and-eq-true_iff, and-true, and-false}
use lib.Dec.{leb-suc-suc}
use lib.Ieee.{eq}
use mir.Val.{bool_byte}
use Rattle.bits.specs.Verdict.{accepted, declined}
use Rattle.bits.specs.Says.{number_of}
use Rattle.bits.specs.declared.refusals.Refusal.{Refusal}
use Rattle.bits.specs.declared.refusals.Refusal.TheVariants as R
use Rattle.payload.specs.Fill.{each}
use Rattle.payload.specs.Float.{f0}
use Rattle.payload.specs.Crop.{usable}
use Rattle.payload.specs.Sphere.{grid_usable, upper_triangle, lower_triangle, grid_cell, grid_row, grid_triangles, sphere_numbers, grid_uv, uv_row, grid_uvs, sphere_uvs}
use Rattle.payload.specs.InternalSphere.{shifted, cell_on}
use Rattle.payload.specs.declared.crop.Bounds.{Bounds}
use Rattle.payload.proofs.FillLaws.{each_same, each-length}

-- ---- the grid

module _ (rings sectors : ℕ) where
  vertices : (rings + 1) * (sectors + 1) ≡ suc (rings * (sectors + 1) + sectors)
  vertices = rw (add-one rings, suc-mul) (omega arith)

  -- at most 65,536 vertices: the number of the last one is at most 65,535
  pub last_vertex : leb (rings * (sectors + 1) + sectors) 65535 ≡ leb ((rings + 1) * (sectors + 1)) 65536
  last_vertex = sym (rw vertices (leb-suc-suc (rings * (sectors + 1) + sectors) 65535))

  pub usable_grid : grid_usable rings sectors ≡ true → (2 ≤ rings) × (3 ≤ sectors) × ((rings + 1) * (sectors + 1) ≤ 65536)
  unfolding grid_usable
  usable_grid h =
      let p = (and-eq-true_iff (leb 2 rings && leb 3 sectors) (leb ((rings + 1) * (sectors + 1)) 65536)).0 h in
      let q = (and-eq-true_iff (leb 2 rings) (leb 3 sectors)).0 p.0 in (
        leb-true 2 rings q.0,
        leb-true 3 sectors q.1,
        leb-true ((rings + 1) * (sectors + 1)) 65536 p.1,
      )

  pub usable_yes : 2 ≤ rings → 3 ≤ sectors → rings * (sectors + 1) + sectors ≤ 65535 → grid_usable rings sectors ≡ true
  unfolding grid_usable
  usable_yes h k l = rw (← last_vertex, le-leb 2 rings h, le-leb 3 sectors k, le-leb _ 65535 l)

  pub usable_no : (2 ≤ rings → 3 ≤ sectors → rings * (sectors + 1) + sectors ≤ 65535 → ⊥) → grid_usable rings sectors ≡ false
  usable_no h = go (grid_usable rings sectors) refl
    where
      go : (b : Bool) → grid_usable rings sectors ≡ b → b ≡ false
      go true e = let u = usable_grid e in let v = vertices in absurd (h u.0 u.1 (omega arith))
      go false e = refl

  pub sides_fit : grid_usable rings sectors ≡ true → (rings < 65536) × (sectors < 65536)
  sides_fit u =
      let l : (rings + 1) * 1 ≤ (rings + 1) * (sectors + 1) = mul-le-mul_left (rings + 1) (omega arith) in
      let r : 1 * (sectors + 1) ≤ (rings + 1) * (sectors + 1) = mul-le-mul_right (sectors + 1) (omega arith) in
      (omega (arith, l, usable_grid u), omega (arith, r, usable_grid u))

  -- the numbers of a ring and of the next one
  pub ring_fits : (ring : ℕ) → grid_usable rings sectors ≡ true → ring < rings → ring * (sectors + 1) + 2 * (sectors + 1) ≤ 65536
  ring_fits ring u h =
      let m : (ring + 2) * (sectors + 1) ≤ (rings + 1) * (sectors + 1) = mul-le-mul_right (sectors + 1) (omega arith) in
      omega (arith, m, add-mul ring 2 (sectors + 1), (usable_grid u).2)

  pub cells_fit : grid_usable rings sectors ≡ true → 6 * rings * sectors ≤ 6 * 65536
  cells_fit u =
      let m : rings * sectors ≤ (rings + 1) * (sectors + 1) = mul-le-mul (omega arith) (omega arith) in
      omega (arith, m, (usable_grid u).2, mul_assoc 6 rings sectors)

-- ---- rows

-- whether a pole is touched: the flag where m and n are equal, false where not
touched : (b : Bool) (m n : ℕ) → m ≡ n → (b && eqb m n) ≡ b
touched b m n e = rw (eq-eqb m n e) (and-true b)

apart : (b : Bool) (m n : ℕ) → (m ≡ n → ⊥) → (b && eqb m n) ≡ false
apart b m n e = rw (ne_eqb m n e) (and-false b)

-- the numbers of a row's triangles, from those of its first cell on
module _ (sectors ring : ℕ) where
  next : (ring + 1) * (sectors + 1) ≡ ring * (sectors + 1) + (sectors + 1)
  next = rw (add-one ring, suc-mul)

  three : {x y z x' y' z' : ℕ} → x ≡ x' → y ≡ y' → z ≡ z' → (x ∷ y ∷ z ∷ []) ≡ (x' ∷ y' ∷ z' ∷ [])
  three p q r = cc

  upper : (a d b i : ℕ) → a ≡ ring * (sectors + 1) → d ≡ a + (sectors + 1) + 1 → b ≡ a + 1 → shifted a d b i ≡ upper_triangle sectors ring i
  upper a d b i ea ed eb = let n = next in three (omega arith) (omega arith) (omega arith)

  lower : (a c d i : ℕ) → a ≡ ring * (sectors + 1) → c ≡ a + (sectors + 1) → d ≡ c + 1 → shifted a c d i ≡ lower_triangle sectors ring i
  lower a c d i ea ec ed = let n = next in three (omega arith) (omega arith) (omega arith)

module _ (rings sectors ring : ℕ) (zenith nadir : Bool) where
  module _ (a : ℕ) (first : a ≡ ring * (sectors + 1)) where
    pub row_zenith : (zenith && eqb ring 0) ≡ true → 2 ≤ rings
        → each (shifted a (a + 1 + sectors) (a + 1 + sectors + 1)) sectors ≡ grid_row rings sectors zenith nadir ring
    unfolding grid_row grid_cell
    row_zenith z h =
        let e : ring ≡ 0 = eqb-true ring 0 ((and-eq-true_iff zenith (eqb ring 0)).0 z).1 in
        let n = apart nadir (ring + 1) rings (λ p. omega arith) in
        each_same _ (grid_cell rings sectors zenith nadir ring)
        (λ i. rw (z, n) (lower sectors ring a _ _ i first (omega arith) (omega arith))) sectors

    pub row_nadir : (zenith && eqb ring 0) ≡ false → (nadir && eqb (ring + 1) rings) ≡ true
        → each (shifted a (a + 1 + sectors + 1) (a + 1)) sectors ≡ grid_row rings sectors zenith nadir ring
    unfolding grid_row grid_cell
    row_nadir z n =
        each_same _ (grid_cell rings sectors zenith nadir ring)
        (λ i. rw (z, n) (upper sectors ring a _ _ i first (omega arith) refl)) sectors

    pub row_whole : (zenith && eqb ring 0) ≡ false → (nadir && eqb (ring + 1) rings) ≡ false
        → each (cell_on a (a + 1) (a + 1 + sectors) (a + 1 + sectors + 1)) sectors
        ≡ grid_row rings sectors zenith nadir ring
    unfolding grid_row grid_cell
    row_whole z n =
        each_same _ (grid_cell rings sectors zenith nadir ring)
        (λ i. rw (z, n)
        (ap₂ ◌++◌ (upper sectors ring a _ _ i first (omega arith) refl)
        (lower sectors ring a _ _ i first (omega arith) (omega arith)))) sectors

-- ---- lengths

-- a triangle that is left out where p says so, a cell of two such, and n triangles
triangle-length : (p : Bool) (x y z : ℕ) → length (cond p [] (x ∷ y ∷ z ∷ [])) ≡ 3 - 3 * bool_byte p
triangle-length true x y z = refl
triangle-length false x y z = refl

cell-length : (p q : Bool) (x y z x' y' z' : ℕ) → length (cond p [] (x ∷ y ∷ z ∷ []) ++ cond q [] (x' ∷ y' ∷ z' ∷ [])) ≡ 3 - 3 * bool_byte p + (3 - 3 * bool_byte q)
cell-length p q x y z x' y' z' = length-append (cond p [] (x ∷ y ∷ z ∷ [])) (cond q [] (x' ∷ y' ∷ z' ∷ [])) ∙ ap₂ ◌+◌ (triangle-length p x y z) (triangle-length q x' y' z')

triangles_less : (p : Bool) (n : ℕ) → n * (3 - 3 * bool_byte p) + 3 * n * bool_byte p ≡ 3 * n
triangles_less true n = omega arith
triangles_less false n = omega arith

at_most_one : (p : Bool) → bool_byte p ≤ 1
at_most_one true = omega arith
at_most_one false = omega arith

module _ (sectors : ℕ) (zenith nadir : Bool) where
  row_length : (rings ring : ℕ) (p q : Bool) → (zenith && eqb ring 0) ≡ p → (nadir && eqb (ring + 1) rings) ≡ q
      → length (grid_row rings sectors zenith nadir ring) + 3 * sectors * bool_byte p + 3 * sectors * bool_byte q ≡ 6 * sectors
  unfolding grid_row grid_cell
  row_length rings ring p q ep eq =
      let j = 3 - 3 * bool_byte p in
      let k = 3 - 3 * bool_byte q in
      let e = each-length (grid_cell rings sectors zenith nadir ring) (j + k) (λ i. rw (ep, eq) (cell-length p q _ _ _ _ _ _)) sectors in
      omega (arith, e, mul-add sectors j k, triangles_less p sectors, triangles_less q sectors)

  -- the rows above the last one
  rows_above : (rings n : ℕ) → suc n < rings → length (each (grid_row rings sectors zenith nadir) (suc n)) + 3 * sectors * bool_byte zenith ≡ suc n * (6 * sectors)
  unfolding each
  rows_above rings zero h =
      let r = row_length rings 0 zenith false (touched zenith 0 0 refl) (apart nadir 1 rings (λ p. omega arith)) in
      omega arith
  rows_above rings (suc n) h =
      let r = row_length rings (suc n) false false (apart zenith (suc n) 0 (λ p. omega arith)) (apart nadir (suc n + 1) rings (λ p. omega arith)) in
      omega (
        arith,
        r,
        rows_above rings n (omega arith),
        suc-mul (suc n) (6 * sectors),
        length-append (each (grid_row rings sectors zenith nadir) (suc n)) (grid_row rings sectors zenith nadir (suc n)),
      )

  rows_all : (n : ℕ) → length (each (grid_row (suc n) sectors zenith nadir) (suc n)) + 3 * sectors * bool_byte zenith + 3 * sectors * bool_byte nadir ≡ suc n * (6 * sectors)
  unfolding each
  rows_all zero =
      let r = row_length 1 0 zenith nadir (touched zenith 0 0 refl) (touched nadir 1 1 refl) in
      omega arith
  rows_all (suc n) =
      let k = suc (suc n) in
      let r = row_length k (suc n) false nadir (apart zenith (suc n) 0 (λ p. omega arith)) (touched nadir (suc n + 1) k (omega arith)) in
      omega (
        arith,
        r,
        rows_above k n (omega arith),
        suc-mul (suc n) (6 * sectors),
        length-append (each (grid_row k sectors zenith nadir) (suc n)) (grid_row k sectors zenith nadir (suc n)),
      )

  -- 6 numbers for each cell, less 3 for each cell that touches a pole
  pub triangles_length : (rings : ℕ) → 1 ≤ rings → length (grid_triangles rings sectors zenith nadir) ≡ 6 * rings * sectors - 3 * sectors * (bool_byte zenith + bool_byte nadir)
  unfolding grid_triangles
  triangles_length zero h = absurd (omega arith)
  triangles_length (suc n) h = omega (
    arith,
    rows_all n,
    mul_assoc (suc n) 6 sectors,
    ap (λ (k : ℕ). k * sectors) (mul_comm (suc n) 6),
    mul-add (3 * sectors) (bool_byte zenith) (bool_byte nadir),
  )

  pub poles_few : bool_byte zenith + bool_byte nadir ≤ 2
  poles_few = omega (arith, at_most_one zenith, at_most_one nadir)

  -- no more is taken off than is there
  pub poles_fit : (rings : ℕ) → 1 ≤ rings → 3 * sectors * (bool_byte zenith + bool_byte nadir) ≤ 6 * rings * sectors
  poles_fit rings h =
      let m : sectors * 1 ≤ sectors * rings = mul-le-mul_left sectors h in
      let k : 3 * sectors * (bool_byte zenith + bool_byte nadir) ≤ 3 * sectors * 2 = mul-le-mul_left (3 * sectors) poles_few in
      omega (arith, m, k, mul_assoc 6 rings sectors, mul_comm rings sectors)

pub uv_row-length : (rings sectors ring : ℕ) → length (uv_row rings sectors ring) ≡ (sectors + 1) * 2
unfolding uv_row
uv_row-length rings sectors ring = each-length (grid_uv rings sectors ring) 2 (λ i. refl) (sectors + 1)

pub uvs_length : (rings sectors : ℕ) → length (grid_uvs rings sectors) ≡ 2 * ((rings + 1) * (sectors + 1))
unfolding grid_uvs
uvs_length rings sectors = each-length (uv_row rings sectors) ((sectors + 1) * 2) (uv_row-length rings sectors) (rings + 1) ∙ sym (mul_assoc (rings + 1) (sectors + 1) 2) ∙ mul_comm ((rings + 1) * (sectors + 1)) 2

-- ---- what the calls put into a buffer

-- what a test of the grid told, and what it said of a grid that it takes
module _ (rings sectors : ℕ) where
  abbrev pub Untaken : Refusal → Type 0
  Untaken e = (e ≡ R.Grid) × (grid_usable rings sectors ≡ false)

  abbrev pub Taken : ℕ → ℕ → Type 0
  Taken r s = (r ≡ rings) × (s ≡ sectors)

  pub uvs_no : (e : Refusal) → Untaken e → sphere_uvs rings sectors ≡ declined (number_of e)
  unfolding sphere_uvs
  uvs_no e h = rw (h.1, h.0)

  pub uvs_yes : (r s : ℕ) → Taken r s → grid_usable r s ≡ true → sphere_uvs rings sectors ≡ accepted (grid_uvs r s)
  unfolding sphere_uvs
  uvs_yes r s h u = rw (← h.0, ← h.1, u)

  module _ (b : Bounds) where
    pub numbers_no : (e : Refusal) → Untaken e → declined (number_of e) ≡ sphere_numbers rings sectors b
    unfolding sphere_numbers
    numbers_no e h = rw (h.1, h.0)

    module _ (r s : ℕ) (taken : Taken r s) (u : grid_usable r s ≡ true) where
      pub numbers_crop : usable b ≡ false → declined 10 ≡ sphere_numbers rings sectors b
      unfolding sphere_numbers
      numbers_crop h = rw (← taken.0, ← taken.1, u, h)

      pub numbers_yes : usable b ≡ true → accepted (grid_triangles r s (eq b.top f0) (eq b.bottom f0)) ≡ sphere_numbers rings sectors b
      unfolding sphere_numbers
      numbers_yes h = rw (← taken.0, ← taken.1, u, h)
