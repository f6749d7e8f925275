-- The proof of specs/Winding.antt: the triangles of a sphere and of a cube walk the sides of the cells of their grids.
-- Assumes nothing.
use Prim.Native.Nat.{ℕ, zero, suc, ◌+◌, ◌*◌, ◌≤◌, ◌<◌}
use mathlib.Core.Path.{◌≡◌, refl, sym, ap, ◌∙◌, fun_ext, subst₂}
use mathlib.Core.Logic.{◌⊎◌, inl, inr}
use mathlib.Core.List.{List, [], ◌∷◌, ◌++◌, append_assoc, append-nil}
use mathlib.Core.Bool.{Bool, true, false, ◌&&◌, cond, and-eq-true_iff}
use native.Mathlib.Nat.{zero-add, mul-pos}
use native.Mathlib.Omega.{arith}
use lib.Dec.{T, leb, eqb, ltb→lt}
use lib.Ieee.{Float, nan, inf, fin, binary32, of_bits, of_int, up, down, round, div, lt, le, eq}
use lib.Ieee.Fits.{up_pos, down_pos}
use lib.Ieee.Order.{round_mono}
use lib.Ieee.Positive.{above, above_of_le, le→cross}
use borrow.Author.Tests.{leb-true, ltb-true, lt-ltb, ne_eqb}
use Rattle.bits.specs.Verdict.{accepted}
use Rattle.bits.specs.Float.{scaled}
use Rattle.bits.proofs.VerdictLaws.{tested_value, clash}
use Rattle.payload.specs.Fill.{each}
use Rattle.payload.specs.Float.{f0}
use Rattle.payload.specs.Crop.{usable}
use Rattle.payload.specs.Equi.{crop_of}
use Rattle.payload.specs.Sphere.{grid_usable, grid_vertex, grid_cell, grid_row, grid_triangles, sphere_numbers}
use Rattle.payload.specs.Cube.{cells_usable, cube_vertex, cube_cell, cube_row, cube_face, cube_triangles, cube_numbers}
use Rattle.payload.specs.declared.crop.Bounds.{Bounds}
use Rattle.payload.proofs.SphereLaws.{usable_grid}
use Rattle.payload.proofs.Theorems.{sphere_numbers_lem, cube_numbers_lem}
use Rattle.scene.specs.Scene.{equi, cbmp, Call}
use Rattle.scene.specs.Laws.{InLimits, FittingReading, drawn}
use Rattle.scene.proofs.SceneProofs.{grid_usable_lem, cells_usable_lem}
use Rattle.display.specs.Winding.{sides, is_side, times, walks, Inside, Border, WalkedRight}
use Rattle.display.specs.Winding.{PatchWalkedRight, OnFace, CubeWalkedRight, Winding, DrawnWinding}
use Rattle.display.specs.Winding.{RoundAsBorder, half_cell, EachTriangle, none, more}
use Rattle.display.specs.Winding.{FacingOnSphere, FacingOnCube}
use Rattle.display.proofs.Sums.{sum, sum_most}
use Rattle.display.proofs.GridWalks.{triangle, cell, cell-triangles, place, walked, walked_most}
use Rattle.display.proofs.GridWalks.{Some, grids_walked_right}

-- ---- triangles one after another

-- l is whole triangles, which walk as w says
record Counts (l : List ℕ) (w : ℕ → ℕ → ℕ) : Type 0 where
  more : (m : List ℕ) (p q : ℕ) → walks (l ++ m) p q ≡ w p q + walks m p q

counts_walks : {l : List ℕ} {w : ℕ → ℕ → ℕ} → Counts l w → (p q : ℕ) → walks l p q ≡ w p q
unfolding sides times
counts_walks h p q = omega (arith, rw append-nil at (h.more [] p q))

counts_triangle : (a b c : ℕ) → Counts (a ∷ b ∷ c ∷ []) (triangle a b c)
unfolding sides times
counts_triangle a b c = record { more = λ m p q. omega arith }

counts_none : Counts [] (λ p q. 0)
counts_none = record { more = λ m p q. omega arith }

counts_both : {l m : List ℕ} {v w : ℕ → ℕ → ℕ} → Counts l v → Counts m w → Counts (l ++ m) (λ p q. v p q + w p q)
counts_both {m} h k =
    record { more = λ n p q. rw append_assoc (omega (arith, h.more (m ++ n) p q, k.more n p q)) }

counts_unless : (b : Bool) {l : List ℕ} {w : ℕ → ℕ → ℕ} → Counts l w → Counts (cond b [] l) (λ p q. cond b 0 (w p q))
counts_unless true h = counts_none
counts_unless false h = h

counts_each : {f : ℕ → List ℕ} {w : ℕ → ℕ → ℕ → ℕ} → ((j : ℕ) → Counts (f j) (w j))
    → (n : ℕ) → Counts (each f n) (λ p q. sum (λ j. w j p q) n)
unfolding each sum
counts_each h zero = counts_none
counts_each h (suc n) = counts_both (counts_each h n) (h n)

-- the same in other words
counts_by : {l : List ℕ} {v w : ℕ → ℕ → ℕ} → Counts l v → ((p q : ℕ) → v p q ≡ w p q) → Counts l w
counts_by h e = record { more = λ m p q. omega (arith, h.more m p q, e p q) }

-- ---- one grid, and triangles turned round

one_grid : (In On : ℕ → ℕ → ℕ → Type 0) (w : ℕ → ℕ → ℕ)
    → WalkedRight (λ p q. Some 1 (λ f. In f p q)) (λ p q. Some 1 (λ f. On f p q)) w → WalkedRight (In 0) (On 0) w
one_grid In On w h = record {
  inside = λ p q x. h.inside p q (0, omega arith, x);
  border = λ p q x. h.border p q (0, omega arith, x);
  nothing_else = λ p q l. go p q (h.nothing_else p q l);
}
  where
    first : (P : ℕ → Type 0) → Some 1 P → P 0
    first P (i, l, x) = let e : i ≡ 0 = omega arith in rw e at x

    go : (p q : ℕ) → (Some 1 (λ f. In f p q) ⊎ Some 1 (λ f. In f q p)) ⊎ Some 1 (λ f. On f p q)
        → (In 0 p q ⊎ In 0 q p) ⊎ On 0 p q
    go p q (inl (inl x)) = inl (inl (first (λ f. In f p q) x))
    go p q (inl (inr x)) = inl (inr (first (λ f. In f q p) x))
    go p q (inr x) = inr (first (λ f. On f p q) x)

-- the border too is then walked the other way
turned : (In On : ℕ → ℕ → Type 0) (w : ℕ → ℕ → ℕ) → WalkedRight In On w
    → WalkedRight In (λ p q. On q p) (λ p q. w q p)
turned In On w h = record {
  inside = λ p q x. ((h.inside p q x).1, (h.inside p q x).0);
  border = λ p q x. h.border q p x;
  nothing_else = λ p q l. go p q (h.nothing_else q p l);
}
  where
    go : (p q : ℕ) → (In q p ⊎ In p q) ⊎ On q p → (In p q ⊎ In q p) ⊎ On q p
    go p q (inl (inl x)) = inl (inr x)
    go p q (inl (inr x)) = inl (inl x)
    go p q (inr x) = inr x

is_side-turned : (p q x y : ℕ) → is_side p q x y ≡ is_side q p y x
is_side-turned p q x y = go (eqb p x) (eqb q y)
  where
    go : (a b : Bool) → ◌≡◌ {A = ℕ} (cond (a && b) 1 0) (cond (b && a) 1 0)
    go true true = refl
    go true false = refl
    go false true = refl
    go false false = refl

triangle_turned : (a b c p q : ℕ) → triangle a b c p q ≡ triangle a c b q p
triangle_turned a b c p q = omega (arith, is_side-turned p q a b, is_side-turned p q b c, is_side-turned p q c a)

-- ---- the sphere

unless_most : (a b : Bool) (m n : ℕ) → cond a 0 m + cond b 0 n ≤ m + n
unless_most true true m n = omega arith
unless_most true false m n = omega arith
unless_most false true m n = omega arith
unless_most false false m n = omega arith

module _ (R C : ℕ) where
  abbrev upper : ℕ → ℕ → ℕ → ℕ → ℕ
  upper r c = triangle (grid_vertex C r c) (grid_vertex C (r + 1) (c + 1)) (grid_vertex C r (c + 1))

  abbrev lower : ℕ → ℕ → ℕ → ℕ → ℕ
  lower r c = triangle (grid_vertex C r c) (grid_vertex C (r + 1) c) (grid_vertex C (r + 1) (c + 1))

  grid_cell_law : (r c p q : ℕ) → upper r c p q + lower r c p q ≡ cell (C + 1) p q (place R C 0 r c)
  grid_cell_law r c p q =
      let a = grid_vertex C r c in
      let e : grid_vertex C r c ≡ place R C 0 r c = omega arith in
      cell-triangles (C + 1) p q a (grid_vertex C r (c + 1)) (grid_vertex C (r + 1) c) (grid_vertex C (r + 1) (c + 1))
      (omega arith) (omega arith) (omega arith)
      ∙ ap (cell (C + 1) p q) e

  patch_walks : (p q : ℕ) → walks (grid_triangles R C false false) p q ≡ walked 1 R C p q
  unfolding grid_triangles grid_row grid_cell walked sum
  patch_walks p q = counts_walks (counts_each (λ r. counts_each (λ c. two r c) C) R) p q ∙ sym (zero-add _)
    where
      two : (r c : ℕ) → Counts (grid_cell R C false false r c) (λ p q. cell (C + 1) p q (place R C 0 r c))
      two r c = counts_by (counts_both (counts_triangle _ _ _) (counts_triangle _ _ _)) (grid_cell_law r c)

  -- what a pole leaves out is not walked
  abbrev staying : Bool → Bool → ℕ → ℕ → ℕ → ℕ → ℕ
  staying zenith nadir r c p q =
      cond (zenith && eqb r 0) 0 (upper r c p q) + cond (nadir && eqb (r + 1) R) 0 (lower r c p q)

  module _ (zenith nadir : Bool) (p q : ℕ) where
    sphere_walks : walks (grid_triangles R C zenith nadir) p q
        ≡ sum (λ r. sum (λ c. staying zenith nadir r c p q) C) R
    unfolding grid_triangles grid_row grid_cell
    sphere_walks = counts_walks (counts_each (λ r. counts_each (λ c. two r c) C) R) p q
      where
        two : (r c : ℕ) → Counts (grid_cell R C zenith nadir r c) (staying zenith nadir r c)
        two r c =
            counts_both (counts_unless (zenith && eqb r 0) (counts_triangle _ _ _))
            (counts_unless (nadir && eqb (r + 1) R) (counts_triangle _ _ _))

    staying_most : (r c : ℕ) → staying zenith nadir r c p q ≤ cell (C + 1) p q (place R C 0 r c)
    staying_most r c =
        let u = unless_most (zenith && eqb r 0) (nadir && eqb (r + 1) R) (upper r c p q) (lower r c p q) in
        omega (arith, u, grid_cell_law r c p q)

    sphere_most : walks (grid_triangles R C zenith nadir) p q ≤ walked 1 R C p q
    unfolding walked sum
    sphere_most = omega (arith, sphere_walks, sum_most _ _ (λ r. sum_most _ _ (staying_most r) C) R)

  patch_walked_right : 0 < R → 0 < C → PatchWalkedRight R C (grid_triangles R C false false)
  patch_walked_right tall wide =
      let v : place R C 0 ≡ grid_vertex C = fun_ext (λ r. fun_ext (λ c. omega arith)) in
      let w : walked 1 R C ≡ walks (grid_triangles R C false false) =
      fun_ext (λ p. fun_ext (λ q. sym (patch_walks p q))) in
      subst₂ (λ (v : ℕ → ℕ → ℕ) (w : ℕ → ℕ → ℕ). WalkedRight (Inside R C v) (Border R C v) w) v w
      (one_grid (λ f. Inside R C (place R C f)) (λ f. Border R C (place R C f)) (walked 1 R C)
      (grids_walked_right 1 R C tall wide))

-- a number above 0 is not equal to 0
above_differs : (x : Float) → lt f0 x ≡ true → eq x f0 ≡ false
unfolding lt eq of_bits
above_differs nan h = refl
above_differs (inf s) h = refl
above_differs (fin true m e) h = clash (cc)
above_differs (fin false m e) h =
    rw (ne_eqb (m * up e * 1) (0 * down e) (λ k. omega (arith, ltb-true (0 * down e) (m * up e * 1) h)))

-- ---- the cube

module _ (cells : ℕ) where
  face_cell : (f y x p q : ℕ)
      → triangle (cube_vertex cells f y x) (cube_vertex cells f (y + 1) (x + 1)) (cube_vertex cells f (y + 1) x) p q
      + triangle (cube_vertex cells f y x) (cube_vertex cells f y (x + 1)) (cube_vertex cells f (y + 1) (x + 1)) p q
      ≡ cell (cells + 1) q p (place cells cells f y x)
  face_cell f y x p q =
      let a = cube_vertex cells f y x in
      let b = cube_vertex cells f y (x + 1) in
      let c = cube_vertex cells f (y + 1) x in
      let d = cube_vertex cells f (y + 1) (x + 1) in
      let e : cube_vertex cells f y x ≡ place cells cells f y x = omega arith in
      let two = cell-triangles (cells + 1) q p a b c d (omega arith) (omega arith) (omega arith) in
      omega (arith, triangle_turned a d c p q, triangle_turned a b d p q, two, ap (cell (cells + 1) q p) e)

  cube_walks : (p q : ℕ) → walks (cube_triangles cells) p q ≡ walked 6 cells cells q p
  unfolding cube_triangles cube_face cube_row walked
  cube_walks p q =
      counts_walks (counts_each (λ f. counts_each (λ y. counts_each (λ x. two f y x) cells) cells) 6) p q
    where
      two : (f y x : ℕ) → Counts (cube_cell cells f y x) (λ p q. cell (cells + 1) q p (place cells cells f y x))
      two f y x = counts_by (counts_both (counts_triangle _ _ _) (counts_triangle _ _ _)) (face_cell f y x)

  cube_walked_right : 0 < cells → CubeWalkedRight cells (cube_triangles cells)
  cube_walked_right h =
      let v : place cells cells ≡ cube_vertex cells = fun_ext (λ f. fun_ext (λ y. fun_ext (λ x. omega arith))) in
      let w : (λ p q. walked 6 cells cells q p) ≡ walks (cube_triangles cells) =
      fun_ext (λ p. fun_ext (λ q. sym (cube_walks p q))) in
      subst₂ (λ (v : ℕ → ℕ → ℕ → ℕ) (w : ℕ → ℕ → ℕ).
      WalkedRight (λ p q. OnFace (λ face. Inside cells cells (v face) p q))
      (λ p q. OnFace (λ face. Border cells cells (v face) q p)) w) v w
      (turned _ _ _ (grids_walked_right 6 cells cells h h))

-- ---- the way round of each triangle

both_hold : {P : ℕ → ℕ → ℕ → Type 0} {l m : List ℕ} → EachTriangle P l → EachTriangle P m → EachTriangle P (l ++ m)
both_hold none h = h
both_hold (more a b c x g) h = more a b c x (both_hold g h)

each_holds : {P : ℕ → ℕ → ℕ → Type 0} (f : ℕ → List ℕ) (n : ℕ) → ((j : ℕ) → j < n → EachTriangle P (f j))
    → EachTriangle P (each f n)
unfolding each
each_holds f zero h = none
each_holds f (suc n) h = both_hold (each_holds f n (λ j k. h j (omega arith))) (h n (omega arith))

unless_holds : {P : ℕ → ℕ → ℕ → Type 0} (x : Bool) (a b c : ℕ) → P a b c
    → EachTriangle P (cond x [] (a ∷ b ∷ c ∷ []))
unless_holds true a b c h = none
unless_holds false a b c h = more a b c h none

-- the two triangles a d b and a c d of a cell
module _ (R C : ℕ) (v : ℕ → ℕ → ℕ) (r c : ℕ) (row : r < R) (column : c < C) where
  first_half : RoundAsBorder R C v (v r c) (v (r + 1) (c + 1)) (v r (c + 1))
  first_half = half_cell r c r c (r + 1) (c + 1) r (c + 1) row column (omega arith) (omega arith) (omega arith)

  second_half : RoundAsBorder R C v (v r c) (v (r + 1) c) (v (r + 1) (c + 1))
  second_half = half_cell r c r c (r + 1) c (r + 1) (c + 1) row column (omega arith) (omega arith) (omega arith)

sphere_facing : (R C : ℕ) (zenith nadir : Bool) → EachTriangle (FacingOnSphere R C) (grid_triangles R C zenith nadir)
unfolding grid_triangles grid_row grid_cell
sphere_facing R C zenith nadir =
    each_holds (grid_row R C zenith nadir) R (λ r h. each_holds (grid_cell R C zenith nadir r) C (λ c k.
    both_hold (unless_holds (zenith && eqb r 0) _ _ _ (first_half R C (grid_vertex C) r c h k))
    (unless_holds (nadir && eqb (r + 1) R) _ _ _ (second_half R C (grid_vertex C) r c h k))))

cube_facing : (cells : ℕ) → EachTriangle (FacingOnCube cells) (cube_triangles cells)
unfolding cube_triangles cube_face cube_row
cube_facing cells =
    each_holds (cube_face cells) 6 (λ f g. each_holds (cube_row cells f) cells (λ y h.
    each_holds (cube_cell cells f y) cells (λ x k.
    more _ _ _ (f, g, second_half cells cells (cube_vertex cells f) y x h k)
    (more _ _ _ (f, g, first_half cells cells (cube_vertex cells f) y x h k) none))))

-- ---- what was accepted

module _ (rings sectors : ℕ) (b : Bounds) (l : List ℕ) (e : sphere_numbers rings sectors b ≡ accepted l) where
  sphere_taken : (2 ≤ rings) × (3 ≤ sectors)
      × (l ≡ grid_triangles rings sectors (eq b.top f0) (eq b.bottom f0))
  unfolding sphere_numbers
  sphere_taken =
      let t = tested_value (grid_usable rings sectors) _ 9 l e in
      let u = (tested_value (usable b) _ 10 l t.1).1 in
      let g = usable_grid rings sectors t.0 in
      (g.0, g.1, cc)

cube_taken : (cells : ℕ) (l : List ℕ) → cube_numbers cells ≡ accepted l → (0 < cells) × (l ≡ cube_triangles cells)
unfolding cube_numbers cells_usable
cube_taken cells l e =
    let t = tested_value (cells_usable cells) (accepted (cube_triangles cells)) 9 l e in
    let u = t.1 in
    (leb-true 1 cells ((and-eq-true_iff (leb 1 cells) (leb cells 103)).0 t.0).0, cc)

-- ---- the theorems

pub winding : Winding
winding = record {
  sphere_once = λ rings sectors b l e p q.
      let t = sphere_taken rings sectors b l e in
      let m = sphere_most rings sectors (eq b.top f0) (eq b.bottom f0) p q in
      let n = walked_most 1 rings sectors (omega arith) (omega arith) p q in
      rw t.2 (omega (arith, m, n));
  sphere_facing = λ rings sectors b l e.
      rw (sphere_taken rings sectors b l e).2 (sphere_facing rings sectors (eq b.top f0) (eq b.bottom f0));
  patch = λ rings sectors b l e top bottom.
      let t = sphere_taken rings sectors b l e in
      rw (t.2, above_differs b.top top, above_differs b.bottom bottom)
      (patch_walked_right rings sectors (omega arith) (omega arith));
  cube_once = λ cells l e p q.
      let t = cube_taken cells l e in
      rw t.1 (omega (arith, cube_walks cells p q, walked_most 6 cells cells t.0 t.0 q p));
  cube_facing = λ cells l e. rw (cube_taken cells l e).1 (cube_facing cells);
  cube = λ cells l e.
      let t = cube_taken cells l e in
      rw t.1 (cube_walked_right cells t.0);
}

-- ---- a field above 0 makes an edge above 0, however small

-- at least 1, divided by 4,294,967,296
over : (x : Float) → T (le (round binary32 false 1 1) x) → T (above (div binary32 x (of_bits binary32 0x4f80_0000)))
unfolding round of_bits div
over x h = go x h (above_of_le (round binary32 false 1 1) x tt h)
  where
    go : (x : Float) → T (le (round binary32 false 1 1) x) → T (above x)
        → T (above (div binary32 x (of_bits binary32 0x4f80_0000)))
    go nan h a = absurd a
    go (inf true) h a = absurd a
    go (inf false) h a = tt
    go (fin true m e) h a = absurd a
    go (fin false m e) h a =
        let c = le→cross (round binary32 false 1 1) (fin false m e) tt a h in
        let n = m * up e * 1 in
        let d = 4294967296 * down e in
        above_of_le (round binary32 false 1 4294967296) (round binary32 false n d) tt
        (round_mono binary32 1 4294967296 n d (omega arith) (omega (arith, down_pos e)) (omega arith))

above_lt : (x : Float) → T (above x) → lt f0 x ≡ true
unfolding lt of_bits
above_lt nan a = absurd a
above_lt (inf true) a = absurd a
above_lt (inf false) a = refl
above_lt (fin true m e) a = absurd a
above_lt (fin false m e) a =
    lt-ltb (0 * down e) (m * up e * 1) (omega (arith, mul-pos (ltb→lt 0 m a) (up_pos e)))

scaled_above : (t : ℕ) → 0 < t → lt f0 (scaled t) ≡ true
unfolding of_int
scaled_above t h =
    above_lt (scaled t)
    (over (round binary32 false t 1) (round_mono binary32 1 1 t 1 (omega arith) (omega arith) (omega arith)))

-- ---- what the scene call draws, the index makers make

sphere_made : (c : Call) → InLimits equi c → (ρ : FittingReading equi c)
    → sphere_numbers c.given.rings c.given.sectors (crop_of ρ.reading) ≡ accepted (drawn ρ).numbers
sphere_made c i ρ =
    sphere_numbers_lem c.given.rings c.given.sectors (crop_of ρ.reading)
    ∙ rw (grid_usable_lem c.given i.numbers, ρ.spells.usable_crop)

cube_made : (c : Call) → InLimits cbmp c → (ρ : FittingReading cbmp c)
    → cube_numbers c.given.cells ≡ accepted (drawn ρ).numbers
cube_made c i ρ = cube_numbers_lem c.given.cells ∙ rw (cells_usable_lem c.given i.numbers)

pub drawn_winding : DrawnWinding
unfolding crop_of
drawn_winding = record {
  sphere_once = λ c i ρ.
      winding.sphere_once c.given.rings c.given.sectors (crop_of ρ.reading) _ (sphere_made c i ρ);
  sphere_facing = λ c i ρ.
      winding.sphere_facing c.given.rings c.given.sectors (crop_of ρ.reading) _ (sphere_made c i ρ);
  patch = λ c i ρ top bottom.
      winding.patch c.given.rings c.given.sectors (crop_of ρ.reading) _ (sphere_made c i ρ)
      (scaled_above ρ.reading.t top) (scaled_above ρ.reading.b bottom);
  cube_once = λ c i ρ. winding.cube_once c.given.cells _ (cube_made c i ρ);
  cube_facing = λ c i ρ. winding.cube_facing c.given.cells _ (cube_made c i ρ);
  cube = λ c i ρ. winding.cube c.given.cells _ (cube_made c i ρ);
}
