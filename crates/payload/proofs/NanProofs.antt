-- Which floats are NaNs: the share of a padding by cases; none in an accepted cube or grid, where all that is computed
-- stays small; and no quotient by a float above 0. Assumes nothing.
use Rattle.std.proofs.Common.{◌≡◌, ℕ, zero, suc, ◌+◌, ◌*◌, ◌/◌, ◌%◌, ◌<◌, ◌≤◌, Bool, true, false, cond, not, ◌&&◌, ◌||◌, T, eqb, leb, ◌⊎◌, List, sym, refl, ap, ◌∙◌, inl, inr, mul_comm, eq-or-lt_of_le, arith, lit≤, eqb-true, leb-true}
use mathlib.Core.Bool.{false≢true}
use lib.Ieee.{Float, binary32, of_bits, is_nan, le, lt, fits}
use lib.Ieee.Fits.{add-fits, sub-fits, mul-fits, div-fits}
use lib.Ieee.Bits.{of_bits-to_bits}
use lib.Ieee.Scale.{finite}
use Rattle.bits.specs.Verdict.{accepted, declined}
use Rattle.bits.specs.Float.{bits_of}
use Rattle.bits.proofs.VerdictLaws.{both_true, tested_value}
use Rattle.payload.specs.Float.{f0, f½, f1, f2, f3, ratio, ◌⊕◌, ◌⊖◌, ◌⊗◌, ◌⊘◌}
use Rattle.payload.specs.Sphere.{grid_usable, grid_uv, uv_row, grid_uvs, sphere_uvs}
use Rattle.payload.specs.Cube.{cells_usable, face_table, centre, right, up, u₀, u₁, v₀, v₁, outward, position}
use Rattle.payload.specs.Cube.{cube_point, point_row, point_face, cube_points, share_usable, cube_floats}
use Rattle.payload.specs.View.{min_fov, max_fov, default_fov, clamped, unusable, fov_for_zoom, zoom_for_fov}
use Rattle.payload.specs.NanLaws.{Number, NanLaws}
use Rattle.payload.proofs.FloatLaws.{Within, within, within_finite, within-number, weight, weight-within, exact}
use Rattle.payload.proofs.FloatLaws.{Upto, upto, upto_within, upto_ge, upto_le, Least, least, by_least, pattern}
use Rattle.payload.proofs.FloatLaws.{add-within, sub_within, mul-within, div-within, whole_within, half-within}
use Rattle.payload.proofs.FloatLaws.{from_one, to_one, mul_upto, ratio_upto, scaled_upto}
use Rattle.payload.proofs.FloatLaws.{mul-number, mul_finite, div-number, ratio_nan}
use Rattle.payload.proofs.AllLaws.{All, nil_all, cons_all, each_all}

-- ---- the bit pattern of a float that is no NaN

number : (x : Float) → T (fits binary32 x) → is_nan x ≡ false → Number (bits_of x)
number x f n =
    let e = of_bits-to_bits binary32 x f in
    record { bits = ap bits_of e; number = ap is_nan e ∙ n; pattern = pattern x f ∙ n }

-- ---- the sphere's grid

-- a bit pattern of a float between 0 and 1
abbrev pub Between : ℕ → Type 0
Between b = Number b × (le f0 (of_bits binary32 b) ≡ true) × (le (of_bits binary32 b) f1 ≡ true)

between : (x : Float) → Upto 1 x → T (fits binary32 x) → Between (bits_of x)
between x h f =
    let e = of_bits-to_bits binary32 x f in
    (number x f (within-number (upto_within h)), ap (le f0) e ∙ upto_ge h, ap (λ (y : Float). le y f1) e ∙ upto_le h)

pub grid_between : (rings sectors : ℕ) → grid_usable rings sectors ≡ true → All Between (grid_uvs rings sectors)
unfolding grid_usable grid_uvs uv_row
grid_between rings sectors e =
    let u = both_true (leb 2 rings && leb 3 sectors) (leb ((rings + 1) * (sectors + 1)) 65536) e in
    let v = both_true (leb 2 rings) (leb 3 sectors) u.0 in
    let r = leb-true 2 rings v.0 in
    let s = leb-true 3 sectors v.1 in
    let p = leb-true ((rings + 1) * (sectors + 1)) 65536 u.1 in
    let r' = most rings sectors p in
    let s' = most sectors rings (rw mul_comm p) in
    each_all Between (uv_row rings sectors) (rings + 1) (λ ring i.
    each_all Between (grid_uv rings sectors ring) (sectors + 1) (λ sector j.
    let x = ratio_upto sector sectors (omega arith) (omega arith) (omega arith) in
    let y = to_one (ratio_upto ring rings (omega arith) (omega arith) (omega arith)) in
    cons_all Between (between (ratio sector sectors) x (div-fits binary32 _ _))
    (cons_all Between (between (f1 ⊖ ratio ring rings) y (sub-fits binary32 _ _)) (nil_all Between))))
  where
    most : (a b : ℕ) → (a + 1) * (b + 1) ≤ 65536 → a ≤ 65536
    most a b h = omega arith

-- ---- the cube's faces

-- a test passes at each number below n
abbrev all_below_law : (ℕ → Bool) → ℕ → Bool
all_below_law f zero = true
all_below_law f (suc n) = all_below_law f n && f n

all_at : (f : ℕ → Bool) (n : ℕ) → all_below_law f n ≡ true → (j : ℕ) → j < n → f j ≡ true
all_at f zero e j h = absurd (omega arith)
all_at f (suc n) e j h = let t = both_true (all_below_law f n) (f n) e in go t.1 (all_at f n t.0 j) (eq-or-lt_of_le h)
  where
    go : f n ≡ true → (j < n → f j ≡ true) → (suc j ≡ suc n) ⊎ (suc j < suc n) → f j ≡ true
    go t r (inl k) = let i : j ≡ n = omega arith in rw i t
    go t r (inr k) = r (omega arith)

-- along an axis one of the three directions is 1 in size, and the others are 0
along : ℕ → ℕ → ℕ
along face axis = weight (centre face axis) + weight (right face axis) + weight (up face axis)

one_way : (face axis : ℕ) → face < 6 → axis < 3 → along face axis ≡ 1
unfolding along face_table of_bits
one_way face axis f a =
    let t = all_at (λ j. all_below_law (λ k. eqb (along j k) 1) 3) 6 refl face f in
    eqb-true (along face axis) 1 (all_at (λ k. eqb (along face k) 1) 3 t axis a)

one-within : Within 1 f1
unfolding of_bits
one-within = within (lit≤ tt)

two_upto : Upto 2 f2
unfolding of_bits
two_upto = upto (lit≤ tt)

two_least : Least f2
unfolding of_bits
two_least = least (lit≤ tt) (lit≤ tt)

three_least : Least f3
unfolding of_bits
three_least = least (lit≤ tt) (lit≤ tt)

module _ (cells : ℕ) (low : 1 ≤ cells) (high : cells ≤ 103) where
  part : (i : ℕ) → i ≤ cells → Upto 1 (ratio i cells)
  part i h = ratio_upto i cells h low (omega arith)

  outward_within : (i : ℕ) → i ≤ cells → Within 1 (outward i cells)
  outward_within i h = from_one (mul_upto (lit≤ tt) two_upto (part i h))

  module _ (face : ℕ) (few : face < 6) where
    direction_within : (y x axis : ℕ) → axis < 3 → y ≤ cells → x ≤ cells
        → Within 1 (centre face axis ⊕ right face axis ⊗ outward x cells ⊕ up face axis ⊗ outward y cells)
    unfolding along
    direction_within y x axis three hy hx =
        let e = one_way face axis few three in
        let c = weight-within (centre face axis) (omega arith) in
        let r = weight-within (right face axis) (omega arith) in
        let u = weight-within (up face axis) (omega arith) in
        let a = mul-within (omega arith) r (outward_within x hx) in
        let b = mul-within (omega arith) u (outward_within y hy) in
        let s = add-within (omega arith) (add-within (omega arith) c a) b in
        let k : weight (centre face axis) + weight (right face axis) * 1 + weight (up face axis) * 1 ≡ 1 =
        omega arith in
        rw k at s

    module _ (share : Float) (small : Within 1 share) where
      u_within : (x : ℕ) → x ≤ cells → Within 10 (u₀ face share ⊕ (u₁ face share ⊖ u₀ face share) ⊗ ratio x cells)
      u_within x h =
          let n = whole_within 2 (face % 3) (exact 2 (lit≤ tt)) (omega arith) in
          let m = add-within (lit≤ tt) n one-within in
          let a = div-within (exact 3 (lit≤ tt)) (by_least (add-within (lit≤ tt) n small) three_least) in
          let b = div-within (exact 4 (lit≤ tt)) (by_least (sub_within (lit≤ tt) m small) three_least) in
          add-within (lit≤ tt) a (mul-within (lit≤ tt) (sub_within (lit≤ tt) b a) (upto_within (part x h)))

      v_within : (y : ℕ) → y ≤ cells → Within 14 (v₀ face share ⊕ (v₁ face share ⊖ v₀ face share) ⊗ ratio y cells)
      v_within y h =
          let n = whole_within 1 (face / 3) (exact 1 (lit≤ tt)) (omega arith) in
          let m = sub_within (lit≤ tt) (upto_within two_upto) n in
          let k = sub_within (lit≤ tt) m one-within in
          let a = div-within (exact 5 (lit≤ tt)) (by_least (add-within (lit≤ tt) k small) two_least) in
          let b = div-within (exact 4 (lit≤ tt)) (by_least (sub_within (lit≤ tt) m small) two_least) in
          add-within (lit≤ tt) a (mul-within (lit≤ tt) (sub_within (lit≤ tt) b a) (upto_within (part y h)))

-- ---- the cube's vertices

-- no NaN, nor an infinity where the radius is an f32
abbrev pub Place : Float → ℕ → Type 0
Place radius b = Number b × (T (fits binary32 radius) → finite (of_bits binary32 b) ≡ true)

place : (radius x : Float) → T (fits binary32 x) → is_nan x ≡ false → (T (fits binary32 radius) → finite x ≡ true)
    → Place radius (bits_of x)
place radius x f n h = (number x f n, λ r. ap finite (of_bits-to_bits binary32 x f) ∙ h r)

pub cube_places : (cells : ℕ) (radius share : Float) → cells_usable cells ≡ true → finite radius ≡ true
    → share_usable share ≡ true → All (Place radius) (cube_points cells radius share)
unfolding cells_usable share_usable cube_point point_row point_face cube_points
cube_places cells radius share ec er es =
    let c = both_true (leb 1 cells) (leb cells 103) ec in
    let low = leb-true 1 cells c.0 in
    let high = leb-true cells 103 c.1 in
    let p = both_true (le f0 share) (lt share f½) es in
    let small = half-within share (rw p.0 tt) (rw p.1 tt) in
    let P = Place radius in
    each_all P (point_face cells radius share) 6 (λ face f.
    each_all P (point_row cells radius share face) (cells + 1) (λ y i.
    each_all P (cube_point cells radius share face y) (cells + 1) (λ x j.
    let at : (axis : ℕ) → axis < 3 → P (bits_of (position cells radius face y x axis)) = λ axis k.
    let d = direction_within cells low high face f y x axis k (omega arith) (omega arith) in
    place radius _ (mul-fits binary32 _ _) (mul-number radius er d) (λ r. mul_finite radius r er d) in
    let u = u_within cells low high face f share small x (omega arith) in
    let v = v_within cells low high face f share small y (omega arith) in
    cons_all P (at 0 (lit≤ tt))
    (cons_all P (at 1 (lit≤ tt))
    (cons_all P (at 2 (lit≤ tt))
    (cons_all P (place radius _ (add-fits binary32 _ _) (within-number u) (λ r. within_finite u))
    (cons_all P (place radius _ (add-fits binary32 _ _) (within-number v) (λ r. within_finite v)) (nil_all P))))))))

-- ---- zoom and field of view

usable-not : (x : Float) → unusable x ≡ false → (finite x ≡ true) × (le x f0 ≡ false)
usable-not x e = go (finite x) (le x f0) e
  where
    go : (a b : Bool) → (not a || b) ≡ false → (a ≡ true) × (b ≡ false)
    go true b e = (refl, e)
    go false b e = absurd (false≢true (sym e))

-- a choice of two floats, the second where the test fails
choice : (b : Bool) (x y : Float) → is_nan x ≡ false → (b ≡ false → is_nan y ≡ false) → is_nan (cond b x y) ≡ false
choice true x y h k = h
choice false x y h k = k refl

module _ (x : Float) where
  by_usable : unusable x ≡ false → is_nan (default_fov ⊘ x) ≡ false
  by_usable e = let u = usable-not x e in div-number default_fov x (unfold of_bits in refl) u.0 u.1

  fov_number : is_nan (fov_for_zoom x) ≡ false
  unfolding fov_for_zoom
  fov_number =
      let q = default_fov ⊘ x in
      choice (unusable x) default_fov (clamped q min_fov max_fov) (unfold is_nan of_bits in refl) (λ e.
      choice (lt q min_fov) min_fov (cond (lt max_fov q) max_fov q) (unfold is_nan of_bits in refl) (λ _.
      choice (lt max_fov q) max_fov q (unfold is_nan of_bits in refl) (λ _. by_usable e)))

  zoom_number : is_nan (zoom_for_fov x) ≡ false
  unfolding zoom_for_fov
  zoom_number = choice (unusable x) f1 (default_fov ⊘ x) (unfold is_nan of_bits in refl) by_usable

-- ---- the calls

pub points_accepted : (cells : ℕ) (radius share : Float) (l : List ℕ) → cube_floats cells radius share ≡ accepted l
    → (cells_usable cells ≡ true) × (finite radius ≡ true) × (share_usable share ≡ true)
    × (cube_points cells radius share ≡ l)
unfolding cube_floats
points_accepted cells radius share l e =
    let v = accepted (cube_points cells radius share) in
    let a = tested_value (cells_usable cells) (cond (finite radius && share_usable share) v (declined 11)) 9 l e in
    let b = tested_value (finite radius && share_usable share) v 11 l a.1 in
    let c = both_true (finite radius) (share_usable share) b.0 in
    let d = b.1 in
    (a.0, c.0, c.1, cc)

pub uvs_accepted : (rings sectors : ℕ) (l : List ℕ) → sphere_uvs rings sectors ≡ accepted l
    → (grid_usable rings sectors ≡ true) × (grid_uvs rings sectors ≡ l)
unfolding sphere_uvs
uvs_accepted rings sectors l e =
    let a = tested_value (grid_usable rings sectors) (accepted (grid_uvs rings sectors)) 9 l e in
    let d = a.1 in
    (a.0, cc)

cube_accepted : (cells : ℕ) (radius share : Float) (l : List ℕ) → cube_floats cells radius share ≡ accepted l
    → All (Place radius) l
cube_accepted cells radius share l e b m =
    let a = points_accepted cells radius share l e in
    cube_places cells radius share a.0 a.1 a.2 b (rw a.3 m)

grid_accepted : (rings sectors : ℕ) (l : List ℕ) → sphere_uvs rings sectors ≡ accepted l → All Between l
grid_accepted rings sectors l e b m =
    let a = uvs_accepted rings sectors l e in
    grid_between rings sectors a.0 b (rw a.1 m)

pub nan_laws : NanLaws
nan_laws =
    record {
      share = λ p F h k. ratio_nan p F (omega arith) (omega arith);
      points = λ cells radius part l b e m. (cube_accepted cells radius part l e b m).0;
      points_finite = λ cells radius part l b f e m. (cube_accepted cells radius part l e b m).1 (rw f tt);
      uvs = λ rings sectors l b e m. (grid_accepted rings sectors l e b m).0;
      uvs_between = λ rings sectors l b e m. let g = grid_accepted rings sectors l e b m in (g.1, g.2);
      side = λ v h. within-number (upto_within (scaled_upto v (omega arith)));
      fov = fov_number;
      zoom = zoom_number;
    }
