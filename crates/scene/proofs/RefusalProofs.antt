-- Which refusals the scene call can give, from those of the calls that it makes. Assumes nothing.
use Prim.Native.Nat.{ℕ, zero, suc, ◌<◌}
use mathlib.Core.Path.{◌≡◌, refl, sym}
use mathlib.Core.List.{List, [], ◌∷◌, ◌++◌}
use mathlib.Core.Bool.{Bool, true, false, ◌||◌, cond}
use native.Mathlib.Omega.{arith}
use lib.Dec.{eqb}
use lib.Ieee.{Float}
use Rattle.bits.specs.Verdict.{Verdict, accepted, declined, limited, mapped}
use Rattle.bits.specs.Refusals.{among, Refuses, gives, refuses, RefusesOr12}
use Rattle.bits.proofs.VerdictLaws.{clash, then_yes, then_no}
use Rattle.bits.proofs.RefusalLaws.{remade, unlisted_12}
use Rattle.payload.specs.Fill.{both_lengths}
use Rattle.payload.specs.Equi.{equi_read, with_crop}
use Rattle.payload.specs.Cbmp.{cbmp_read}
use Rattle.payload.specs.Sphere.{grid_usable, sphere_numbers, sphere_uvs}
use Rattle.payload.specs.Cube.{cube_numbers, cube_floats}
use Rattle.payload.specs.Meshes.{list_size}
use Rattle.payload.specs.MeshRead.{read_meshes}
use Rattle.payload.specs.declared.crop.Bounds.{Bounds}
use Rattle.payload.specs.declared.equi.EquiFields.{EquiFields}
use Rattle.payload.proofs.LentLaws.{refused, answer_refuses}
use Rattle.payload.proofs.Theorems.{refusals, limited_mapped}
use Rattle.scene.specs.Scene.{Kind, equi, cbmp, mesh, kind_of, Given, Named, crop, padding, three}
use Rattle.scene.specs.Scene.{plan_of, kind_plan, Call, scene_plan, scene_answer}
use Rattle.scene.specs.Internal.{grid_plan, equi_plan, cbmp_plan, after_grid, face_share}
use Rattle.scene.specs.Refusals.{SceneRefusals, NeverSixteen}
use Rattle.scene.proofs.KindLaws.{equi_read_law, equi_declined, cbmp_read_law, cbmp_declined}
use Rattle.scene.proofs.SceneLaws.{kind_equi, kind_cbmp, kind_mesh, kind_none}

-- ---- the ways in which the call's plan is put together

module _ {ks : List ℕ} where
  grid_refuses : (name : Named) (v w : Verdict (List ℕ)) → Refuses ks (both_lengths v w) → Refuses ks (grid_plan name v w)
  grid_refuses name (accepted l) w r = remade _ _ w r
  grid_refuses name (declined j) w (refuses k h) = refuses k h
  grid_refuses name (Rattle.bits.specs.Verdict.needs _) w r = elim r [ ]

  wider : {A : Type 0} {js : List ℕ} {v : Verdict A} → ((k : ℕ) → among k ks ≡ true → among k js ≡ true) → Refuses ks v
      → Refuses js v
  wider h (gives a) = gives a
  wider h (refuses k e) = refuses k (h k e)

  -- the call refuses as its kind does
  of_kind : (c : Call) (k : Kind) → kind_of c.kind ≡ accepted k → Refuses ks (kind_plan k c.given c.payload)
      → RefusesOr12 ks (scene_answer c)
  of_kind c k e r =
      rw (then_yes (kind_of c.kind) (λ k. kind_plan k c.given c.payload) k e)
      (answer_refuses (three c.buffers) r)

-- ---- some numbers are among more of them

later : (a b c : Bool) → (b ≡ true → c ≡ true) → (a || b) ≡ true → (a || c) ≡ true
later true b c h e = refl
later false b c h e = h e

first : (k : ℕ) (ks js : List ℕ) → among k ks ≡ true → among k (ks ++ js) ≡ true
first k [] js e = clash (cc)
first k (j ∷ ks) js e = later (eqb k j) (among k ks) (among k (ks ++ js)) (first k ks js) e

last : (k : ℕ) (ks js : List ℕ) → among k js ≡ true → among k (ks ++ js) ≡ true
last k [] js e = e
last k (j ∷ ks) js e = go (eqb k j) (last k ks js e)
  where
    go : (b : Bool) → among k (ks ++ js) ≡ true → (b || among k (ks ++ js)) ≡ true
    go true h = refl
    go false h = h

-- ---- kind 0: what the reader refuses, 9 before its 10, and what the grid does

module _ (s : List ℕ) (rings sectors : ℕ) where
  abbrev known : List ℕ
  known = 2 ∷ 3 ∷ 4 ∷ 9 ∷ 10 ∷ []

  after_grid_law : (k : ℕ) → among k (2 ∷ 3 ∷ 4 ∷ 10 ∷ []) ≡ true → among (after_grid k rings sectors) known ≡ true
  after_grid_law k e = go (eqb k 10) (grid_usable rings sectors) (more (eqb k 2) (eqb k 3) (eqb k 4) (eqb k 9) e)
    where
      more : (a b c n : Bool) → (a || (b || (c || (eqb k 10 || false)))) ≡ true
          → (a || (b || (c || (n || (eqb k 10 || false))))) ≡ true
      more true b c n h = refl
      more false true c n h = refl
      more false false true n h = refl
      more false false false true h = refl
      more false false false false h = h

      go : (t u : Bool) → among k known ≡ true → among (cond t (cond u 10 9) k) known ≡ true
      go true true h = refl
      go true false h = refl
      go false u h = h

  equi_refuses : Refuses known (equi_plan s rings sectors)
  equi_refuses = go (limited s (mapped with_crop (equi_read s))) refl (refusals.parse_equi s)
    where
      go : (v : Verdict (EquiFields × Bounds)) → v ≡ limited s (mapped with_crop (equi_read s))
          → Refuses (2 ∷ 3 ∷ 4 ∷ 10 ∷ []) v → Refuses known (equi_plan s rings sectors)
      go v e (gives (ρ, b)) =
          rw (← equi_read_law rings sectors s ρ b e)
          (wider (λ k. last k (2 ∷ 3 ∷ 4 ∷ []) (9 ∷ 10 ∷ []))
          (grid_refuses (crop b) (sphere_numbers rings sectors b) (sphere_uvs rings sectors)
          (refusals.sphere_lengths rings sectors b)))
      go v e (refuses k h) = rw (equi_declined rings sectors s k e) (refuses _ (after_grid_law k h))

-- ---- kind 1: what the reader refuses, and what the cube does

module _ (s : List ℕ) (cells : ℕ) (radius : Float) (F : ℕ) where
  cbmp_refuses : Refuses (2 ∷ 3 ∷ 4 ∷ 5 ∷ 9 ∷ 11 ∷ []) (cbmp_plan s cells radius F)
  cbmp_refuses = go (limited s (cbmp_read s)) refl (refusals.parse_cbmp s)
    where
      go : (v : Verdict ℕ) → v ≡ limited s (cbmp_read s) → Refuses (2 ∷ 3 ∷ 4 ∷ 5 ∷ []) v
          → Refuses (2 ∷ 3 ∷ 4 ∷ 5 ∷ 9 ∷ 11 ∷ []) (cbmp_plan s cells radius F)
      go v e (gives p) =
          rw (← cbmp_read_law cells radius F s p e)
          (wider (λ k. last k (2 ∷ 3 ∷ 4 ∷ 5 ∷ []) (9 ∷ 11 ∷ []))
          (grid_refuses (padding p) (cube_numbers cells) (cube_floats cells radius (face_share p F))
          (refusals.cubemap_lengths cells radius (face_share p F))))
      go v e (refuses k h) =
          rw (cbmp_declined cells radius F s k e) (refuses k (first k (2 ∷ 3 ∷ 4 ∷ 5 ∷ []) (9 ∷ 11 ∷ []) h))

-- ---- kind 2: what the measuring call refuses

meshes_refuse : (g : Given) (s : List ℕ) → Refuses (2 ∷ 3 ∷ 6 ∷ 7 ∷ 8 ∷ 17 ∷ 18 ∷ []) (kind_plan mesh g s)
meshes_refuse g s =
    rw (limited_mapped s (plan_of mesh g) (read_meshes s))
    (remade list_size (plan_of mesh g) (limited s (read_meshes s))
    (rw (limited_mapped s list_size (read_meshes s)) at (refusals.measure_meshes s)))

-- ---- any other

other : (c : Call) → 2 < c.kind → scene_answer c ≡ declined 1
other c h =
    let kind = kind_none c.kind (λ e. omega arith) (λ e. omega arith) (λ e. omega arith) in
    let plan = then_no (kind_of c.kind) (λ k. kind_plan k c.given c.payload) 1 kind in
    sym (refused (scene_plan c) (three c.buffers) 1 plan).0

pub scene_refusals : SceneRefusals
scene_refusals =
    record {
      kind_0 = λ c e.
          of_kind c equi (kind_equi c.kind e) (equi_refuses c.payload c.given.rings c.given.sectors);
      kind_1 = λ c e.
          of_kind c cbmp (kind_cbmp c.kind e)
          (cbmp_refuses c.payload c.given.cells c.given.radius c.given.face_width);
      kind_2 = λ c e. of_kind c mesh (kind_mesh c.kind e) (meshes_refuse c.given c.payload);
      other = other;
    }

pub never_sixteen : NeverSixteen
never_sixteen c e = go c.kind refl
  where
    go : (n : ℕ) → c.kind ≡ n → ⊥
    go zero h = unlisted_12 16 refl (scene_refusals.kind_0 c h) e
    go (suc zero) h = unlisted_12 16 refl (scene_refusals.kind_1 c h) e
    go (suc (suc zero)) h = unlisted_12 16 refl (scene_refusals.kind_2 c h) e
    go (suc (suc (suc n))) h =
        let one : scene_answer c ≡ declined 1 = scene_refusals.other c (omega arith) in
        let both : ◌≡◌ {A = ℕ} 1 16 = cc in
        absurd (omega arith)
