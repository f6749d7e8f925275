-- What the validating pass learns turn by turn: each law takes the answer of a callee to the answer that its caller gives. Assumes nothing.
use Rattle.std.proofs.Common.{◌≡◌, ℕ, zero, suc, ◌+◌, ◌-◌, ◌*◌, ◌/◌, ◌<◌, ◌≤◌, List, ◌∷◌, length, sym, refl, ap, ◌∙◌, mul-le-mul_left, arith}
use Rattle.bits.specs.Verdict.{Verdict, accepted, needs, declined, limited, and_then, mapped}
use Rattle.bits.specs.Field.{field}
use Rattle.bits.specs.Number.{width_of}
use Rattle.bits.proofs.VerdictLaws.{limited_yes, mapped_value, mapped_declined}
use Rattle.payload.specs.Mesh.{Submesh}
use Rattle.bits.specs.Run.{zeros, RunSpells, Found, read_run, judged}
use Rattle.payload.specs.MeshSpells.{aligned, vertices_at}
use Rattle.payload.specs.MeshRead.{many, submesh_of, read_submesh, read_submeshes, mesh_of}
use Rattle.payload.specs.MeshDrawing.{point_count}
use Rattle.payload.specs.Internal.{read_words, after_counts, points_end, submeshes_size, body_size, SubmeshPlace}
use Rattle.bits.proofs.RunLaws.{run_spells}
use Rattle.payload.proofs.RangeLaws.{many_none, many_declined, many_on}
use Rattle.payload.proofs.SubmeshLaws.{submesh_run, submesh_spells, submeshes_spell}
use Rattle.payload.proofs.BodyLaws.{counts_declined, counts_on}

-- ---- a run

-- what was said of a run in a body within its limit
pub run_told : (s : List ℕ) (r v : Verdict (Unit {0})) → length s ≤ 67108864 → r ≡ limited s v → r ≡ v
run_told s r v h e = e ∙ limited_yes s v h

-- a run that is spelled ends within the bytes
pub run_fits : {s : List ℕ} {w limit p : ℕ} {prior ns : List ℕ} (n : ℕ) → RunSpells s w limit p prior ns → length ns ≡ n → 1 ≤ n → p + n * w ≤ 8 * length s
run_fits n r e o = let z : n - 1 + 1 ≡ n = omega arith in rw z at (r.whole (n - 1) (omega arith))

-- ---- a submesh, from its run's answer

module _ (s : List ℕ) (w m p : ℕ) where
  module _ (count : ℕ) (h : p + 48 ≤ 8 * length s) (c : count ≡ field s (p + 16) 32) (l : 1 ≤ count) (u : count ≤ 128000) where
    reads : read_submesh s w m p ≡ and_then (read_run s w m count (p + 48) (zeros 1)) (submesh_of s p)
    reads = submesh_run s w m p h (omega arith) (omega arith) ∙ rw (← c)

    pub submesh_good : accepted tt ≡ judged (read_run s w m count (p + 48) (zeros 1)) → accepted (count, p + 48 + count * w) ≡ mapped points_end (read_submesh s w m p)
    submesh_good e =
        let v = mapped_value (λ _. tt) (read_run s w m count (p + 48) (zeros 1)) tt e in
        let x = v.0 in
        let f = run_spells s w m count (p + 48) (zeros 1) x.0 x.1 (omega arith) v.1 in
        sym (ap (mapped points_end) reads ∙ rw (v.1, f.1, f.2))

    pub submesh_bad : (k : ℕ) → declined k ≡ judged (read_run s w m count (p + 48) (zeros 1)) → declined k ≡ mapped points_end (read_submesh s w m p)
    submesh_bad k e =
        let v = mapped_declined (λ _. tt) (read_run s w m count (p + 48) (zeros 1)) k e in
        sym (ap (mapped points_end) reads ∙ rw v)

    -- the run ends within the bytes
    pub submesh_room : accepted tt ≡ judged (read_run s w m count (p + 48) (zeros 1)) → p + 48 + count * w ≤ 8 * length s
    submesh_room e =
        let v = mapped_value (λ _. tt) (read_run s w m count (p + 48) (zeros 1)) tt e in
        let f = run_spells s w m count (p + 48) (zeros 1) v.0.0 v.0.1 (omega arith) v.1 in
        run_fits count f.0 f.1 l

    -- both, from the answer on the run in a body within its limit
    pub submesh_told : length s ≤ 67108864 → w ≡ width_of m
        → accepted tt ≡ limited s (judged (read_run s (width_of m) m count (p + 48) (zeros 1)))
        → (accepted (count, p + 48 + count * w) ≡ mapped points_end (read_submesh s w m p))
        × (p + 48 + count * w ≤ 8 * length s)
    submesh_told h i e =
        let good : accepted tt ≡ judged (read_run s w m count (p + 48) (zeros 1)) = rw (← i) at (run_told s _ _ h e) in
        (submesh_good good, submesh_room good)

    pub submesh_refused : length s ≤ 67108864 → w ≡ width_of m → (k : ℕ)
        → declined k ≡ limited s (judged (read_run s (width_of m) m count (p + 48) (zeros 1)))
        → declined k ≡ mapped points_end (read_submesh s w m p)
    submesh_refused h i k e = submesh_bad k (rw (← i) at (run_told s _ _ h e))

  -- it ends within the bytes, and each point takes a bit or more
  pub submesh_end : (n q : ℕ) → 1 ≤ w → accepted (n, q) ≡ mapped points_end (read_submesh s w m p) → (q ≤ 8 * length s) × (p + n ≤ q)
  submesh_end n q o e =
      let v = mapped_value points_end (read_submesh s w m p) (n, q) e in
      let x = v.0.0 in
      let f = submesh_spells s w m p x v.0.1 v.1 in
      let a : length x.points ≡ n = ap (λ (y : ℕ × ℕ). y.0) v.2 in
      let b : v.0.1 ≡ q = ap (λ (y : ℕ × ℕ). y.1) v.2 in
      let c : p + 48 + length x.points * w ≤ 8 * length s = run_fits (length x.points) f.0.run refl f.0.some in
      (omega (arith, f.1), omega (arith, f.1, mul-le-mul_left (length x.points) o))

-- ---- the submeshes that are left, of k, with n points counted before

abbrev pub counted : ℕ → ℕ → List Submesh × ℕ → ℕ × ℕ
counted k n x = (k, n + point_count x.0)

module _ (s : List ℕ) (w m : ℕ) where
  pub counted_all : (k p : ℕ) → mapped submeshes_size (many (read_submesh s w m) k p) ≡ mapped (counted k 0) (many (read_submesh s w m) k p)
  counted_all k p = go (many (read_submesh s w m) k p) refl
    where
      go : (v : Found (List Submesh)) → many (read_submesh s w m) k p ≡ v → mapped submeshes_size v ≡ mapped (counted k 0) v
      go (accepted x) d =
          let f = submeshes_spell s w m k p x.0 x.1 d in
          let z : point_count x.0 ≡ 0 + point_count x.0 = omega arith in
          rw (f.1, ← z)
      go (needs l) d = refl
      go (declined j) d = refl

  pub counted_end : (k points n p : ℕ) → n ≤ 0 → mapped (counted k points) (many (read_submesh s w m) n p) ≡ accepted (k, points)
  counted_end k points zero p h = rw (many_none (read_submesh s w m) p) (ap (λ (c : ℕ). accepted (k, c)) (omega arith))
  counted_end k points (suc n) p h = absurd (omega arith)

  pub counted_declined : (k points n p j : ℕ) → 0 < n → declined j ≡ mapped points_end (read_submesh s w m p) → mapped (counted k points) (many (read_submesh s w m) n p) ≡ declined j
  counted_declined k points zero p j h e = absurd (omega arith)
  counted_declined k points (suc n) p j h e = rw (many_declined (read_submesh s w m) n p j (mapped_declined points_end (read_submesh s w m p) j e))

  pub counted_on : (k points n p c q : ℕ) → 0 < n → accepted (c, q) ≡ mapped points_end (read_submesh s w m p)
      → mapped (counted k points) (many (read_submesh s w m) n p) ≡ mapped (counted k (points + c)) (many (read_submesh s w m) (n - 1) q)
  counted_on k points zero p c q h e = absurd (omega arith)
  counted_on k points (suc n) p c q h e =
      let v = mapped_value points_end (read_submesh s w m p) (c, q) e in
      let a : length v.0.0.points ≡ c = ap (λ (y : ℕ × ℕ). y.0) v.2 in
      let b : v.0.1 ≡ q = ap (λ (y : ℕ × ℕ). y.1) v.2 in
      let z : suc n - 1 ≡ n = omega arith in
      ap (mapped (counted k points)) (many_on (read_submesh s w m) n p v.0.0 v.0.1 v.1)
      ∙ more v.0.0 (many (read_submesh s w m) n v.0.1)
      ∙ same a (sym z) b
    where
      same : {a b i j p q : ℕ} → a ≡ b → i ≡ j → p ≡ q → mapped (counted k (points + a)) (many (read_submesh s w m) i p) ≡ mapped (counted k (points + b)) (many (read_submesh s w m) j q)
      same x y z = rw (x, y, z)

      more : (x : Submesh) (o : Found (List Submesh)) → mapped (counted k points) (and_then o (λ l. accepted (x ∷ l.0, l.1))) ≡ mapped (counted k (points + length x.points)) o
      more x (accepted l) = ap (λ (j : ℕ). accepted (k, j)) (omega arith)
      more x (needs l) = refl
      more x (declined j) = refl

-- ---- from the vertices on

module _ (s : List ℕ) (n m : ℕ) where
  abbrev vertex_run : Found (List ℕ)
  vertex_run = read_run s (width_of n) n (5 * m) (vertices_at n) (zeros 5)

  pub vertices_declined : (k : ℕ) → declined k ≡ judged vertex_run → declined k ≡ mapped body_size (after_counts s n m)
  vertices_declined k e = sym (ap (mapped body_size) (counts_declined s n m k (mapped_declined (λ _. tt) vertex_run k e)))

  module _ (e : accepted tt ≡ judged vertex_run) (w : ℕ) (ew : w ≡ width_of n) where
    -- the numbers, which are five for each vertex, and fit
    numbers : (ns : List ℕ) × (vertex_run ≡ accepted (ns, vertices_at n + 5 * m * w)) × (length ns ≡ 5 * m) × (1 ≤ m → vertices_at n + 5 * m * w ≤ 8 * length s)
    numbers =
        let f = mapped_value (λ _. tt) vertex_run tt e in
        let v = run_spells s (width_of n) n (5 * m) (vertices_at n) (zeros 5) f.0.0 f.0.1 (omega arith) f.1 in
        let i : f.0.1 ≡ vertices_at n + 5 * m * w = rw ew v.2 in
        (f.0.0, f.1 ∙ ap (λ (k : ℕ). accepted (f.0.0, k)) i, v.1, λ o. rw ew (run_fits (5 * m) v.0 v.1 (omega arith)))

    pub vertices_end_law : 1 ≤ m → vertices_at n + 5 * m * w ≤ 8 * length s
    vertices_end_law o = numbers.3 o

    -- the submeshes' place
    pub submeshes_place : (v : ℕ) → v ≡ width_of m → length s ≤ 67108864 → 1 ≤ m → m ≤ 32000
        → SubmeshPlace s v m (aligned (vertices_at n + 5 * m * w))
    submeshes_place v ev h o u =
        let r = vertices_end_law o in
        record { short = h; wide = ev; some = o; most = u; low = omega arith; inside = omega arith }

    -- the submeshes' answer makes the body's
    pub body_says_law : (v : ℕ) (r : Verdict (ℕ × ℕ)) → v ≡ width_of m → r ≡ mapped submeshes_size (read_submeshes s v m (aligned (vertices_at n + 5 * m * w)))
        → mapped (λ z. (m, z.0, z.1)) r ≡ mapped body_size (after_counts s n m)
    body_says_law v r ev d =
        let f = numbers in
        let c : length f.0 / 5 ≡ m = omega (arith, f.2) in
        rw (d, ev)
        (go f.0 c (read_submeshes s (width_of m) m (aligned (vertices_at n + 5 * m * w))) ∙ sym (ap (mapped body_size) (counts_on s n m f.0 (vertices_at n + 5 * m * w) f.1)))
      where
        go : (vs : List ℕ) → length vs / 5 ≡ m → (v : Found (List Submesh)) → mapped (λ z. (m, z.0, z.1)) (mapped submeshes_size v) ≡ mapped body_size (and_then v (mesh_of (read_words s 32 n) vs))
        go vs c (accepted l) = rw c
        go vs c (needs l) = refl
        go vs c (declined k) = refl
