-- Where a submesh of a list that was read stands. Assumes nothing.
use Rattle.std.proofs.Common.{◌≡◌, ℕ, zero, suc, ◌+◌, ◌-◌, ◌<◌, ◌≤◌, cond, ltb, List, [], ◌∷◌, length, Option, Some, None, sym, refl, ap, ◌∙◌, arith, le-ltb, lt-ltb}
use Rattle.std.specs.Option.{MatchOption}
use Rattle.std.specs.Iterator.{Yields, SkipsThenYields}
use Rattle.bits.specs.Verdict.{Verdict, accepted, declined, mapped, limited}
use Rattle.bits.specs.Number.{width_of}
use Rattle.bits.specs.declared.fields.runs.Run.{Run}
use Rattle.bits.proofs.VerdictLaws.{mapped_value}
use Rattle.payload.specs.Mesh.{Submesh, Mesh}
use Rattle.payload.specs.MeshSpells.{submesh_bits, mesh_vertices, submeshes_at}
use Rattle.payload.specs.MeshRead.{read_mesh, read_meshes}
use Rattle.payload.specs.Internal.{WasRead, submeshes_of}
use Rattle.payload.specs.Internal.{mesh_read, meshes_from, HeadOf}
use Rattle.payload.specs.Places.{spot, Standing, submesh_from, submesh_in}
use Rattle.payload.specs.Places.{standing_at, standing_from, submesh_found, place_found}
use Rattle.payload.specs.Meshes.{list_size}
use Rattle.payload.specs.declared.mesh.head.Head.{Head}
use Rattle.payload.specs.declared.mesh.measure.MeshListSize.{MeshListSize}
use Rattle.payload.specs.declared.mesh.submeshes.Submeshes.{Submeshes}
use Rattle.payload.specs.declared.mesh.submeshes.TakenSubmesh.{TakenSubmesh}
use Rattle.payload.specs.declared.mesh.submeshes.SubmeshWalk.{SubmeshWalk}
use Rattle.payload.specs.declared.mesh.meshes.ReadMesh.{ReadMesh}
use Rattle.payload.specs.declared.mesh.meshes.MeshWalk.{MeshWalk}
use Rattle.payload.specs.InternalMeshes.{meshes_in, TakenMesh}
use Rattle.payload.specs.InternalWalk.{submeshes_in, taken_submesh, Taken, WalkGives}
use Rattle.payload.proofs.StepLaws.{read_value}
use Rattle.payload.proofs.MeshReadLaws.{mesh_spells}
use Rattle.payload.proofs.TurnLaws.{some_left, mesh_is, Listed, not_listed}
use Rattle.payload.proofs.HeadLaws.{HeadKnown, head_known}

-- ---- in a body, by the first of some submeshes

-- submesh number j of some, as the code knows them
abbrev pub submesh_among : List ℕ → Submeshes → ℕ → Verdict (Submesh × Run)
submesh_among s all j = submesh_from all.vertices all.bit (submeshes_of s all) j

module _ {w t : SubmeshWalk} {r : TakenSubmesh} (T : Taken w r t) where
  pub among_first : (j : ℕ) → j ≤ 0 → submesh_among w.s.now w.rest j ≡ accepted (taken_submesh w.s.now r, r.run)
  unfolding submesh_from
  among_first zero h =
      let run : Run =
      record { bit = w.rest.bit + 48; limit = w.rest.vertices; count = length (taken_submesh w.s.now r).points } in
      let e : run ≡ r.run =
      λ i. record { bit = sym T.place i; limit = sym T.limit i; count = sym T.count i } in
      rw (T.is, e)
  among_first (suc j) h = absurd (omega arith)

  pub among_rest : (j : ℕ) → 0 < j → submesh_among w.s.now w.rest j ≡ submesh_among t.s.now t.rest (j - 1)
  unfolding submesh_from
  among_rest zero h = absurd (omega arith)
  among_rest (suc j) h =
      let z : suc j - 1 ≡ j = omega arith in
      let p : w.rest.bit + submesh_bits (width_of w.rest.vertices) (taken_submesh w.s.now r) ≡ t.rest.bit =
      rw (← T.count) (omega (arith, T.after)) in
      ap (λ (l : List Submesh). submesh_from w.rest.vertices w.rest.bit l (suc j)) T.is
      ∙ ap (λ (q : ℕ). submesh_from w.rest.vertices q (submeshes_in t) j) p
      ∙ ap (λ (m : ℕ). submesh_from m t.rest.bit (submeshes_in t) j) (sym T.vertices)
      ∙ ap (submesh_among t.s.now t.rest) (sym z)

-- by a walk over them
walked : (xs : List TakenSubmesh) (w t : SubmeshWalk) → Yields WalkGives w xs t
    → (t.rest.left + length xs ≡ w.rest.left)
    × ((j : ℕ) → submesh_among w.s.now w.rest (length xs + j) ≡ submesh_among t.s.now t.rest j)
walked [] w t e =
    let l : t.rest.left ≡ w.rest.left = ap (λ (v : SubmeshWalk). v.rest.left) (sym e) in (
      omega arith,
      λ j. let z : 0 + j ≡ j = omega arith in rw z (ap (λ (v : SubmeshWalk). submesh_among v.s.now v.rest j) e),
    )
walked (x ∷ xs) w t (v, T, y) =
    let i = walked xs v t y in (
      omega (arith, i.0, T.left),
      λ j.
          let z : suc (length xs) + j - 1 ≡ length xs + j = omega arith in
          among_rest T (suc (length xs) + j) (omega arith) ∙ rw z (i.1 j),
    )

-- the run of number n, which is there
pub nth_run : (w u : SubmeshWalk) (n : ℕ) (r : Option TakenSubmesh) → n < w.rest.left → SkipsThenYields WalkGives w n r u
    → MatchOption r ⊥ (λ x. accepted x.run ≡ mapped (λ x. x.1) (submesh_among w.s.now w.rest n))
nth_run w u n None h (xs, (t, y, d), l) =
    let i = walked xs w t y in some_left t.there (omega (arith, i.0, l)) d
nth_run w u n (Some x) h (xs, (t, y, T), l) =
    let z : length xs + 0 ≡ n = omega arith in
    let i = rw z at ((walked xs w t y).1 0) in
    sym (ap (mapped (λ x. x.1)) (i ∙ among_first T 0 (omega arith)))

-- ---- in a body that was read, by its head

pub head_among : (s : List ℕ) (h : Head) → WasRead (read_mesh s) → HeadOf s h → HeadKnown s h
    → (j : ℕ) → submesh_in (mesh_read s) j ≡ submesh_among s h.submeshes j
head_among s h r H K j =
    let v = read_value (read_mesh s) r in
    let z : mesh_read s ≡ v.0.0 = mesh_is s v.0 v.1 in
    let n : length (mesh_read s).pool ≡ h.vertices.limit =
    rw z (sym (mesh_spells s v.0.0 v.0.1 v.1).pool_count) ∙ sym H.pool in
    let m : mesh_vertices (mesh_read s) ≡ h.submeshes.vertices = omega (arith, K.fives, K.same) in
    let p : submeshes_at (mesh_read s) + 32 ≡ h.submeshes.bit = rw (n, K.fives) (sym H.first) in
    rw (m, p, ← K.are) refl

-- ---- in a list

-- submesh number j of the meshes that a walk has left
abbrev pub standing_in : MeshWalk → ℕ → Verdict Standing
standing_in w j = standing_from w.s.now w.at (meshes_in w) j

pub standing-none : (w : MeshWalk) (j : ℕ) → meshes_in w ≡ [] → standing_in w j ≡ declined 24
unfolding standing_from
standing-none w j e = ap (λ (l : List Mesh). standing_from w.s.now w.at l j) e

module _ {w t : MeshWalk} {m : ReadMesh} (T : TakenMesh w m t) (j : ℕ) where
  by_first : standing_in w j
      ≡ cond (ltb j (length (mesh_read m.s.now).submeshes))
      (mapped (standing_at (spot m.body m.end)) (submesh_in (mesh_read m.s.now) j))
      (standing_in t (j - length (mesh_read m.s.now).submeshes))
  unfolding standing_from
  by_first = ap (λ (l : List Mesh). standing_from w.s.now w.at l j) T.is ∙ rw (T.list, T.after, ← T.there)

  pub in_first : j < length (mesh_read m.s.now).submeshes
      → standing_in w j ≡ mapped (standing_at (spot m.body m.end)) (submesh_in (mesh_read m.s.now) j)
  in_first h = by_first ∙ rw (lt-ltb j (length (mesh_read m.s.now).submeshes) h)

  pub in_others : length (mesh_read m.s.now).submeshes ≤ j
      → standing_in w j ≡ standing_in t (j - length (mesh_read m.s.now).submeshes)
  in_others h = by_first ∙ rw (le-ltb j (length (mesh_read m.s.now).submeshes) h)

-- the place that is told
in_body : (body end : ℕ) (v : Verdict (Submesh × Run)) (run : Run) → accepted run ≡ mapped (λ x. x.1) v
    → mapped (λ x. x.place) (mapped (standing_at (spot body end)) v)
    ≡ accepted (record { body = body; end = end; run = run })
in_body body end v run e =
    let t = mapped_value (λ x. x.1) v run e in
    rw t.1 (ap (λ (r : Run). accepted (record { body = body; end = end; run = r })) t.2)

module _ {w t : MeshWalk} {m : ReadMesh} (T : TakenMesh w m t) (h : Head) (H : HeadOf m.s.now h) (j : ℕ) where
  pub standing_on : h.submeshes.left ≤ j → standing_in w j ≡ standing_in t (j - h.submeshes.left)
  standing_on l =
      let n = (head_known m.s.now h m.short m.read H).count in
      in_others T j (omega (arith, n)) ∙ ap (λ (k : ℕ). standing_in t (j - k)) n

  pub standing_here : j < h.submeshes.left → (run : Run)
      → accepted run ≡ mapped (λ x. x.1) (submesh_among m.s.now h.submeshes j)
      → accepted (record { body = m.body; end = m.end; run = run }) ≡ mapped (λ (x : Standing). x.place) (standing_in w j)
  standing_here l run d =
      let L = head_known m.s.now h m.short m.read H in
      sym (ap (mapped (λ (x : Standing). x.place)) (in_first T j (omega (arith, L.count)))
      ∙ in_body m.body m.end (submesh_in (mesh_read m.s.now) j) run
      (d ∙ ap (mapped (λ x. x.1)) (sym (head_among m.s.now h m.read H L j))))

-- ---- in a payload

pub found_declined : (s : List ℕ) (j k : ℕ) → declined k ≡ limited s (mapped list_size (read_meshes s))
    → declined k ≡ place_found s j
unfolding submesh_found
found_declined s j k e = rw (not_listed s k e) refl

pub found_listed : (s : List ℕ) (j : ℕ) {n : MeshListSize} → Listed s n
    → mapped (λ (x : Standing). x.place) (standing_from s 0 (meshes_from s 0) j) ≡ place_found s j
unfolding submesh_found
found_listed s j L = rw L.is refl
