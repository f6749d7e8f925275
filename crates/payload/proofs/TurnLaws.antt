-- What a pass over a mesh list that was read learns: of the next submesh, of the next box, and of a list that was measured. Assumes nothing.
use Rattle.std.proofs.Common.{◌≡◌, ℕ, zero, suc, ◌+◌, ◌-◌, ◌*◌, ◌<◌, ◌≤◌, List, [], ◌∷◌, ◌++◌, length, sym, refl, ap, ◌∙◌, arith, eq-eqb, ne_eqb}
use native.Mathlib.Decide.{ℕ_discrete}
use lib.Seq.{sets}
use Rattle.bits.specs.Verdict.{Verdict, accepted, needs, declined, and_then, mapped}
use Rattle.bits.specs.Field.{field}
use Rattle.bits.specs.Number.{width_of}
use Rattle.bits.specs.Header.{list_end, sized, header_at}
use Rattle.bits.proofs.VerdictLaws.{then_value, mapped_value, mapped_declined}
use Rattle.bits.specs.Verdict.{limited}
use Rattle.payload.specs.Mesh.{Submesh, Mesh}
use Rattle.bits.specs.Run.{zeros, Found, read_run}
use Rattle.payload.specs.MeshSpells.{header_bytes, mesh_type, part}
use Rattle.payload.specs.MeshRead.{many, read_submesh, read_mesh, read_meshes}
use Rattle.payload.specs.Internal.{any_from}
use Rattle.payload.specs.MeshDrawing.{point_count, drawn_numbers, drawn_floats, drawn_records}
use Rattle.payload.specs.Meshes.{list_size}
use Rattle.payload.specs.Internal.{WasRead, value_or, run_numbers, PointsThere, points_of, submeshes_read, SubmeshesThere, submeshes_of, mesh_read, box_meshes, box_read, meshes_from}
use Rattle.payload.specs.declared.mesh.submeshes.Submeshes.{Submeshes}
use Rattle.payload.specs.declared.mesh.submeshes.TakenSubmesh.{TakenSubmesh}
use Rattle.payload.specs.declared.mesh.submeshes.SubmeshWalk.{SubmeshWalk}
use Rattle.payload.specs.InternalWalk.{submeshes_in, taken_submesh, Taken}
use Rattle.payload.specs.declared.mesh.measure.MeshListSize.{MeshListSize}
use Rattle.payload.proofs.FillLaws.{sets-after}
use Rattle.payload.proofs.PayloadLaws.{limited_value, limited_mapped}
use Rattle.bits.proofs.RunLaws.{spells_run}
use Rattle.bits.proofs.FieldLaws.{field_lt}
use Rattle.payload.proofs.StepLaws.{read_value}
use Rattle.payload.proofs.MeshTheorems.{any_read}
use Rattle.payload.proofs.RangeLaws.{many_on}
use Rattle.payload.proofs.SubmeshLaws.{submesh_spells}
use Rattle.payload.proofs.BoxReadLaws.{body_after, header_value, at_end, at_mesh, at_other}
use Rattle.payload.proofs.CheckLaws.{run_fits}

-- ---- submeshes

-- the first of n submeshes from bit p on, whose point count is k
record SubmeshTurn (s : List ℕ) (w m n p k : ℕ) (x : Submesh) : Type 0 where
  pub texture : field s p 8 ≡ x.texture
  pub mode : field s (p + 8) 8 ≡ x.mode
  pub count : k ≡ length x.points
  pub some : 1 ≤ k
  pub ends : p + 48 + k * w ≤ 8 * length s
  pub run : read_run s w m k (p + 48) (zeros 1) ≡ accepted (x.points, p + 48 + k * w)
  pub is : submeshes_read (many (read_submesh s w m) n p) ≡ x ∷ submeshes_read (many (read_submesh s w m) (n - 1) (p + 48 + k * w))
  pub rest : WasRead (many (read_submesh s w m) (n - 1) (p + 48 + k * w))

first_read : {A : Type 0} (read : ℕ → Found A) (n p : ℕ) → WasRead (many read (suc n) p) → (a : A) × (q : ℕ) × (read p ≡ accepted (a, q))
unfolding many
first_read read n p r =
    let v = read_value (many read (suc n) p) r in
    let b = then_value (read p) (λ x. and_then (many read n x.1) (λ l. accepted (x.0 ∷ l.0, l.1))) v.0 v.1 in
    (b.0.0, b.0.1, b.1)

abbrev joined : Submesh → List Submesh × ℕ → Found (List Submesh)
joined x l = accepted (x ∷ l.0, l.1)

tail_read : (x : Submesh) (v : Found (List Submesh)) → WasRead (and_then v (joined x)) → (submeshes_read (and_then v (joined x)) ≡ x ∷ submeshes_read v) × WasRead v
tail_read x (accepted l) r = (refl, tt)
tail_read x (needs k) r = absurd r
tail_read x (declined k) r = absurd r

module _ (s : List ℕ) (w m : ℕ) where
  submesh_turn : (n p k : ℕ) → 0 < n → WasRead (many (read_submesh s w m) n p) → k ≡ field s (p + 16) 32 → (x : Submesh) × SubmeshTurn s w m n p k x
  submesh_turn zero p k o r c = absurd (omega arith)
  submesh_turn (suc n) p k o r c = let v = first_read (read_submesh s w m) n p r in go v.0 v.1 v.2
    where
      z : suc n - 1 ≡ n
      z = omega arith

      go : (x : Submesh) (q : ℕ) → read_submesh s w m p ≡ accepted (x, q) → (x : Submesh) × SubmeshTurn s w m (suc n) p k x
      go x q d =
          let f = submesh_spells s w m p x q d in
          let e = many_on (read_submesh s w m) n p x q d in
          let b = tail_read x (many (read_submesh s w m) n q) (rw e at r) in
          let g : k ≡ length x.points = c ∙ f.0.count in
          let j : q ≡ p + (48 + k * w) = rw g f.1 in
          let i : q ≡ p + 48 + k * w = omega arith in (
            x,
            record {
              texture = f.0.texture;
              mode = f.0.mode;
              count = g;
              some = omega (arith, f.0.some);
              ends = run_fits k f.0.run (sym g) (omega (arith, f.0.some));
              run = rw g (spells_run s w m (p + 48) (zeros 1) x.points (omega arith) f.0.run);
              is = rw (z, e, ← i) b.0;
              rest = rw (z, ← i) b.1;
            },
          )

-- what taking the first of some submeshes tells
pub record First (s : List ℕ) (all : Submeshes) (r : TakenSubmesh) (rest : Submeshes) : Type 0 where
  pub is : submeshes_of s all ≡ taken_submesh s r ∷ submeshes_of s rest
  pub byte : r.texture < 256
  pub run : PointsThere s r.run
  pub there : SubmeshesThere s rest
  pub count : r.run.count ≡ length (points_of s r.run)
  pub place : r.run.bit ≡ all.bit + 48
  pub after : rest.bit ≡ all.bit + 48 + r.run.count * width_of all.vertices
  pub limit : r.run.limit ≡ all.vertices
  pub vertices : rest.vertices ≡ all.vertices
  pub left : rest.left + 1 ≡ all.left

pub taken : (s : List ℕ) (all : Submeshes) (a b k w : ℕ) → SubmeshesThere s all → 1 ≤ all.left → a ≡ field s all.bit 8 → b ≡ field s (all.bit + 8) 8
    → k ≡ field s (all.bit + 16) 32 → w ≡ width_of all.vertices
    → First s all
    (record {
      texture = a;
      mode = b;
      run = record { bit = all.bit + 48; limit = all.vertices; count = k };
    })
    (record { bit = all.bit + 48 + k * w; vertices = all.vertices; left = all.left - 1 })
taken s all a b k w S o ea eb ek ew = rw ew (go (submesh_turn s v m all.left all.bit k (omega arith) S.read ek))
  where
    m : ℕ
    m = all.vertices

    v : ℕ
    v = width_of all.vertices

    go : (x : Submesh) × SubmeshTurn s v m all.left all.bit k x
        → First s all
        (record {
          texture = a;
          mode = b;
          run = record { bit = all.bit + 48; limit = m; count = k };
        })
        (record { bit = all.bit + 48 + k * v; vertices = m; left = all.left - 1 })
    go (x, T) =
        let p : run_numbers (read_run s v m k (all.bit + 48) (zeros 1)) ≡ x.points = ap run_numbers T.run in
        let e : x ≡ record { texture = a; mode = b; points = run_numbers (read_run s v m k (all.bit + 48) (zeros 1)) } =
        λ i. record { texture = (sym T.texture ∙ sym ea) i; mode = (sym T.mode ∙ sym eb) i; points = sym p i } in
        record {
          is = T.is ∙ rw e;
          byte = omega (arith, ea, field_lt s all.bit 8);
          run = record { short = S.short; low = omega (arith, S.low); some = S.some; most = S.most; points = T.some; read = rw T.run tt };
          there = record { short = S.short; low = omega (arith, S.low); some = S.some; most = S.most; read = T.rest };
          count = T.count ∙ ap length (sym p);
          place = refl;
          after = refl;
          limit = refl;
          vertices = refl;
          left = omega arith;
        }

-- the head of the first submesh, and all its points, lie inside
pub head_inside : {s : List ℕ} {all : Submeshes} → SubmeshesThere s all → 1 ≤ all.left → (length s ≤ 67108864) × (all.bit + 48 ≤ 8 * length s)
head_inside {s} {all} S o =
    let t = submesh_turn s (width_of all.vertices) all.vertices all.left all.bit (field s (all.bit + 16) 32) (omega arith) S.read refl in
    (S.short, omega (arith, t.1.ends))

pub points_inside : {s : List ℕ} {all : Submeshes} (k w : ℕ) → SubmeshesThere s all → 1 ≤ all.left → k ≡ field s (all.bit + 16) 32 → w ≡ width_of all.vertices
    → (length s ≤ 67108864) × (all.bit + 48 + k * w ≤ 8 * length s)
points_inside {s} {all} k w S o ek ew = (S.short, rw ew (submesh_turn s (width_of all.vertices) all.vertices all.left all.bit k (omega arith) S.read ek).1.ends)

-- some of them are left
pub some_left : {s : List ℕ} {all : Submeshes} → SubmeshesThere s all → 1 ≤ all.left → submeshes_of s all ≡ [] → ⊥
some_left {s} {all} S o e =
    let t = submesh_turn s (width_of all.vertices) all.vertices all.left all.bit (field s (all.bit + 16) 32) (omega arith) S.read refl in
    let d = sym t.1.is ∙ e in
    cc

pub none_left : (s : List ℕ) (all : Submeshes) → all.left ≤ 0 → submeshes_of s all ≡ []
unfolding many
none_left s all h = go all.left h
  where
    go : (n : ℕ) → n ≤ 0 → submeshes_read (many (read_submesh s (width_of all.vertices) all.vertices) n all.bit) ≡ []
    go zero h = refl
    go (suc n) h = absurd (omega arith)

module _ {w t : SubmeshWalk} {r : TakenSubmesh} (T : Taken w r t) where
  -- how many points all of them have
  pub taken_points : point_count (submeshes_in w) ≡ r.run.count + point_count (submeshes_in t)
  taken_points = ap point_count T.is ∙ omega (arith, T.count)

  -- what the submesh that was taken gives was stored, and what the others give is left
  pub taken_stored : (f g : List Submesh → List ℕ) (words : List ℕ) → ((l : List Submesh) → f (taken_submesh w.s.now r ∷ l) ≡ words ++ g l) → (d d' : List ℕ) (at to : ℕ)
      → d' ≡ sets d at words → at + length words ≡ to → sets d at (f (submeshes_in w)) ≡ sets d' to (g (submeshes_in t))
  taken_stored f g words c d d' at to e h =
      rw e (ap (λ (l : List Submesh). sets d at (f l)) T.is ∙ ap (sets d at) (c _) ∙ sets-after words (g _) d at to h)

-- ---- the mesh of a body, and boxes

pub mesh_is : (s : List ℕ) (x : Mesh × ℕ) → read_mesh s ≡ accepted x → mesh_read s ≡ x.0
mesh_is s x e = rw (e, mesh_read)

module _ (s : List ℕ) (type body end : ℕ) where
  pub box_skipped : (type ≡ mesh_type → ⊥) → box_meshes s type body end ≡ accepted []
  box_skipped n = simp (ne_eqb type mesh_type n)

  pub box_held : type ≡ mesh_type → WasRead (box_meshes s type body end) → WasRead (read_mesh (part s body end)) × (box_read s type body end ≡ mesh_read (part s body end) ∷ [])
  box_held y r =
      let e : box_meshes s type body end ≡ mapped (λ x. x.0 ∷ []) (read_mesh (part s body end)) = simp (eq-eqb type mesh_type y) in
      let b = go (read_mesh (part s body end)) (rw e at r) in
      (b.0, ap (value_or []) e ∙ b.1)
    where
      go : (v : Found Mesh) → WasRead (mapped (λ x. x.0 ∷ []) v) → WasRead v × (value_or [] (mapped (λ x. x.0 ∷ []) v) ≡ (value_or (record { pool = []; vertices = []; submeshes = [] }, 0) v).0 ∷ [])
      go (accepted x) r = (tt, refl)
      go (needs l) r = absurd r
      go (declined k) r = absurd r

-- the next box of a list that was read
pub record BoxTurn (s : List ℕ) (p type body end : ℕ) : Type 0 where
  pub starts : p + header_bytes ≤ body
  pub whole : body ≤ end
  pub ends : end ≤ length s
  pub read : WasRead (box_meshes s type body end)
  pub rest : WasRead (any_from s end)
  pub is : meshes_from s p ≡ box_read s type body end ++ meshes_from s end

pub box_turn : (s : List ℕ) (p type body end : ℕ) → WasRead (any_from s p) → header_at s p ≡ accepted (sized type body end) → BoxTurn s p type body end
box_turn s p type body end r h = let b = header_value s p type body end h in go (omega (arith, body_after s p, b.2)) (omega (arith, b.0.least, b.2, b.3)) (omega (arith, b.0.most, b.3)) (ℕ_discrete type mesh_type)
  where
    both : (v : Found Mesh) (q : Verdict (List Mesh)) → WasRead (and_then v (λ x. and_then q (λ l. accepted (x.0 ∷ l))))
        → WasRead (mapped (λ x. x.0 ∷ []) v) × WasRead q × (value_or [] (and_then v (λ x. and_then q (λ l. accepted (x.0 ∷ l)))) ≡ value_or [] (mapped (λ x. x.0 ∷ []) v) ++ value_or [] q)
    both (accepted x) (accepted l) r = (tt, tt, refl)
    both (accepted x) (needs l) r = absurd r
    both (accepted x) (declined k) r = absurd r
    both (needs l) q r = absurd r
    both (declined k) q r = absurd r

    go : p + header_bytes ≤ body → body ≤ end → end ≤ length s → Dec (type ≡ mesh_type) → BoxTurn s p type body end
    go a b c (yes y) =
        let e = at_mesh s p type body end h y in
        let i : box_meshes s type body end ≡ mapped (λ x. x.0 ∷ []) (read_mesh (part s body end)) = simp (eq-eqb type mesh_type y) in
        let g = both (read_mesh (part s body end)) (any_from s end) (rw e at r) in
        record { starts = a; whole = b; ends = c; read = rw i g.0; rest = g.1; is = ap (value_or []) e ∙ g.2 ∙ ap (λ (v : Verdict (List Mesh)). value_or [] v ++ meshes_from s end) (sym i) }
    go a b c (no n) =
        let e = at_other s p type body end h n in
        let i = box_skipped s type body end n in
        record { starts = a; whole = b; ends = c; read = rw i tt; rest = rw e at r; is = ap (value_or []) e ∙ ap (λ (v : Verdict (List Mesh)). value_or [] v ++ meshes_from s end) (sym i) }

pub list_end_lem : (s : List ℕ) (p : ℕ) → header_at s p ≡ accepted list_end → meshes_from s p ≡ []
list_end_lem s p h = ap (value_or []) (at_end s p h)

-- ---- what measuring told

pub record Listed (s : List ℕ) (n : MeshListSize) : Type 0 where
  pub short : length s ≤ 67108864
  pub read : WasRead (read_meshes s)
  pub is : limited s (read_meshes s) ≡ accepted (meshes_from s 0)
  pub size : n ≡ list_size (meshes_from s 0)

pub listed : (s : List ℕ) (n : MeshListSize) → accepted n ≡ limited s (mapped list_size (read_meshes s)) → Listed s n
listed s n e =
    let v = mapped_value list_size (limited s (read_meshes s)) n (e ∙ limited_mapped s list_size (read_meshes s)) in
    let l = limited_value s (read_meshes s) v.0 v.1 in
    let i : meshes_from s 0 ≡ v.0 = ap (value_or []) (any_read s v.0 l.1) in
    record { short = l.0; read = rw l.1 tt; is = v.1 ∙ ap accepted (sym i); size = sym v.2 ∙ ap list_size (sym i) }

pub not_listed : (s : List ℕ) (k : ℕ) → declined k ≡ limited s (mapped list_size (read_meshes s)) → limited s (read_meshes s) ≡ declined k
not_listed s k e = mapped_declined list_size (limited s (read_meshes s)) k (e ∙ limited_mapped s list_size (read_meshes s))

module _ {s : List ℕ} {n : MeshListSize} (L : Listed s n) where
  pub listed_meshes_law : n.meshes ≡ length (meshes_from s 0)
  unfolding list_size
  listed_meshes_law = ap (λ (m : MeshListSize). m.meshes) L.size

  -- its drawing's lengths
  pub listed_lengths : (n.numbers ≡ length (drawn_numbers (meshes_from s 0))) × (n.floats ≡ length (drawn_floats (meshes_from s 0))) × (n.records ≡ length (drawn_records (meshes_from s 0)))
  unfolding list_size
  listed_lengths = (ap (λ (m : MeshListSize). m.numbers) L.size, ap (λ (m : MeshListSize). m.floats) L.size, ap (λ (m : MeshListSize). m.records) L.size)
