-- A mesh that was read, at the numbers of its head: where its vertices and submeshes stand, and how its words are found. Assumes nothing.
use Rattle.std.proofs.Common.{◌≡◌, ℕ, ◌+◌, ◌-◌, ◌*◌, ◌<◌, ◌≤◌, List, length, get_or, sym, refl, ap, ◌∙◌, arith}
use lib.Seq.{sets, length-sets}
use Rattle.bits.specs.Verdict.{accepted}
use Rattle.bits.specs.Field.{field}
use Rattle.bits.specs.Number.{width_of}
use Rattle.bits.specs.Run.{zeros, read_run}
use Rattle.payload.specs.Mesh.{Mesh}
use Rattle.payload.specs.MeshSpells.{SubmeshesSpell, aligned, vertices_at}
use Rattle.payload.specs.MeshRead.{many, read_submesh, read_mesh}
use Rattle.payload.specs.MeshDrawing.{submesh_words, coordinate, mesh_words}
use Rattle.payload.specs.Internal.{read_words, WasRead, run_numbers, VerticesThere, numbers_of, SubmeshesThere, submeshes_of, submeshes_read, word_at, Pooled, mesh_read, HeadOf}
use Rattle.payload.specs.declared.mesh.head.Head.{Head}
use Rattle.payload.proofs.FillLaws.{get_d_sets}
use Rattle.payload.proofs.StepLaws.{read_value}
use Rattle.payload.proofs.RangeLaws.{words_at}
use Rattle.payload.proofs.MeshReadLaws.{MeshParts, mesh_parts, parts_vertices, parts_submeshes}
use Rattle.payload.proofs.TurnLaws.{mesh_is}
use Rattle.payload.proofs.PointLaws.{submeshes_agree}

-- ---- a buffer that holds a mesh's coordinate numbers from `base` on

module _ (s : List ℕ) (x : Mesh) (n m : ℕ) (fives : length x.vertices ≡ 5 * m) (head : vertices_at n ≤ 8 * length s)
    (below : (i : ℕ) → i < length x.vertices → get_or x.vertices i 0 < n) (d : List ℕ) (base : ℕ) (room : base + 5 * m ≤ length d) where
  held : (k : ℕ) → k < 5 * m → get_or (sets d base x.vertices) (base + k) 0 ≡ get_or x.vertices k 0
  held k l = get_d_sets d base x.vertices k (omega arith) (omega arith)

  held_pooled : Pooled s (sets d base x.vertices) base (5 * m)
  held_pooled =
      record {
        there = rw (length-sets d base x.vertices) room;
        inside = λ i a b.
            let e : base + (i - base) ≡ i = omega arith in
            omega (arith, rw e at (held (i - base) (omega arith)), below (i - base) (omega arith));
      }

  held_drawn : (w p : ℕ) → x.pool ≡ read_words s 32 n → SubmeshesSpell s w m p x.submeshes
      → submesh_words (word_at s (sets d base x.vertices)) base x.submeshes ≡ mesh_words x
  held_drawn w p e u = submeshes_agree (word_at s (sets d base x.vertices)) (coordinate x) base 0 m same s w p x.submeshes u
    where
      same : (k : ℕ) → k < 5 * m → field s (32 + 32 * get_or (sets d base x.vertices) (base + k) 0) 32 ≡ get_or x.pool (get_or x.vertices (0 + k) 0) 0
      same k l =
          let z : 0 + k ≡ k = omega arith in
          rw (held k l, z, e, words_at s 32 n (get_or x.vertices k 0) (below k (omega arith))) (ap (λ (j : ℕ). field s j 32) (omega arith))

-- ---- a mesh that was read: its counts n, m and k, and the bit place of its first submesh

pub record MeshKnown (s : List ℕ) (n m k first : ℕ) : Type 0 where
  pub head : vertices_at n ≤ 8 * length s
  pub n_most : n ≤ 10000
  pub m_most : m ≤ 32000
  pub n_some : 1 ≤ n
  pub m_some : 1 ≤ m
  pub run : WasRead (read_run s (width_of n) n (5 * m) (vertices_at n) (zeros 5))
  pub numbers : run_numbers (read_run s (width_of n) n (5 * m) (vertices_at n) (zeros 5)) ≡ (mesh_read s).vertices
  pub fives : length (mesh_read s).vertices ≡ 5 * m
  pub low : 64 ≤ first
  pub tail : first ≤ 8 * length s
  pub each : WasRead (many (read_submesh s (width_of m) m) k first)
  pub are : submeshes_read (many (read_submesh s (width_of m) m) k first) ≡ (mesh_read s).submeshes
  pub count : length (mesh_read s).submeshes ≡ k
  -- where a buffer holds the coordinate numbers from `base` on, the words that are found by them are the drawing's
  pub pooled : (d : List ℕ) (base : ℕ) → base + 5 * m ≤ length d → Pooled s (sets d base (mesh_read s).vertices) base (5 * m)
  pub drawn : (d : List ℕ) (base : ℕ) → base + 5 * m ≤ length d
      → submesh_words (word_at s (sets d base (mesh_read s).vertices)) base (mesh_read s).submeshes ≡ mesh_words (mesh_read s)

parts_known : (s : List ℕ) (x : Mesh) (t : ℕ) → read_mesh s ≡ accepted (x, t) → (P : MeshParts s x t) → MeshKnown s P.n P.m P.k (aligned P.q + 32)
parts_known s x t e P =
    let v = parts_vertices P in
    let u = parts_submeshes P in
    let z : mesh_read s ≡ x = mesh_is s (x, t) e in
    let r : WasRead (many (read_submesh s (width_of P.m) P.m) P.k (aligned P.q + 32)) = rw P.each tt in
    let a : submeshes_read (many (read_submesh s (width_of P.m) P.m) P.k (aligned P.q + 32)) ≡ x.submeshes = rw P.each in
    record {
      head = P.head;
      n_most = P.n_most;
      m_most = P.m_most;
      n_some = P.n_some;
      m_some = P.m_some;
      run = rw P.run tt;
      numbers = rw (P.run, z);
      fives = rw z v.1;
      low = omega (arith, v.2);
      tail = P.tail;
      each = r;
      are = rw z a;
      count = rw z u.1;
      pooled = λ d base h. rw z (held_pooled s x P.n P.m v.1 P.head v.0.below d base h);
      drawn = λ d base h. rw z (held_drawn s x P.n P.m v.1 P.head v.0.below d base h (width_of P.m) (aligned P.q + 32) P.pool_is u.0);
    }

-- at the numbers that the code finds
pub mesh_known : (s : List ℕ) → WasRead (read_mesh s) → (n m k first : ℕ) → n ≡ field s 0 32 → m ≡ field s (32 * n + 32) 32
    → first ≡ aligned (vertices_at n + 5 * m * width_of n) + 32 → k ≡ field s (aligned (vertices_at n + 5 * m * width_of n)) 32 → MeshKnown s n m k first
mesh_known s r n m k first a b d e = let v = read_value (read_mesh s) r in go v.0.0 v.0.1 v.1 (mesh_parts s v.0.0 v.0.1 v.1)
  where
    at : (n' m' k' first' : ℕ) → n' ≡ n → m' ≡ m → k' ≡ k → first' ≡ first → MeshKnown s n' m' k' first' → MeshKnown s n m k first
    at n' m' k' first' e₁ e₂ e₃ e₄ K = rw (e₁, e₂, e₃, e₄) at K

    go : (x : Mesh) (t : ℕ) → read_mesh s ≡ accepted (x, t) → MeshParts s x t → MeshKnown s n m k first
    go x t f P =
        let i : P.n ≡ n = sym P.n_is ∙ sym a in
        let j : P.m ≡ m = sym P.m_is ∙ rw i (sym b) in
        let h : P.q ≡ vertices_at n + 5 * m * width_of n = (parts_vertices P).2 ∙ rw (i, j) in
        at P.n P.m P.k (aligned P.q + 32) i j (sym P.k_is ∙ rw h (sym e)) (rw h (sym d)) (parts_known s x t f P)

-- its head, where only the coordinate count is known
pub head_room : (s : List ℕ) → WasRead (read_mesh s) → (n : ℕ) → n ≡ field s 0 32 → vertices_at n ≤ 8 * length s
head_room s r n e = (mesh_known s r n (field s (32 * n + 32) 32) _ _ e refl refl refl).head

-- ---- the same of a head

pub record HeadKnown (s : List ℕ) (h : Head) : Type 0 where
  pub head : vertices_at h.vertices.limit ≤ 8 * length s
  pub vertices : VerticesThere s h.vertices
  pub submeshes : SubmeshesThere s h.submeshes
  pub same : h.submeshes.vertices ≡ h.vertices.count
  pub numbers : numbers_of s h.vertices ≡ (mesh_read s).vertices
  pub fives : length (mesh_read s).vertices ≡ 5 * h.vertices.count
  pub are : submeshes_of s h.submeshes ≡ (mesh_read s).submeshes
  pub count : length (mesh_read s).submeshes ≡ h.submeshes.left
  pub pooled : (d : List ℕ) (base : ℕ) → base + 5 * h.vertices.count ≤ length d → Pooled s (sets d base (mesh_read s).vertices) base (5 * h.vertices.count)
  pub drawn : (d : List ℕ) (base : ℕ) → base + 5 * h.vertices.count ≤ length d
      → submesh_words (word_at s (sets d base (mesh_read s).vertices)) base (mesh_read s).submeshes ≡ mesh_words (mesh_read s)

pub head_known : (s : List ℕ) (h : Head) → length s ≤ 67108864 → WasRead (read_mesh s) → HeadOf s h → HeadKnown s h
head_known s h l r H =
    let v = h.vertices in
    let K = mesh_known s r v.limit v.count h.submeshes.left h.submeshes.bit H.pool H.count H.first H.left in
    record {
      head = K.head;
      vertices = record { short = l; low = omega (arith, H.start); some = K.n_some; most = K.n_most; vertices = K.m_some; read = rw H.start K.run };
      submeshes = record { short = l; low = K.low; some = omega (arith, H.vertices, K.m_some); most = omega (arith, H.vertices, K.m_most); read = rw H.vertices K.each };
      same = H.vertices;
      numbers = rw H.start K.numbers;
      fives = K.fives;
      are = rw H.vertices K.are;
      count = K.count;
      pooled = K.pooled;
      drawn = K.drawn;
    }
