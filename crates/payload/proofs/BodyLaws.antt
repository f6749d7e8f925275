-- A mesh body: one law for each way through, each with its counts known. Assumes nothing.
use Rattle.std.proofs.Common.{◌≡◌, ℕ, ◌+◌, ◌*◌, ◌<◌, ◌≤◌, List, length, sym, ap, ◌∙◌, arith}
use Rattle.bits.specs.Verdict.{accepted, declined, and_then}
use Rattle.bits.specs.Field.{field}
use Rattle.bits.specs.Number.{width_of}
use Rattle.bits.proofs.VerdictLaws.{then_yes, then_no, then_value}
use Rattle.payload.specs.Mesh.{Submesh, Mesh}
use Rattle.bits.specs.Run.{zeros, Found, complete, read_run}
use Rattle.payload.specs.MeshSpells.{aligned, vertices_at}
use Rattle.payload.specs.MeshRead.{in_range, many, read_word, read_submeshes, mesh_of, after_vertices}
use Rattle.payload.specs.MeshRead.{after_vertex_count, after_pool, after_pool_count, read_mesh}
use Rattle.payload.specs.Internal.{read_words, PoolThere, after_counts}
use Rattle.bits.proofs.RunLaws.{complete_yes, complete_no}
use Rattle.payload.proofs.RangeLaws.{inrange_low, inrange_high, inrange_yes, found_same}
use Rattle.payload.proofs.PoolLaws.{pool_yes, pool_value}

-- ---- up to the vertices

module _ (s : List ℕ) where
  pub mesh_short : 8 * length s < 32 → read_mesh s ≡ declined 3
  unfolding read_mesh
  mesh_short h = complete_no s 32 _ h

  module _ (h : 32 ≤ 8 * length s) where
    pub mesh_low : field s 0 32 < 1 → read_mesh s ≡ declined 7
    unfolding read_mesh
    mesh_low l = complete_yes s 32 _ h ∙ inrange_low 1 10000 _ _ l

    pub mesh_high : 10000 < field s 0 32 → read_mesh s ≡ declined 7
    unfolding read_mesh
    mesh_high l = complete_yes s 32 _ h ∙ inrange_high 1 10000 _ _ l

  pub mesh_on : (n : ℕ) → 32 ≤ 8 * length s → field s 0 32 ≡ n → 1 ≤ n → n ≤ 10000 → read_mesh s ≡ after_pool_count s n
  unfolding read_mesh
  mesh_on n h e l u = complete_yes s 32 _ h ∙ rw e (inrange_yes 1 10000 n _ l u)

module _ (s : List ℕ) (n : ℕ) where
  pub pool_declined : (k : ℕ) → many (read_word s) n 32 ≡ declined k → after_pool_count s n ≡ declined k
  unfolding after_pool_count
  pool_declined k e = then_no (many (read_word s) n 32) (after_pool s n) k e

  -- a mesh that was read has a pool of good words
  pub pool_accepted : (x : Mesh) (t : ℕ) → 32 ≤ 8 * length s → after_pool_count s n ≡ accepted (x, t) → PoolThere s n
  unfolding after_pool_count
  pool_accepted x t h e =
      let l = then_value (many (read_word s) n 32) (after_pool s n) (x, t) e in
      pool_value s n l.0.0 l.0.1 h l.1

  -- after the pool: the vertex count is complete where the bits up to the vertices are there, and else 3 is said
  module _ (P : PoolThere s n) where
    pub pool_read : after_pool_count s n
        ≡ complete s (vertices_at n)
        (in_range 1 32000 (field s (32 * n + 32) 32) (after_counts s n (field s (32 * n + 32) 32)))
    unfolding after_pool_count after_counts
    pool_read =
        then_yes (many (read_word s) n 32) (after_pool s n) (read_words s 32 n, 32 + 32 * n) (pool_yes s n P)
        ∙ at (32 + 32 * n) (32 + 32 * n + 32) (omega arith) (omega arith)
      where
        at : (p q : ℕ) → p ≡ 32 * n + 32 → q ≡ vertices_at n
            → complete s q (in_range 1 32000 (field s p 32) (after_vertex_count s n (read_words s 32 n) (field s p 32) q))
            ≡ complete s (vertices_at n) (in_range 1 32000 (field s (32 * n + 32) 32)
            (after_vertex_count s n (read_words s 32 n) (field s (32 * n + 32) 32) (vertices_at n)))
        at p q a b = rw (a, b)

    pub pool_short : 8 * length s < vertices_at n → after_pool_count s n ≡ declined 3
    pool_short h = pool_read ∙ complete_no s (vertices_at n) _ h

    module _ (h : vertices_at n ≤ 8 * length s) where
      pool_there : after_pool_count s n
          ≡ in_range 1 32000 (field s (32 * n + 32) 32) (after_counts s n (field s (32 * n + 32) 32))
      pool_there = pool_read ∙ complete_yes s (vertices_at n) _ h

      pub pool_low : field s (32 * n + 32) 32 < 1 → after_pool_count s n ≡ declined 7
      pool_low l = pool_there ∙ inrange_low 1 32000 _ _ l

      pub pool_high : 32000 < field s (32 * n + 32) 32 → after_pool_count s n ≡ declined 7
      pool_high l = pool_there ∙ inrange_high 1 32000 _ _ l

      pub pool_on : (m : ℕ) → field s (32 * n + 32) 32 ≡ m → 1 ≤ m → m ≤ 32000 → after_pool_count s n ≡ after_counts s n m
      pool_on m e l u = pool_there ∙ rw e (inrange_yes 1 32000 m _ l u)

-- ---- from the vertices on

-- the vertices' fields
abbrev pub vertex_run : List ℕ → ℕ → ℕ → Found (List ℕ)
vertex_run s n m = read_run s (width_of n) n (5 * m) (vertices_at n) (zeros 5)

-- the vertices' fields end at bit q, and the submeshes at bit t
pub record CountsParts (s : List ℕ) (n m : ℕ) (x : Mesh) (t : ℕ) : Type 0 where
  pub q : ℕ
  pub run : vertex_run s n m ≡ accepted (x.vertices, q)
  pub submeshes : read_submeshes s (width_of m) m (aligned q) ≡ accepted (x.submeshes, t)
  pub pool_is : x.pool ≡ read_words s 32 n

module _ (s : List ℕ) (n m : ℕ) where
  pub counts_declined : (k : ℕ) → vertex_run s n m ≡ declined k → after_counts s n m ≡ declined k
  unfolding after_counts
  counts_declined k e = then_no (vertex_run s n m) (after_vertices s (read_words s 32 n) m) k e

  pub counts_on : (vs : List ℕ) (q : ℕ) → vertex_run s n m ≡ accepted (vs, q)
      → after_counts s n m ≡ and_then (read_submeshes s (width_of m) m (aligned q)) (mesh_of (read_words s 32 n) vs)
  unfolding after_counts after_vertices
  counts_on vs q r = then_yes (vertex_run s n m) (after_vertices s (read_words s 32 n) m) (vs, q) r

  pub counts_parts : (x : Mesh) (t : ℕ) → after_counts s n m ≡ accepted (x, t) → CountsParts s n m x t
  unfolding after_counts after_vertices
  counts_parts x t e =
      let v = then_value (vertex_run s n m) (after_vertices s (read_words s 32 n) m) (x, t) e in
      let after = mesh_of (read_words s 32 n) v.0.0 in
      let l = then_value (read_submeshes s (width_of m) m (aligned v.0.1)) after (x, t) v.2 in
      from v.0.0 v.0.1 l.0.0 l.0.1 v.1 l.1 l.2
    where
      from : (vs : List ℕ) (q : ℕ) (l : List Submesh) (u : ℕ) → vertex_run s n m ≡ accepted (vs, q)
          → read_submeshes s (width_of m) m (aligned q) ≡ accepted (l, u)
          → mesh_of (read_words s 32 n) vs (l, u) ≡ accepted (x, t) → CountsParts s n m x t
      from vs q l u r f d =
          let i = (found_same d).0 in
          let j : u ≡ t = (found_same d).1 in
          record {
            q = q;
            run = r ∙ ap (λ (y : Mesh). accepted (y.vertices, q)) i;
            submeshes = f ∙ rw j (ap (λ (y : Mesh). accepted (y.submeshes, t)) i);
            pool_is = sym (ap (λ (y : Mesh). y.pool) i);
          }
