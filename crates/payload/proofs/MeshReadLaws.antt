-- What a mesh that was read is made of, and that it is read exactly where it is spelled. Assumes nothing.
use Rattle.std.proofs.Common.{◌≡◌, ℕ, ◌+◌, ◌*◌, ◌<◌, ◌≤◌, List, length, sym, refl, ap, ◌∙◌, arith, ext_get_or}
use Rattle.bits.specs.Verdict.{accepted}
use Rattle.bits.specs.Field.{field}
use Rattle.bits.specs.Number.{width_of}
use Rattle.bits.proofs.VerdictLaws.{then_yes}
use Rattle.payload.specs.Float.{AllFinite}
use Rattle.payload.specs.Mesh.{Mesh}
use Rattle.bits.specs.Run.{zeros, RunSpells}
use Rattle.payload.specs.MeshSpells.{submesh_bits, sizes, SubmeshesSpell, mesh_vertices, aligned, vertices_at}
use Rattle.payload.specs.MeshSpells.{vertices_end, submeshes_at, submeshes_end, MeshSpells}
use Rattle.payload.specs.MeshRead.{many, read_submesh, read_submeshes, mesh_of, read_mesh}
use Rattle.payload.specs.Internal.{read_words, PoolThere}
use Rattle.bits.proofs.RunLaws.{complete_value, run_spells, spells_run}
use Rattle.payload.proofs.RangeLaws.{inrange_value, words-length, words_at}
use Rattle.payload.proofs.SubmeshLaws.{submeshes_value, submeshes_on, submeshes_spell, spell_submeshes}
use Rattle.payload.proofs.BodyLaws.{mesh_on, pool_accepted, pool_read, pool_on, vertex_run, counts_on, counts_parts}

-- ---- its parts

-- n coordinates, m vertices, whose fields end at bit q, and k submeshes
pub record MeshParts (s : List ℕ) (x : Mesh) (t : ℕ) : Type 0 where
  pub n : ℕ
  pub m : ℕ
  pub k : ℕ
  pub q : ℕ
  pub head : vertices_at n ≤ 8 * length s
  pub n_is : field s 0 32 ≡ n
  pub n_some : 1 ≤ n
  pub n_most : n ≤ 10000
  pub pool_is : x.pool ≡ read_words s 32 n
  pub pool_finite : AllFinite (read_words s 32 n)
  pub m_is : field s (32 * n + 32) 32 ≡ m
  pub m_some : 1 ≤ m
  pub m_most : m ≤ 32000
  pub run : vertex_run s n m ≡ accepted (x.vertices, q)
  pub tail : aligned q + 32 ≤ 8 * length s
  pub k_is : field s (aligned q) 32 ≡ k
  pub k_some : 1 ≤ k
  pub each : many (read_submesh s (width_of m) m) k (aligned q + 32) ≡ accepted (x.submeshes, t)

pub mesh_parts : (s : List ℕ) (x : Mesh) (t : ℕ) → read_mesh s ≡ accepted (x, t) → MeshParts s x t
unfolding read_mesh
mesh_parts s x t e =
    let n = field s 0 32 in
    let m = field s (32 * n + 32) 32 in
    let a = complete_value s 32 _ (x, t) e in
    let b = inrange_value 1 10000 n _ (x, t) a.1 in
    let P = pool_accepted s n x t a.0 b.2 in
    let c = complete_value s (vertices_at n) _ (x, t) (sym (pool_read s n P) ∙ b.2) in
    let d = inrange_value 1 32000 m _ (x, t) c.1 in
    let v = counts_parts s n m x t d.2 in
    let i = submeshes_value s (width_of m) m (aligned v.q) x.submeshes t v.submeshes in
    record {
      n = n;
      m = m;
      k = field s (aligned v.q) 32;
      q = v.q;
      head = c.0;
      n_is = refl;
      n_some = b.0;
      n_most = b.1;
      pool_is = v.pool_is;
      pool_finite = P.finite;
      m_is = refl;
      m_some = d.0;
      m_most = d.1;
      run = v.run;
      tail = i.0;
      k_is = refl;
      k_some = i.1;
      each = i.2;
    }

-- the runs of a mesh that was read
module _ {s : List ℕ} {x : Mesh} {t : ℕ} (r : MeshParts s x t) where
  pub parts_vertices : RunSpells s (width_of r.n) r.n (vertices_at r.n) (zeros 5) x.vertices
      × (length x.vertices ≡ 5 * r.m) × (r.q ≡ vertices_at r.n + 5 * r.m * width_of r.n)
  parts_vertices =
      run_spells s (width_of r.n) r.n (5 * r.m) (vertices_at r.n) (zeros 5) x.vertices r.q (omega arith)
      r.run

  pub parts_submeshes : SubmeshesSpell s (width_of r.m) r.m (aligned r.q + 32) x.submeshes
      × (length x.submeshes ≡ r.k) × (t ≡ aligned r.q + 32 + sizes (submesh_bits (width_of r.m)) x.submeshes)
  parts_submeshes =
      submeshes_spell s (width_of r.m) r.m r.k (aligned r.q + 32) x.submeshes t r.each

-- ---- a mesh is read exactly where it is spelled

module _ (s : List ℕ) where
  pub mesh_spells : (x : Mesh) (q : ℕ) → read_mesh s ≡ accepted (x, q) → MeshSpells s x
  mesh_spells x q e = go (mesh_parts s x q e)
    where
      go : MeshParts s x q → MeshSpells s x
      go r =
          let v = parts_vertices r in
          let u = parts_submeshes r in
          let a : length x.pool ≡ r.n = ap length r.pool_is ∙ words-length s 32 r.n in
          let b : mesh_vertices x ≡ r.m = omega (arith, v.1) in
          let c : submeshes_at x ≡ aligned r.q = rw (a, v.1, v.2) in
          record {
            head = rw a r.head;
            pool_count = r.n_is ∙ sym a;
            pool_some = rw a r.n_some;
            pool_most = rw a r.n_most;
            pool_words = λ i h. sym (rw r.pool_is (words_at s 32 r.n i (rw a at h)));
            pool_finite = rw r.pool_is r.pool_finite;
            fives = rw b v.1;
            vertex_count_law = rw (a, b) r.m_is;
            vertex_some = rw b r.m_some;
            vertex_most = rw b r.m_most;
            vertices_run = rw a v.0;
            tail = rw c r.tail;
            submesh_count = rw c (r.k_is ∙ sym u.1);
            submesh_some = rw u.1 r.k_some;
            submeshes_run = rw (b, c) u.0;
          }

  spelled : (x : Mesh) → MeshSpells s x → read_mesh s ≡ accepted (x, submeshes_end x)
  spelled x e =
      let n = length x.pool in
      let m = mesh_vertices x in
      let q = vertices_end x in
      let r : vertex_run s n m ≡ accepted (x.vertices, q) =
      rw (← e.fives) (spells_run s (width_of n) n (vertices_at n) (zeros 5) x.vertices (omega arith) e.vertices_run) in
      let p : read_words s 32 n ≡ x.pool =
      ext_get_or 0 (read_words s 32 n) x.pool (words-length s 32 n)
      (λ i h. let h' : i < n = rw (words-length s 32 n) at h in words_at s 32 n i h' ∙ e.pool_words i h') in
      let P : PoolThere s n = record { there = omega (arith, e.head); finite = rw p e.pool_finite } in
      mesh_on s n (omega (arith, e.head)) e.pool_count e.pool_some e.pool_most
      ∙ pool_on s n P e.head m e.vertex_count_law e.vertex_some e.vertex_most
      ∙ counts_on s n m x.vertices q r
      ∙ then_yes (read_submeshes s (width_of m) m (aligned q)) (mesh_of (read_words s 32 n) x.vertices)
      (x.submeshes, submeshes_end x)
      (submeshes_on s (width_of m) m (length x.submeshes) (aligned q) e.tail e.submesh_count e.submesh_some
      ∙ spell_submeshes s (width_of m) m (aligned q + 32) x.submeshes e.submeshes_run)
      ∙ rw p

  pub spells_mesh : (x : Mesh) → MeshSpells s x → (q : ℕ) × (read_mesh s ≡ accepted (x, q))
  spells_mesh x e = (submeshes_end x, spelled x e)
