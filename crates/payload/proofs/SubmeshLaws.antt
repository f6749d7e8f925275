-- A submesh, and a submesh count with its submeshes: one law for each way through, and that what is read is exactly what
-- is spelled. Assumes nothing.
use Rattle.std.proofs.Common.{◌≡◌, ℕ, ◌+◌, ◌*◌, ◌<◌, ◌≤◌, List, length, sym, refl, ◌∙◌, arith}
use Rattle.bits.specs.Verdict.{accepted, declined, and_then}
use Rattle.bits.specs.Field.{field}
use Rattle.bits.proofs.VerdictLaws.{then_yes, then_value}
use Rattle.payload.specs.Mesh.{Submesh}
use Rattle.bits.specs.Run.{zeros, read_run}
use Rattle.payload.specs.MeshSpells.{SubmeshSpells, submesh_bits, sizes, SubmeshesSpell}
use Rattle.payload.specs.MeshRead.{many, submesh_of, read_submesh, read_submeshes}
use Rattle.bits.proofs.RunLaws.{complete_yes, complete_no, complete_value, run_spells, spells_run}
use Rattle.payload.proofs.RangeLaws.{inrange_low, inrange_high, inrange_yes, inrange_value}
use Rattle.payload.proofs.RangeLaws.{notzero_no, notzero_yes, notzero_value, found_same, many_spells, spells_many}

-- ---- a submesh

module _ (s : List ℕ) (w m p : ℕ) where
  pub submesh_short : 8 * length s < p + 48 → read_submesh s w m p ≡ declined 3
  unfolding read_submesh
  submesh_short h = complete_no s (p + 48) _ h

  module _ (h : p + 48 ≤ 8 * length s) where
    pub submesh_low : field s (p + 16) 32 < 1 → read_submesh s w m p ≡ declined 7
    unfolding read_submesh
    submesh_low l = complete_yes s (p + 48) _ h ∙ inrange_low 1 128000 _ _ l

    pub submesh_high : 128000 < field s (p + 16) 32 → read_submesh s w m p ≡ declined 7
    unfolding read_submesh
    submesh_high l = complete_yes s (p + 48) _ h ∙ inrange_high 1 128000 _ _ l

    pub submesh_run : 1 ≤ field s (p + 16) 32 → field s (p + 16) 32 ≤ 128000
        → read_submesh s w m p ≡ and_then (read_run s w m (field s (p + 16) 32) (p + 48) (zeros 1)) (submesh_of s p)
    unfolding read_submesh
    submesh_run l u = complete_yes s (p + 48) _ h ∙ inrange_yes 1 128000 _ _ l u

  pub submesh_spells : (x : Submesh) (q : ℕ) → read_submesh s w m p ≡ accepted (x, q)
      → SubmeshSpells s w m p x × (q ≡ p + submesh_bits w x)
  unfolding read_submesh
  submesh_spells x q e =
      let a = complete_value s (p + 48) _ (x, q) e in
      let b = inrange_value 1 128000 (field s (p + 16) 32) _ (x, q) a.1 in
      let c = then_value (read_run s w m (field s (p + 16) 32) (p + 48) (zeros 1)) (submesh_of s p) (x, q) b.2 in
      from a.0 b.0 b.1 c.0.0 c.0.1 c.1 c.2
    where
      from : p + 48 ≤ 8 * length s → 1 ≤ field s (p + 16) 32 → field s (p + 16) 32 ≤ 128000
          → (ns : List ℕ) (t : ℕ) → read_run s w m (field s (p + 16) 32) (p + 48) (zeros 1) ≡ accepted (ns, t)
          → submesh_of s p (ns, t) ≡ accepted (x, q) → SubmeshSpells s w m p x × (q ≡ p + submesh_bits w x)
      from h l u ns t r d =
          let f = run_spells s w m (field s (p + 16) 32) (p + 48) (zeros 1) ns t (omega arith) r in
          let i = (found_same d).0 in
          let j : t ≡ q = (found_same d).1 in
          rw (← i, ← j) (
            record {
              header = h;
              texture = refl;
              mode = refl;
              count = sym f.1;
              some = omega arith;
              most = omega arith;
              run = f.0;
            },
            rw f.1 (omega arith),
          )

  pub spells_submesh : (x : Submesh) → SubmeshSpells s w m p x → read_submesh s w m p ≡ accepted (x, p + submesh_bits w x)
  spells_submesh x e =
      let k = length x.points in
      let r : read_run s w m (field s (p + 16) 32) (p + 48) (zeros 1) ≡ accepted (x.points, p + 48 + k * w) =
      rw e.count (spells_run s w m (p + 48) (zeros 1) x.points (omega arith) e.run) in
      let q : p + 48 + k * w ≡ p + submesh_bits w x = omega arith in
      submesh_run e.header (rw e.count e.some) (rw e.count e.most)
      ∙ then_yes (read_run s w m (field s (p + 16) 32) (p + 48) (zeros 1)) (submesh_of s p) (x.points, p + 48 + k * w) r
      ∙ rw (e.texture, e.mode, q)

-- ---- a submesh count and its submeshes

module _ (s : List ℕ) (w m p : ℕ) where
  pub submeshes_short : 8 * length s < p + 32 → read_submeshes s w m p ≡ declined 3
  unfolding read_submeshes
  submeshes_short h = complete_no s (p + 32) _ h

  pub submeshes_none : p + 32 ≤ 8 * length s → field s p 32 < 1 → read_submeshes s w m p ≡ declined 7
  unfolding read_submeshes
  submeshes_none h l = complete_yes s (p + 32) _ h ∙ notzero_no (field s p 32) _ l

  pub submeshes_value : (l : List Submesh) (t : ℕ) → read_submeshes s w m p ≡ accepted (l, t)
      → (p + 32 ≤ 8 * length s) × (1 ≤ field s p 32)
      × (many (read_submesh s w m) (field s p 32) (p + 32) ≡ accepted (l, t))
  unfolding read_submeshes
  submeshes_value l t e =
      let a = complete_value s (p + 32) _ (l, t) e in
      let b = notzero_value (field s p 32) _ (l, t) a.1 in
      (a.0, b.0, b.1)

pub submeshes_on : (s : List ℕ) (w m k p : ℕ) → p + 32 ≤ 8 * length s → field s p 32 ≡ k → 1 ≤ k
    → read_submeshes s w m p ≡ many (read_submesh s w m) k (p + 32)
unfolding read_submeshes
submeshes_on s w m k p h e l = complete_yes s (p + 32) _ h ∙ rw e (notzero_yes k _ l)

module _ (s : List ℕ) (w m : ℕ) where
  pub submeshes_spell : (k p : ℕ) (l : List Submesh) (t : ℕ) → many (read_submesh s w m) k p ≡ accepted (l, t)
      → SubmeshesSpell s w m p l × (length l ≡ k) × (t ≡ p + sizes (submesh_bits w) l)
  submeshes_spell =
      many_spells (read_submesh s w m) (submesh_bits w) (SubmeshSpells s w m) (submesh_spells s w m)
      (spells_submesh s w m)

  pub spell_submeshes : (p : ℕ) (l : List Submesh) → SubmeshesSpell s w m p l
      → many (read_submesh s w m) (length l) p ≡ accepted (l, p + sizes (submesh_bits w) l)
  spell_submeshes =
      spells_many (read_submesh s w m) (submesh_bits w) (SubmeshSpells s w m) (submesh_spells s w m)
      (spells_submesh s w m)
