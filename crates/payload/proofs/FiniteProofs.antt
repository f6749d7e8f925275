-- The theorems of specs/FiniteLaws.antt. Assumes nothing.
use Rattle.std.proofs.Common.{◌≡◌, ℕ, zero, suc, ◌+◌, ◌*◌, ◌<◌, Bool, true, false, List, [], ◌∷◌, get_or, sym, refl, ◌∙◌, arith}
use mathlib.Core.List.{Memᴰ}
use lib.Ieee.{of_bits, of_fields, odd}
use Rattle.bits.specs.Verdict.{accepted, declined}
use Rattle.bits.specs.Field.{field}
use Rattle.payload.specs.Float.{finite_word, AllFinite}
use Rattle.payload.specs.Mesh.{Submesh, Mesh}
use Rattle.payload.specs.Lent.{in_items, answer_for}
use Rattle.payload.specs.MeshSpells.{BoxesSpell, ends, holds, skips}
use Rattle.payload.specs.MeshRead.{read_word, read_mesh, read_meshes}
use Rattle.payload.specs.MeshDrawing.{coordinate, run_words, submesh_words, drawn_floats}
use Rattle.payload.proofs.AllLaws.{All, nil_all, cons_all, append_all}
use Rattle.payload.specs.MeshWrite.{all_of, is_mesh, mesh_written}
use Rattle.payload.specs.FiniteLaws.{word_place, GoodUpTo, FiniteLaws}
use Rattle.payload.proofs.PoolLaws.{IsFinite, finite_bits, word_cut, word_other, word_good, pool_at}
use Rattle.payload.proofs.BodyLaws.{mesh_on, pool_declined}
use Rattle.payload.proofs.JudgeLaws.{all_tested, written_no, written_other}
use Rattle.payload.proofs.MeshTheorems.{meshes_reads}

-- ---- what is drawn is taken from a pool

module _ (l : List ℕ) (h : AllFinite l) where
  -- where there is no such word it is 0, which is finite
  taken : (i : ℕ) → IsFinite (get_or l i 0)
  unfolding of_bits of_fields odd
  taken i = go l h i
    where
      go : (l : List ℕ) → AllFinite l → (i : ℕ) → IsFinite (get_or l i 0)
      go [] h i = refl
      go (w ∷ l) h zero = h w (Memᴰ.head refl)
      go (w ∷ l) h (suc i) = go l (λ v k. h v (Memᴰ.tail k)) i

module _ (word : ℕ → ℕ) (h : (k : ℕ) → IsFinite (word k)) where
  run_finite : (base : ℕ) (points : List ℕ) → AllFinite (run_words word base points)
  unfolding run_words
  run_finite base [] = nil_all IsFinite
  run_finite base (v ∷ l) =
      cons_all IsFinite (h _) (cons_all IsFinite (h _) (cons_all IsFinite (h _) (cons_all IsFinite (h _) (cons_all IsFinite (h _) (run_finite base l)))))

  submeshes_finite : (base : ℕ) (l : List Submesh) → AllFinite (submesh_words word base l)
  unfolding submesh_words
  submeshes_finite base [] = nil_all IsFinite
  submeshes_finite base (x ∷ l) =
      append_all IsFinite (run_words word base x.points) (run_finite base x.points) (submeshes_finite base l)

boxes_finite : {s : List ℕ} {p : ℕ} {l : List Mesh} → BoxesSpell s p l → AllFinite (drawn_floats l)
unfolding drawn_floats
boxes_finite (ends (i, h)) = nil_all IsFinite
boxes_finite (holds {x = x} b t m r) =
    append_all IsFinite (submesh_words (coordinate x) 0 x.submeshes)
    (submeshes_finite (coordinate x) (λ k. taken x.pool m.pool_finite _) 0 x.submeshes) (boxes_finite r)
boxes_finite (skips b t r) = boxes_finite r

drawn_finite : (s : List ℕ) (l : List Mesh) → read_meshes s ≡ accepted l → AllFinite (drawn_floats l)
drawn_finite s l e = boxes_finite ((meshes_reads.reads l s).0 e).boxes

-- ---- a reading has finite words alone

pools_finite : {s : List ℕ} {p : ℕ} {l : List Mesh} → BoxesSpell s p l → All (λ x. AllFinite x.pool) l
pools_finite (ends (i, h)) = nil_all (λ x. AllFinite x.pool)
pools_finite (holds b t m r) = cons_all (λ x. AllFinite x.pool) m.pool_finite (pools_finite r)
pools_finite (skips b t r) = pools_finite r

-- ---- where a word is refused

module _ (s : List ℕ) (i : ℕ) (g : GoodUpTo s i) where
  -- word i decides
  decides : (k : ℕ) → read_word s (word_place i) ≡ declined k → read_mesh s ≡ declined k
  decides k e =
      mesh_on s (field s 0 32) (omega (arith, g.there)) refl (omega (arith, g.number)) g.most
      ∙ pool_declined s (field s 0 32) k (pool_at s i (field s 0 32) 32 k g.number good e)
    where
      good : (j : ℕ) → j < i → read_word s (32 + 32 * j) ≡ accepted (field s (32 + 32 * j) 32, 32 + 32 * j + 32)
      good j h = word_good s (32 + 32 * j) (omega (arith, g.there)) (g.finite j h)

module _ (pool coordinates rows points out : List ℕ) where
  says : (k : ℕ) → mesh_written pool coordinates rows points ≡ declined k
      → answer_for (in_items 1 (mesh_written pool coordinates rows points)) (out ∷ []) ≡ declined k
  unfolding answer_for
  says k e = rw e

  not_written : is_mesh pool coordinates rows points ≡ true → (w : ℕ) → Memᴰ w pool → finite_word w ≡ false
      → mesh_written pool coordinates rows points ≡ declined 17
  not_written e w m f = written_other pool coordinates rows points e (go (all_of finite_word pool) refl)
    where
      go : (b : Bool) → all_of finite_word pool ≡ b → all_of finite_word pool ≡ false
      go true t = let z : true ≡ false = sym (all_tested finite_word pool t w m) ∙ f in cc
      go false t = t

pub finite_laws : FiniteLaws
finite_laws =
    record {
      by_bits = finite_bits;
      read = λ l s e. pools_finite e.boxes;
      cut = λ s i g h. decides s i g 3 (word_cut s (word_place i) h);
      refused = λ s i g h f. decides s i g 17 (word_other s (word_place i) h f);
      no_mesh = λ pool coordinates rows points out e.
          says pool coordinates rows points out 13 (written_no pool coordinates rows points e);
      not_written = λ pool coordinates rows points out e w m f.
          says pool coordinates rows points out 17 (not_written pool coordinates rows points out e w m f);
      drawn = drawn_finite;
    }
