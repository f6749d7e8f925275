-- The theorems that specs/TextureLaws.antt names. Assumes nothing.
use Rattle.std.proofs.Common.{◌+◌, ◌≡◌, ℕ, ◌<◌, List, [], ◌∷◌, map, length, sym, refl, ap, ◌∙◌, arith}
use Rattle.bits.specs.Refusals.{among}
use Rattle.bits.specs.Verdict.{accepted, limited}
use Rattle.bits.proofs.FieldLaws.{field_lt}
use Rattle.payload.specs.Mesh.{Submesh, Mesh}
use Rattle.payload.specs.MeshSpells.{submesh_bits, SubmeshesSpell, BoxesSpell, ends, holds, skips, sum}
use Rattle.payload.specs.MeshRead.{read_meshes}
use Rattle.payload.specs.MeshDrawing.{first_eye, point_total}
use Rattle.payload.specs.Records.{point_sum}
use Rattle.payload.specs.Firsts.{firsts, Below}
use Rattle.payload.specs.Textures.{textures, points_with, texture_words, list_records}
use Rattle.payload.specs.TextureLaws.{listed_textures, listed_points, RecordTextures, TexturesOf, TexturesRead}
use Rattle.payload.specs.InternalTextures.{weights, list_weights, Proper}
use Rattle.payload.specs.declared.mesh.records.Record.{Record}
use Rattle.payload.proofs.PayloadLaws.{limited_value}
use Rattle.payload.proofs.MeasureLaws.{list_fits}
use Rattle.payload.proofs.MeshTheorems.{meshes_reads}
use Rattle.payload.proofs.RecordLaws.{drawn-sum}
use Rattle.payload.proofs.FirstsLaws.{among-firsts, distinct-firsts, order_from}
use Rattle.payload.proofs.TextureLaws.{evens, odds, paired-length, points_most, sum-map, sum_all, proper_append}
use Rattle.payload.proofs.TextureLaws.{below-firsts, firsts_few, words_same}

-- ---- the words

listed : (l : List Record) → listed_textures (texture_words l) ≡ firsts (textures l)
unfolding texture_words
listed l = evens (λ t. points_with t l) (firsts (textures l))

points_listed : (l : List Record) → listed_points (texture_words l) ≡ map (λ t. points_with t l) (firsts (textures l))
unfolding texture_words
points_listed l = odds (λ t. points_with t l) (firsts (textures l))

words-sum : (l : List Record) → sum (listed_points (texture_words l)) ≡ point_sum l
words-sum l =
    ap sum (points_listed l) ∙ sum-map (λ t. points_with t l) (firsts (textures l))
    ∙ sum_all (firsts (textures l)) (distinct-firsts (textures l)) l (λ t e. among-firsts t (textures l) ∙ e)

-- ---- what a reading has

proper_submeshes : (s : List ℕ) (w m p : ℕ) (l : List Submesh) → SubmeshesSpell s w m p l → Proper (weights l)
proper_submeshes s w m p [] e = tt
proper_submeshes s w m p (x ∷ l) e =
    (omega (arith, field_lt s p 8, e.0.texture), e.0.some, proper_submeshes s w m (p + submesh_bits w x) l e.1)

proper_boxes : {s : List ℕ} {p : ℕ} {l : List Mesh} → BoxesSpell s p l → Proper (list_weights l)
unfolding list_weights
proper_boxes (ends (i, h)) = tt
proper_boxes (holds {x = x} {l = l} b t m r) =
    proper_append (weights x.submeshes) (list_weights l) (proper_submeshes _ _ _ _ x.submeshes m.submeshes_run)
    (proper_boxes r)
proper_boxes (skips b t r) = proper_boxes r

below-map : (f : ℕ → ℕ) (n : ℕ) → ((t : ℕ) → f t < n) → (l : List ℕ) → Below n (map f l)
below-map f n h [] = tt
below-map f n h (t ∷ l) = (h t, below-map f n h l)

module _ (s : List ℕ) (l : List Mesh) (e : limited s (read_meshes s) ≡ accepted l) where
  read : read_meshes s ≡ accepted l
  read = (limited_value s (read_meshes s) l e).1

  proper : Proper (list_weights l)
  proper = proper_boxes ((meshes_reads.reads l s).0 read).boxes

  all_points_law : point_sum (list_records l) ≡ point_total l
  all_points_law = drawn-sum (first_eye (length l)) 0 l

  few : point_total l < 4294967296
  few = omega (arith, (limited_value s (read_meshes s) l e).0, (list_fits s l read).1)

  pub textures_of : TexturesOf l
  unfolding texture_words
  textures_of =
      record {
        total = words-sum (list_records l) ∙ all_points_law;
        -- the same words by texture and points alone, of which the layout says that each has a point
        bytes = rw (← words_same l, listed (list_weights l)) (below-firsts (list_weights l) proper);
        fits =
            rw (points_listed (list_records l))
            (below-map (λ t. points_with t (list_records l)) 4294967296
            (λ t. omega (arith, few, all_points_law, points_most t (list_records l))) (firsts (textures (list_records l))));
        enough =
            rw (← words_same l)
            (omega (
              arith,
              paired-length (λ t. points_with t (list_weights l)) (firsts (textures (list_weights l))),
              firsts_few (list_weights l) proper,
            ));
      }

-- ---- together

pub record_textures : RecordTextures
unfolding texture_words
record_textures l =
    record {
      listed = listed l;
      whole = paired-length (λ t. points_with t l) (firsts (textures l));
      once = rw (listed l) (distinct-firsts (textures l));
      occurs = λ t. ap (among t) (listed l) ∙ among-firsts t (textures l);
      order = λ t u h. rw (listed l) (order_from t u [] (textures l) refl refl h);
      points = points_listed l ∙ ap (map (λ t. points_with t l)) (sym (listed l));
    }

pub textures-read : TexturesRead
textures-read = textures_of
