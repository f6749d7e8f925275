-- Which refusals each call can give: a law for each way in which verdicts are put together. Assumes nothing.
use Rattle.std.proofs.Common.{◌≡◌, ℕ, zero, suc, ◌+◌, ◌-◌, ◌*◌, ◌/◌, ◌^◌, true, false, ◌&&◌, eqb, ltb, leb, List, [], ◌∷◌, length, refl}
use lib.Ieee.{Float}
use lib.Ieee.Scale.{finite}
use Rattle.bits.specs.Verdict.{Verdict, needs}
use Rattle.bits.specs.Field.{field}
use Rattle.bits.specs.Number.{width_of}
use Rattle.bits.specs.Read.{number_at}
use Rattle.bits.specs.Header.{box}
use Rattle.bits.specs.Run.{zeros, Found, complete}
use Rattle.bits.proofs.VerdictLaws.{clash}
use Rattle.payload.specs.Lent.{in_items, answer_for}
use Rattle.payload.specs.Crop.{full, usable}
use Rattle.payload.specs.Payload.{full_box}
use Rattle.payload.specs.Equi.{crop_of, four_words, equi_fields, equi_usable, equi_read, with_crop, equi_written}
use Rattle.payload.specs.Cbmp.{layout_then_padding, cbmp_read, cbmp_written}
use Rattle.payload.specs.Sphere.{grid_usable, sphere_numbers, sphere_uvs}
use Rattle.payload.specs.Cube.{cells_usable, share_usable, cube_numbers, cube_floats}
use Rattle.payload.specs.Count.{counted, index_count}
use Rattle.payload.specs.Mesh.{Submesh, Mesh}
use Rattle.payload.specs.MeshSpells.{submesh_bits, mesh_vertices, submeshes_at, aligned, part, mesh_type}
use Rattle.payload.specs.MeshRead.{in_range, if_finite, many, read_submesh, read_submeshes, read_word, after_vertices}
use Rattle.payload.specs.MeshRead.{after_pool_count, read_mesh, read_item, read_mesh_box, read_boxes, read_from, read_meshes}
use Rattle.payload.specs.Meshes.{list_size, drawn_meshes, recorded_meshes}
use Rattle.payload.specs.Tables.{table_lengths, body_read, tables_of}
use Rattle.payload.specs.Float.{finite_word}
use Rattle.payload.specs.MeshWrite.{all_of, is_mesh, mesh_written}
use Rattle.bits.specs.Refusals.{among, Refuses, gives, refuses, RefusesOr12, Claim}
use Rattle.bits.proofs.RefusalLaws.{then_refuses, mapped_refuses, cond_refuses, within_refuses, limited_refuses, complete_refuses, run_refuses, header_then}
use Rattle.bits.proofs.RefusalLaws.{unlisted, unlisted_12}
use Rattle.payload.specs.Textures.{textures_found}
use Rattle.payload.specs.Places.{next_body, end_of, Standing, submesh_from, standing_at, standing_from, submesh_found}
use Rattle.payload.specs.Refusals.{EachCall, Refusals, NeverSixteen}
use Rattle.payload.proofs.LentLaws.{answer_refuses}
use Rattle.payload.proofs.CropProofs.{full-usable}
use Rattle.payload.specs.declared.crop.Bounds.{Bounds}

-- ---- the ways in which verdicts are put together

module _ {ks : List ℕ} where
  -- a list for one buffer
  items_refuses : {v : Verdict (List ℕ)} (u : ℕ) (buffers : List (List ℕ)) → Refuses ks v
      → RefusesOr12 ks (answer_for (in_items u v) buffers)
  items_refuses u buffers r =
      answer_refuses buffers (mapped_refuses (λ l. record { answer = length l / u; lists = l ∷ [] }) r)

  -- n things, one after the other
  many_refuses : {A : Type 0} (read : ℕ → Found A) → ((p : ℕ) → Refuses ks (read p)) → (n p : ℕ)
      → Refuses ks (many read n p)
  unfolding many
  many_refuses read h zero p = gives ([], p)
  many_refuses read h (suc n) p =
      then_refuses (h p) (λ x. then_refuses (many_refuses read h n x.1) (λ l. gives (x.0 ∷ l.0, l.1)))

  -- ---- what is refused with 3 alone

  -- each number that the steps refuse with is listed
  module _ (three : among 3 ks ≡ true) where
    number_refuses : (n : ℕ) (s : List ℕ) (p : ℕ) → Refuses ks (number_at n s p)
    number_refuses n s p = within_refuses (p + n) (length s) (field s (8 * p) (8 * n), p + n) 3 three

    whole_refuses : {A : Type 0} {v : Verdict A} (s : List ℕ) (e : ℕ) → Refuses ks v → Refuses ks (complete s e v)
    whole_refuses s e r = complete_refuses s e three r

    -- ---- kinds 0 and 1

    box_refuses : among 4 ks ≡ true → (s : List ℕ) → Refuses ks (full_box s)
    unfolding full_box
    box_refuses four s =
        then_refuses (number_refuses 1 s 0) (λ v.
        cond_refuses (eqb v.0 0) (within_refuses (v.1 + 3) (length s) (v.1 + 3) 3 three) (refuses 4 four))

    equi_refuses : among 4 ks ≡ true → among 10 ks ≡ true → (s : List ℕ) → Refuses ks (equi_read s)
    unfolding equi_fields four_words equi_usable
    equi_refuses four ten s =
        then_refuses
        (then_refuses (box_refuses four s) (λ p.
        then_refuses (number_refuses 4 s p) (λ t. then_refuses (number_refuses 4 s t.1) (λ b.
        then_refuses (number_refuses 4 s b.1) (λ l. then_refuses (number_refuses 4 s l.1) (λ r. gives _))))))
        (λ ρ. cond_refuses (usable (crop_of ρ)) (gives ρ) (refuses 10 ten))

    cbmp_refuses : among 4 ks ≡ true → among 5 ks ≡ true → (s : List ℕ) → Refuses ks (cbmp_read s)
    unfolding cbmp_read layout_then_padding
    cbmp_refuses four five s =
        then_refuses (box_refuses four s) (λ at.
        then_refuses (number_refuses 4 s at) (λ layout.
        cond_refuses (eqb layout.0 0)
        (then_refuses (number_refuses 4 s layout.1) (λ p. within_refuses p.0 4096 p.0 5 five))
        (refuses 5 five)))

    -- ---- kind 2, from a run up to the list of boxes

    module _ (seven : among 7 ks ≡ true) (eight : among 8 ks ≡ true) (seventeen : among 17 ks ≡ true) where
      range_refuses : {A : Type 0} {v : Verdict A} (low high n : ℕ) → Refuses ks v → Refuses ks (in_range low high n v)
      unfolding in_range
      range_refuses low high n r =
          cond_refuses (leb low n) (cond_refuses (leb n high) r (refuses 7 seven)) (refuses 7 seven)

      submesh_refuses : (s : List ℕ) (w m p : ℕ) → Refuses ks (read_submesh s w m p)
      unfolding read_submesh
      submesh_refuses s w m p =
          let n = field s (p + 16) 32 in
          whole_refuses s (p + 48)
          (range_refuses 1 128000 n (then_refuses (run_refuses three eight s w m n (p + 48) (zeros 1)) (λ x. gives _)))

      submeshes_refuses : (s : List ℕ) (w m p : ℕ) → Refuses ks (read_submeshes s w m p)
      unfolding read_submeshes
      submeshes_refuses s w m p =
          let n = field s p 32 in
          whole_refuses s (p + 32)
          (cond_refuses (eqb n 0) (refuses 7 seven)
          (many_refuses (read_submesh s w m) (submesh_refuses s w m) n (p + 32)))

      mesh_refuses : (s : List ℕ) → Refuses ks (read_mesh s)
      unfolding read_mesh after_pool_count after_vertices if_finite
      mesh_refuses s =
          let n = field s 0 32 in
          let word : (p : ℕ) → Refuses ks (read_word s p) = λ p.
          whole_refuses s (p + 32) (cond_refuses (finite_word (field s p 32)) (gives _) (refuses 17 seventeen)) in
          whole_refuses s 32 (range_refuses 1 10000 n
          (then_refuses (many_refuses (read_word s) word n 32) (λ pool.
          let m = field s pool.1 32 in
          whole_refuses s (pool.1 + 32) (range_refuses 1 32000 m
          (then_refuses (run_refuses three eight s (width_of n) n (5 * m) (pool.1 + 32) (zeros 5)) (λ v.
          then_refuses (submeshes_refuses s (width_of m) m (aligned v.1)) (λ l. gives _)))))))

      body_refuses : among 2 ks ≡ true → (s : List ℕ) → Refuses ks (body_read s)
      body_refuses two s = limited_refuses s two (mapped_refuses (λ x. x.0) (mesh_refuses s))

      module _ (six : among 6 ks ≡ true) (eighteen : among 18 ks ≡ true) where
        item_refuses : (s : List ℕ) (rest : ℕ → ℕ → Verdict (List Mesh)) → ((r p : ℕ) → Refuses ks (rest r p))
            → (more type : ℕ) (v : Verdict (ℕ × ℕ)) → Refuses ks v → Refuses ks (read_item s rest more (box type v))
        item_refuses s rest h more type v e =
            cond_refuses (eqb type mesh_type) (mesh more) (then_refuses e (λ x. h more x.1))
          where
            mesh : (r : ℕ) → Refuses ks (read_mesh_box s rest r v)
            mesh zero = refuses 18 eighteen
            mesh (suc r) =
                then_refuses e (λ x.
                then_refuses (mesh_refuses (part s x.0 x.1)) (λ y.
                then_refuses (h r x.1) (λ l. gives (y.0 ∷ l))))

        boxes_refuses : (s : List ℕ) (turns more p : ℕ) → Refuses ks (read_boxes s turns more p)
        unfolding read_boxes
        boxes_refuses s zero more p = gives []
        boxes_refuses s (suc turns) more p =
            header_then three six s p (read_item s (read_boxes s turns) more) (gives [])
            (item_refuses s (read_boxes s turns) (boxes_refuses s turns) more)

        meshes_refuses : (s : List ℕ) → Refuses ks (read_meshes s)
        unfolding read_from
        meshes_refuses s = boxes_refuses s (length s) 2 0

-- ---- a submesh by its number

module _ {ks : List ℕ} (twenty_four : among 24 ks ≡ true) where
  number_in : (m p : ℕ) (l : List Submesh) (j : ℕ) → Refuses ks (submesh_from m p l j)
  unfolding submesh_from
  number_in m p [] j = refuses 24 twenty_four
  number_in m p (x ∷ l) zero = gives _
  number_in m p (x ∷ l) (suc j) = number_in m (p + submesh_bits (width_of m) x) l j

  standing_refuses : (s : List ℕ) (p : ℕ) (l : List Mesh) (j : ℕ) → Refuses ks (standing_from s p l j)
  unfolding standing_from
  standing_refuses s p [] j = refuses 24 twenty_four
  standing_refuses s p (x ∷ l) j =
      cond_refuses (ltb j (length x.submeshes))
      (mapped_refuses (standing_at (next_body s p))
      (number_in (mesh_vertices x) (submeshes_at x + 32) x.submeshes j))
      (standing_refuses s (end_of (next_body s p)) l (j - length x.submeshes))

pub found_refuses : (s : List ℕ) (j : ℕ) → Refuses (2 ∷ 3 ∷ 6 ∷ 7 ∷ 8 ∷ 17 ∷ 18 ∷ 24 ∷ []) (submesh_found s j)
unfolding submesh_found
found_refuses s j =
    then_refuses (limited_refuses s refl (meshes_refuses refl refl refl refl refl refl s)) (λ l.
    standing_refuses refl s 0 l j)

-- ---- the sphere, the cube and the counts

numbers_refuses : (rings sectors : ℕ) (b : Bounds) → Refuses (9 ∷ 10 ∷ []) (sphere_numbers rings sectors b)
unfolding sphere_numbers
numbers_refuses rings sectors b =
    cond_refuses (grid_usable rings sectors) (cond_refuses (usable b) (gives _) (refuses 10 refl)) (refuses 9 refl)

full_refuses : (rings sectors : ℕ) → Refuses (9 ∷ []) (sphere_numbers rings sectors full)
unfolding sphere_numbers
full_refuses rings sectors =
    rw full-usable (cond_refuses (grid_usable rings sectors) (gives _) (refuses 9 refl))

module _ {ks : List ℕ} (nine : among 9 ks ≡ true) where
  uvs_refuses : (rings sectors : ℕ) → Refuses ks (sphere_uvs rings sectors)
  unfolding sphere_uvs
  uvs_refuses rings sectors = cond_refuses (grid_usable rings sectors) (gives _) (refuses 9 nine)

  cube_refuses : (cells : ℕ) → Refuses ks (cube_numbers cells)
  unfolding cube_numbers
  cube_refuses cells = cond_refuses (cells_usable cells) (gives _) (refuses 9 nine)

floats_refuses : (cells : ℕ) (radius padding : Float) → Refuses (9 ∷ 11 ∷ []) (cube_floats cells radius padding)
unfolding cube_floats
floats_refuses cells radius padding =
    cond_refuses (cells_usable cells)
    (cond_refuses (finite radius && share_usable padding) (gives _) (refuses 11 refl)) (refuses 9 refl)

counted_refuses : (n : ℕ) → Refuses (14 ∷ []) (counted n)
counted_refuses n = within_refuses (n + 1) (2 ^ 64) n 14 refl

-- ---- the calls

pub refusals : Refusals
unfolding textures_found equi_written cbmp_written mesh_written index_count
refusals =
    record {
      parse_equi = λ s. limited_refuses s refl (mapped_refuses with_crop (equi_refuses refl refl refl s));
      parse_cbmp = λ s. limited_refuses s refl (cbmp_refuses refl refl refl s);
      measure_mesh = λ s. mapped_refuses table_lengths (body_refuses refl refl refl refl refl s);
      measure_meshes = λ s. limited_refuses s refl (mapped_refuses list_size (meshes_refuses refl refl refl refl refl refl s));
      find_submesh = λ s j. mapped_refuses (λ (x : Standing). x.place) (found_refuses s j);
      parse_mesh = λ s buffers.
          answer_refuses buffers (mapped_refuses tables_of (body_refuses refl refl refl refl refl s));
      parse_meshes = λ s buffers.
          answer_refuses buffers
          (mapped_refuses drawn_meshes (limited_refuses s refl (meshes_refuses refl refl refl refl refl refl s)));
      mesh_records = λ s buffers.
          answer_refuses buffers
          (mapped_refuses recorded_meshes (limited_refuses s refl (meshes_refuses refl refl refl refl refl refl s)));
      texture_points = λ s buffers.
          items_refuses 2 buffers
          (mapped_refuses _ (limited_refuses s refl (meshes_refuses refl refl refl refl refl refl s)));
      sphere_indices_bounded = λ rings sectors b buffers. items_refuses 1 buffers (numbers_refuses rings sectors b);
      sphere_indices = λ rings sectors buffers. items_refuses 1 buffers (full_refuses rings sectors);
      sphere_uvs_law = λ rings sectors buffers. items_refuses 2 buffers (uvs_refuses refl rings sectors);
      sphere_lengths = λ rings sectors b.
          then_refuses (numbers_refuses rings sectors b) (λ l. mapped_refuses _ (uvs_refuses refl rings sectors));
      cubemap_indices = λ cells buffers. items_refuses 1 buffers (cube_refuses refl cells);
      cubemap_mesh = λ cells radius padding buffers. items_refuses 5 buffers (floats_refuses cells radius padding);
      cubemap_lengths = λ cells radius padding.
          then_refuses (cube_refuses refl cells) (λ l. mapped_refuses _ (floats_refuses cells radius padding));
      write_equi = λ ρ buffers. items_refuses 1 buffers (cond_refuses (usable (crop_of ρ)) (gives _) (refuses 10 refl));
      write_cbmp = λ p buffers. items_refuses 1 buffers (cond_refuses (leb p 4096) (gives _) (refuses 5 refl));
      write_mesh = λ pool coordinates rows points buffers.
          items_refuses 1 buffers
          (cond_refuses (is_mesh pool coordinates rows points)
          (cond_refuses (all_of finite_word pool) (gives _) (refuses 17 refl)) (refuses 13 refl));
      vertex_count_law = λ rings sectors. counted_refuses ((rings + 1) * (sectors + 1));
      index_count_law = λ rings sectors.
          cond_refuses (leb 2 rings) (counted_refuses (6 * rings * sectors)) (gives 0);
      cubemap_vertex_count_law = λ cells. counted_refuses (6 * (cells + 1) * (cells + 1));
      cubemap_index_count_law = λ cells. counted_refuses (36 * cells * cells);
    }

-- of each call, none of which lists 16, what follows from something that is said of it
pub map_calls : {P O P' O' : Claim}
    → ((A : Type 0) (ks : List ℕ) (v : Verdict A) → among 16 ks ≡ false → P A ks v → P' A ks v)
    → ((A : Type 0) (ks : List ℕ) (v : Verdict A) → among 16 ks ≡ false → O A ks v → O' A ks v)
    → EachCall P O → EachCall P' O'
map_calls plain or-12 calls =
    record {
      parse_equi = λ s. plain _ _ _ refl (calls.parse_equi s);
      parse_cbmp = λ s. plain _ _ _ refl (calls.parse_cbmp s);
      measure_mesh = λ s. plain _ _ _ refl (calls.measure_mesh s);
      measure_meshes = λ s. plain _ _ _ refl (calls.measure_meshes s);
      find_submesh = λ s j. plain _ _ _ refl (calls.find_submesh s j);
      parse_mesh = λ s buffers. or-12 _ _ _ refl (calls.parse_mesh s buffers);
      parse_meshes = λ s buffers. or-12 _ _ _ refl (calls.parse_meshes s buffers);
      mesh_records = λ s buffers. or-12 _ _ _ refl (calls.mesh_records s buffers);
      texture_points = λ s buffers. or-12 _ _ _ refl (calls.texture_points s buffers);
      sphere_indices_bounded = λ rings sectors b buffers. or-12 _ _ _ refl (calls.sphere_indices_bounded rings sectors b buffers);
      sphere_indices = λ rings sectors buffers. or-12 _ _ _ refl (calls.sphere_indices rings sectors buffers);
      sphere_uvs_law = λ rings sectors buffers. or-12 _ _ _ refl (calls.sphere_uvs_law rings sectors buffers);
      sphere_lengths = λ rings sectors b. plain _ _ _ refl (calls.sphere_lengths rings sectors b);
      cubemap_indices = λ cells buffers. or-12 _ _ _ refl (calls.cubemap_indices cells buffers);
      cubemap_mesh = λ cells radius padding buffers. or-12 _ _ _ refl (calls.cubemap_mesh cells radius padding buffers);
      cubemap_lengths = λ cells radius padding. plain _ _ _ refl (calls.cubemap_lengths cells radius padding);
      write_equi = λ ρ buffers. or-12 _ _ _ refl (calls.write_equi ρ buffers);
      write_cbmp = λ p buffers. or-12 _ _ _ refl (calls.write_cbmp p buffers);
      write_mesh = λ pool coordinates rows points buffers. or-12 _ _ _ refl (calls.write_mesh pool coordinates rows points buffers);
      vertex_count_law = λ rings sectors. plain _ _ _ refl (calls.vertex_count_law rings sectors);
      index_count_law = λ rings sectors. plain _ _ _ refl (calls.index_count_law rings sectors);
      cubemap_vertex_count_law = λ cells. plain _ _ _ refl (calls.cubemap_vertex_count_law cells);
      cubemap_index_count_law = λ cells. plain _ _ _ refl (calls.cubemap_index_count_law cells);
    }

pub never_sixteen : NeverSixteen
never_sixteen = map_calls (λ A ks v out r. unlisted 16 out r) (λ A ks v out r. unlisted_12 16 out r) refusals

-- ---- a call that is lent no buffer asks for none

lends_none : {A : Type 0} {ks : List ℕ} {v : Verdict A} → Refuses ks v → (l : List ℕ) → v ≡ needs l → ⊥
lends_none (gives a) l e = clash (cc)
lends_none (refuses k h) l e = clash (cc)

pub never_needs : (s l : List ℕ) → read_meshes s ≡ needs l → ⊥
never_needs s = lends_none (meshes_refuses {ks = 3 ∷ 6 ∷ 7 ∷ 8 ∷ 17 ∷ 18 ∷ []} refl refl refl refl refl refl s)
