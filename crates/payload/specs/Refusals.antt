-- Which refusals each call can give: only those that documents 01 and 02 list for it, and 12 only where it is listed;
-- so none gives 16, which is the field reader's. The proofs are in proofs/RefusalProofs.antt.
use Rattle.std.specs.Prelude.{ℕ, List, [], ◌∷◌, Float}
use Rattle.bits.specs.Verdict.{limited, mapped}
use Rattle.bits.specs.Refusals.{Refuses, RefusesOr12, Claim, NeverDeclines}
use Rattle.payload.specs.Lent.{in_items, answer_for}
use Rattle.payload.specs.Fill.{both_lengths}
use Rattle.payload.specs.Crop.{full}
use Rattle.payload.specs.Equi.{equi_read, with_crop, equi_written}
use Rattle.payload.specs.Cbmp.{cbmp_read, cbmp_written}
use Rattle.payload.specs.Sphere.{sphere_numbers, sphere_uvs}
use Rattle.payload.specs.Cube.{cube_numbers, cube_floats}
use Rattle.payload.specs.Count.{vertex_count, index_count, cubemap_vertex_count, cubemap_index_count}
use Rattle.payload.specs.MeshRead.{read_meshes}
use Rattle.payload.specs.Meshes.{list_size, meshes_plan, records_plan}
use Rattle.payload.specs.Textures.{textures_found}
use Rattle.payload.specs.Places.{place_found}
use Rattle.payload.specs.Tables.{table_lengths, body_read, tables_plan}
use Rattle.payload.specs.MeshWrite.{mesh_written}
use Rattle.payload.specs.declared.crop.Bounds.{Bounds}
use Rattle.payload.specs.declared.equi.EquiFields.{EquiFields}

-- of each call, what its contract says that it answers, whatever buffers are lent: `Or12` where 12 is one of its
-- numbers too
pub record EachCall (Plain Or12 : Claim) : Type 0 where
  -- the readers that are lent no buffer
  pub parse_equi : (s : List ℕ) → Plain _ (2 ∷ 3 ∷ 4 ∷ 10 ∷ []) (limited s (mapped with_crop (equi_read s)))
  pub parse_cbmp : (s : List ℕ) → Plain _ (2 ∷ 3 ∷ 4 ∷ 5 ∷ []) (limited s (cbmp_read s))
  pub measure_mesh : (s : List ℕ) → Plain _ (2 ∷ 3 ∷ 7 ∷ 8 ∷ 17 ∷ []) (mapped table_lengths (body_read s))
  pub measure_meshes : (s : List ℕ)
      → Plain _ (2 ∷ 3 ∷ 6 ∷ 7 ∷ 8 ∷ 17 ∷ 18 ∷ []) (limited s (mapped list_size (read_meshes s)))
  pub find_submesh : (s : List ℕ) (j : ℕ) → Plain _ (2 ∷ 3 ∷ 6 ∷ 7 ∷ 8 ∷ 17 ∷ 18 ∷ 24 ∷ []) (place_found s j)
  -- those that are
  pub parse_mesh : (s : List ℕ) (buffers : List (List ℕ))
      → Or12 _ (2 ∷ 3 ∷ 7 ∷ 8 ∷ 17 ∷ []) (answer_for (tables_plan s) buffers)
  pub parse_meshes : (s : List ℕ) (buffers : List (List ℕ))
      → Or12 _ (2 ∷ 3 ∷ 6 ∷ 7 ∷ 8 ∷ 17 ∷ 18 ∷ []) (answer_for (meshes_plan s) buffers)
  pub mesh_records : (s : List ℕ) (buffers : List (List ℕ))
      → Or12 _ (2 ∷ 3 ∷ 6 ∷ 7 ∷ 8 ∷ 17 ∷ 18 ∷ []) (answer_for (records_plan s) buffers)
  pub texture_points : (s : List ℕ) (buffers : List (List ℕ))
      → Or12 _ (2 ∷ 3 ∷ 6 ∷ 7 ∷ 8 ∷ 17 ∷ 18 ∷ []) (answer_for (in_items 2 (textures_found s)) buffers)
  -- the sphere and the cube
  pub sphere_indices_bounded : (rings sectors : ℕ) (b : Bounds) (buffers : List (List ℕ))
      → Or12 _ (9 ∷ 10 ∷ []) (answer_for (in_items 1 (sphere_numbers rings sectors b)) buffers)
  pub sphere_indices : (rings sectors : ℕ) (buffers : List (List ℕ))
      → Or12 _ (9 ∷ []) (answer_for (in_items 1 (sphere_numbers rings sectors full)) buffers)
  pub sphere_uvs_law : (rings sectors : ℕ) (buffers : List (List ℕ))
      → Or12 _ (9 ∷ []) (answer_for (in_items 2 (sphere_uvs rings sectors)) buffers)
  pub sphere_lengths : (rings sectors : ℕ) (b : Bounds)
      → Plain _ (9 ∷ 10 ∷ []) (both_lengths (sphere_numbers rings sectors b) (sphere_uvs rings sectors))
  pub cubemap_indices : (cells : ℕ) (buffers : List (List ℕ))
      → Or12 _ (9 ∷ []) (answer_for (in_items 1 (cube_numbers cells)) buffers)
  pub cubemap_mesh : (cells : ℕ) (radius padding : Float) (buffers : List (List ℕ))
      → Or12 _ (9 ∷ 11 ∷ []) (answer_for (in_items 5 (cube_floats cells radius padding)) buffers)
  pub cubemap_lengths : (cells : ℕ) (radius padding : Float)
      → Plain _ (9 ∷ 11 ∷ []) (both_lengths (cube_numbers cells) (cube_floats cells radius padding))
  -- the writers
  pub write_equi : (ρ : EquiFields) (buffers : List (List ℕ))
      → Or12 _ (10 ∷ []) (answer_for (in_items 1 (equi_written ρ)) buffers)
  pub write_cbmp : (p : ℕ) (buffers : List (List ℕ))
      → Or12 _ (5 ∷ []) (answer_for (in_items 1 (cbmp_written p)) buffers)
  pub write_mesh : (pool coordinates rows points : List ℕ) (buffers : List (List ℕ))
      → Or12 _ (13 ∷ 17 ∷ []) (answer_for (in_items 1 (mesh_written pool coordinates rows points)) buffers)
  -- the counts
  pub vertex_count_law : (rings sectors : ℕ) → Plain _ (14 ∷ []) (vertex_count rings sectors)
  pub index_count_law : (rings sectors : ℕ) → Plain _ (14 ∷ []) (index_count rings sectors)
  pub cubemap_vertex_count_law : (cells : ℕ) → Plain _ (14 ∷ []) (cubemap_vertex_count cells)
  pub cubemap_index_count_law : (cells : ℕ) → Plain _ (14 ∷ []) (cubemap_index_count cells)

-- each refuses with the numbers that are listed for it alone
abbrev pub Refusals : Type 0
Refusals = EachCall (λ A ks v. Refuses ks v) (λ A ks v. RefusesOr12 ks v)

-- and 16 is no answer of any
abbrev pub NeverSixteen : Type 0
NeverSixteen = EachCall (NeverDeclines 16) (NeverDeclines 16)
