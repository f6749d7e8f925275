-- m1 of document 01: a list of one mesh box, as it is read, drawn and written, with damaged copies of it, a list of
-- two, a third mesh, and long sizes.
use Rattle.std.specs.Prelude.{◌≡◌, ℕ, ◌+◌, List, [], ◌∷◌, ◌++◌, take, drop, slice_set}
use Rattle.bits.specs.Verdict.{accepted, declined}
use Rattle.payload.specs.Mesh.{Mesh}
use Rattle.payload.specs.MeshRead.{read_meshes}
use Rattle.payload.specs.MeshDrawing.{drawn_numbers, drawn_floats, drawn_records}
use Rattle.payload.specs.MeshWrite.{mesh_written}

-- a size of 40 and 'mesh'; two pool words; three vertices, in 30 bits; one submesh of three points, in 9 bits
abbrev pub one_box : List ℕ
one_box =
    0x00 ∷ 0x00 ∷ 0x00 ∷ 0x28 ∷ 0x6D ∷ 0x65 ∷ 0x73 ∷ 0x68 ∷ 0x00 ∷ 0x00 ∷ 0x00 ∷ 0x02 ∷ 0x00 ∷ 0x00 ∷ 0x00 ∷ 0x00
    ∷ 0x3F ∷ 0x80 ∷ 0x00 ∷ 0x00 ∷ 0x00 ∷ 0x00 ∷ 0x00 ∷ 0x03 ∷ 0x00 ∷ 0x20 ∷ 0x86 ∷ 0x18 ∷ 0x00 ∷ 0x00 ∷ 0x00 ∷ 0x01
    ∷ 0x00 ∷ 0x00 ∷ 0x00 ∷ 0x00 ∷ 0x00 ∷ 0x03 ∷ 0x09 ∷ 0x00 ∷ []

abbrev pub one_mesh : Mesh
one_mesh =
    record {
      pool = 0 ∷ 0x3F800000 ∷ [];
      vertices = 0 ∷ 0 ∷ 0 ∷ 0 ∷ 0 ∷ 1 ∷ 0 ∷ 0 ∷ 1 ∷ 0 ∷ 0 ∷ 1 ∷ 0 ∷ 0 ∷ 1 ∷ [];
      submeshes = record { texture = 0; mode = 0; points = 0 ∷ 1 ∷ 2 ∷ [] } ∷ [];
    }

-- the box, one of another type with a byte in it, the box again, and three bytes that are free
abbrev pub two_boxes : List ℕ
two_boxes =
    one_box
    ++ ((0x00 ∷ 0x00 ∷ 0x00 ∷ 0x09 ∷ 0x66 ∷ 0x72 ∷ 0x65 ∷ 0x65 ∷ 0xFF ∷ []) ++ (one_box ++ (0xFF ∷ 0xFF ∷ 0xFF ∷ [])))

abbrev pub two_meshes : List ℕ
two_meshes = one_box ++ one_box

-- its box with a long size, of 48
abbrev pub long_one : List ℕ
long_one =
    (0x00 ∷ 0x00 ∷ 0x00 ∷ 0x01 ∷ 0x6D ∷ 0x65 ∷ 0x73 ∷ 0x68 ∷ 0x00 ∷ 0x00 ∷ 0x00 ∷ 0x00 ∷ 0x00 ∷ 0x00 ∷ 0x00 ∷ 0x30 ∷ [])
    ++ drop 8 one_box

-- its first 19 bytes, with that size: the second word is cut off
abbrev pub cut_box : List ℕ
cut_box = slice_set (take 19 one_box) 3 0x13

-- bytes with those of an infinity, 7F80, from place i on
abbrev pub infinite_at : ℕ → List ℕ → List ℕ
infinite_at i s = slice_set (slice_set s i 0x7F) (i + 1) 0x80

pub record MeshMarked : Type 0 where
  pub m1 : read_meshes one_box ≡ accepted (one_mesh ∷ [])
  pub m1_two : read_meshes two_boxes ≡ accepted (one_mesh ∷ one_mesh ∷ [])
  pub m1_empty : read_meshes [] ≡ accepted []
  -- its drawing, and the records of two
  pub m1_numbers : drawn_numbers (one_mesh ∷ []) ≡ one_mesh.vertices
  pub m1_floats : drawn_floats (one_mesh ∷ [])
      ≡ 0 ∷ 0 ∷ 0 ∷ 0 ∷ 0 ∷ 0x3F800000 ∷ 0 ∷ 0 ∷ 0x3F800000 ∷ 0 ∷ 0 ∷ 0x3F800000 ∷ 0 ∷ 0 ∷ 0x3F800000 ∷ []
  -- one mesh is for both eyes, and of two the first is the left eye's
  pub m1_record : drawn_records (one_mesh ∷ []) ≡ 0 ∷ 0 ∷ 0 ∷ 0 ∷ 3 ∷ []
  pub m1_records : drawn_records (one_mesh ∷ one_mesh ∷ []) ≡ 1 ∷ 0 ∷ 0 ∷ 0 ∷ 3 ∷ 2 ∷ 0 ∷ 0 ∷ 3 ∷ 3 ∷ []
  -- written from its four tables; one point too many, a texture of 256, a vertex that is not there
  pub m1_written : mesh_written one_mesh.pool one_mesh.vertices (0 ∷ 0 ∷ 3 ∷ []) (0 ∷ 1 ∷ 2 ∷ []) ≡ accepted one_box
  pub m1_uneven : mesh_written one_mesh.pool one_mesh.vertices (0 ∷ 0 ∷ 3 ∷ []) (0 ∷ 1 ∷ 2 ∷ 0 ∷ []) ≡ declined 13
  pub m1_texture : mesh_written one_mesh.pool one_mesh.vertices (256 ∷ 0 ∷ 3 ∷ []) (0 ∷ 1 ∷ 2 ∷ []) ≡ declined 13
  pub m1_outside : mesh_written one_mesh.pool one_mesh.vertices (0 ∷ 0 ∷ 3 ∷ []) (0 ∷ 1 ∷ 3 ∷ []) ≡ declined 13
  -- a third mesh: before what its body holds and what follows, but after its size and after the boxes before it
  pub third : read_meshes (two_meshes ++ one_box) ≡ declined 18
  pub third_damaged : read_meshes (two_meshes ++ slice_set one_box 11 0x00) ≡ declined 18
  pub third_empty : read_meshes (two_meshes ++ (0x00 ∷ 0x00 ∷ 0x00 ∷ 0x08 ∷ 0x6D ∷ 0x65 ∷ 0x73 ∷ 0x68 ∷ []))
      ≡ declined 18
  pub third_before_size : read_meshes (two_meshes ++ (one_box ++ (0 ∷ 0 ∷ 0 ∷ 0 ∷ 0 ∷ 0 ∷ 0 ∷ 0 ∷ []))) ≡ declined 18
  pub third_sized : read_meshes (two_meshes ++ (0x00 ∷ 0x00 ∷ 0x00 ∷ 0x07 ∷ 0x6D ∷ 0x65 ∷ 0x73 ∷ 0x68 ∷ []))
      ≡ declined 6
  pub third_past : read_meshes (two_meshes ++ take 39 one_box) ≡ declined 6
  pub third_after : read_meshes (one_box ++ (slice_set one_box 11 0x00 ++ one_box)) ≡ declined 7
  -- a box of another type between them does not count
  pub third_type : read_meshes (one_box ++ (slice_set one_box 4 0x66 ++ one_box)) ≡ accepted (one_mesh ∷ one_mesh ∷ [])
  -- a long size, alone and before a short one, and one of a box that is skipped
  pub long : read_meshes long_one ≡ accepted (one_mesh ∷ [])
  pub long_short : read_meshes (long_one ++ one_box) ≡ accepted (one_mesh ∷ one_mesh ∷ [])
  pub long_skipped : read_meshes (slice_set long_one 4 0x66 ++ one_box) ≡ accepted (one_mesh ∷ [])
  -- of 15, of 49, and of 48 and 2^63; of 16, so that the body is empty
  pub long_small : read_meshes (slice_set long_one 15 0x0F) ≡ declined 6
  pub long_past : read_meshes (slice_set long_one 15 0x31) ≡ declined 6
  pub long_high : read_meshes (slice_set long_one 8 0x80) ≡ declined 6
  pub long_empty : read_meshes (slice_set long_one 15 0x10) ≡ declined 3
  -- cut off inside it, at its first byte and at its last; before the type's last byte the list ends
  pub long_cut : read_meshes (take 15 long_one) ≡ declined 3
  pub long_cut_first : read_meshes (take 8 long_one) ≡ declined 3
  pub long_none : read_meshes (take 7 long_one) ≡ accepted []
  -- a third mesh, by its type, though its long size is cut off or small
  pub third_cut : read_meshes (two_meshes ++ take 8 long_one) ≡ declined 18
  pub third_small : read_meshes (two_meshes ++ slice_set long_one 15 0x0F) ≡ declined 18
  -- a size of 0
  pub size_none : read_meshes (slice_set one_box 3 0x00) ≡ declined 6
  -- the last byte is missing: the size reaches past the end
  pub m1_past : read_meshes (take 39 one_box) ≡ declined 6
  -- the second point goes below 0; the third is 3, of three vertices
  pub m1_below : read_meshes (slice_set one_box 38 0x0F) ≡ declined 8
  pub m1_above : read_meshes (slice_set one_box 38 0x0A) ≡ declined 8
  -- the second word an infinity, or a NaN
  pub word_infinite : read_meshes (infinite_at 16 one_box) ≡ declined 17
  pub word_nan : read_meshes (slice_set (slice_set one_box 16 0xFF) 17 0xFF) ≡ declined 17
  -- an infinity before a word that is cut off; one that is itself cut off; one before a vertex count of 0
  pub word_before_cut : read_meshes (infinite_at 12 cut_box) ≡ declined 17
  pub word_cut : read_meshes (infinite_at 16 cut_box) ≡ declined 3
  pub word_before_count : read_meshes (infinite_at 16 (slice_set one_box 23 0x00)) ≡ declined 17
  -- written: 17, and 13 before it
  pub word_written : mesh_written (0 ∷ 0x7F800000 ∷ []) one_mesh.vertices (0 ∷ 0 ∷ 3 ∷ []) (0 ∷ 1 ∷ 2 ∷ [])
      ≡ declined 17
  pub word_no_mesh : mesh_written (0 ∷ 0x7F800000 ∷ []) one_mesh.vertices (0 ∷ 0 ∷ 3 ∷ []) (0 ∷ 1 ∷ 3 ∷ [])
      ≡ declined 13
  -- a submesh count of 0
  pub m1_none : read_meshes (slice_set one_box 31 0x00) ≡ declined 7
  -- a size of 38: the body ends before the points
  pub m1_short : read_meshes (slice_set one_box 3 0x26) ≡ declined 3
  -- two faults: a coordinate count of 0 in the first mesh comes before a box of size 0 behind it
  pub m1_order : read_meshes (slice_set one_box 11 0x00 ++ (0 ∷ 0 ∷ 0 ∷ 0 ∷ 0 ∷ 0 ∷ 0 ∷ 0 ∷ [])) ≡ declined 7
  -- and a box of size 0 before a damaged mesh behind it
  pub m1_order_2 : read_meshes ((0 ∷ 0 ∷ 0 ∷ 0 ∷ 0 ∷ 0 ∷ 0 ∷ 0 ∷ []) ++ slice_set one_box 11 0x00) ≡ declined 6
