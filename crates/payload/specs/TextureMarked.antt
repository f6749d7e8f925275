-- Cases worked out by computation: the textures of some records, and of the boxes of specs/MeshMarked.antt.
use Rattle.std.specs.Prelude.{◌≡◌, [], ◌∷◌, ◌++◌, slice_set}
use Rattle.bits.specs.Verdict.{accepted, declined}
use Rattle.payload.specs.Records.{records_in}
use Rattle.payload.specs.Textures.{texture_words, textures_found}
use Rattle.payload.specs.MeshMarked.{one_box, two_boxes, two_meshes, infinite_at}

pub record TextureMarked : Type 0 where
  -- textures 5, 0, 5 and 0 with 3, 4, 2 and 6 points: 5 appears first
  pub several : texture_words
      (records_in (0 ∷ 5 ∷ 0 ∷ 0 ∷ 3 ∷ 0 ∷ 0 ∷ 0 ∷ 3 ∷ 4 ∷ 0 ∷ 5 ∷ 1 ∷ 7 ∷ 2 ∷ 1 ∷ 0 ∷ 0 ∷ 9 ∷ 6 ∷ []))
      ≡ 5 ∷ 5 ∷ 0 ∷ 10 ∷ []
  pub no_list : textures_found [] ≡ accepted []
  pub one_box_law : textures_found one_box ≡ accepted (0 ∷ 3 ∷ [])
  pub two_boxes_law : textures_found two_boxes ≡ accepted (0 ∷ 6 ∷ [])
  -- the third point is 3, of three vertices
  pub refused : textures_found (slice_set one_box 38 0x0A) ≡ declined 8
  -- the second word of the pool is an infinity
  pub infinite : textures_found (infinite_at 16 one_box) ≡ declined 17
  -- a third mesh
  pub third : textures_found (two_meshes ++ one_box) ≡ declined 18
