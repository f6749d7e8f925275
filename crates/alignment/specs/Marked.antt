-- Cases worked out by computation: points looked up in m1 of document 01, the box of payload's specs/MeshMarked.antt,
-- alone and as the second of two.
use Rattle.std.specs.Prelude.{◌≡◌, [], ◌∷◌, ◌++◌, set}
use Rattle.bits.specs.Verdict.{accepted, declined}
use Rattle.bits.specs.Run.{zeros}
use Rattle.payload.specs.MeshMarked.{one_box, two_boxes, two_meshes}
use Rattle.alignment.specs.LookUp.{looked_up}

pub record Marked : Type 0 where
  -- out of order and again: all three fields are walked
  pub m1 : looked_up one_box 0 (2 ∷ 0 ∷ 1 ∷ 2 ∷ [])
      ≡ accepted (record { answer = 3; lists = (2 ∷ 0 ∷ 1 ∷ 2 ∷ []) ∷ [] })
  -- with the fields 4, 3 and 0 its points are 2, 0 and 0: vertex numbers, not point numbers
  pub turned : looked_up (set one_box 38 0x8C) 0 (1 ∷ 0 ∷ 2 ∷ [])
      ≡ accepted (record { answer = 3; lists = (0 ∷ 2 ∷ 0 ∷ []) ∷ [] })
  -- the first point alone, twice: one field; and no question: none
  pub first : looked_up one_box 0 (0 ∷ 0 ∷ []) ≡ accepted (record { answer = 1; lists = (0 ∷ 0 ∷ []) ∷ [] })
  pub no_question : looked_up one_box 0 [] ≡ accepted (record { answer = 0; lists = [] ∷ [] })
  -- the second record, behind a box that is skipped
  pub second : looked_up two_boxes 1 (1 ∷ []) ≡ accepted (record { answer = 2; lists = (1 ∷ []) ∷ [] })
  -- 256 questions, and one more
  pub most : looked_up one_box 0 (zeros 256) ≡ accepted (record { answer = 1; lists = zeros 256 ∷ [] })
  pub too_many : looked_up one_box 0 (zeros 257) ≡ declined 24
  -- a number that is the index count, a record that is not there, and one where nothing is asked
  pub past : looked_up one_box 0 (0 ∷ 3 ∷ []) ≡ declined 24
  pub no_record : looked_up one_box 1 (0 ∷ []) ≡ declined 24
  pub no_record_asked : looked_up two_boxes 2 [] ≡ declined 24
  pub no_list : looked_up [] 0 [] ≡ declined 24
  -- the payload's refusals come before
  pub refused : looked_up (set one_box 38 0x0A) 1 (3 ∷ []) ≡ declined 8
  pub third : looked_up (two_meshes ++ one_box) 9 (9 ∷ []) ≡ declined 18
