-- Cases worked out by computation: records of each mode, and records that are refused.
use Rattle.std.specs.Prelude.{◌≡◌, [], ◌∷◌}
use Rattle.bits.specs.Verdict.{accepted, declined}
use Rattle.display.specs.Triangles.{triangles_made}

pub record Marked : Type 0 where
  pub threes : triangles_made (0 ∷ 0 ∷ 0 ∷ 10 ∷ 8 ∷ []) ≡ accepted (10 ∷ 11 ∷ 12 ∷ 13 ∷ 14 ∷ 15 ∷ [])
  pub strip : triangles_made (0 ∷ 0 ∷ 1 ∷ 10 ∷ 5 ∷ [])
      ≡ accepted (10 ∷ 11 ∷ 12 ∷ 12 ∷ 11 ∷ 13 ∷ 12 ∷ 13 ∷ 14 ∷ [])
  pub fan : triangles_made (0 ∷ 0 ∷ 2 ∷ 10 ∷ 5 ∷ [])
      ≡ accepted (10 ∷ 11 ∷ 12 ∷ 10 ∷ 12 ∷ 13 ∷ 10 ∷ 13 ∷ 14 ∷ [])
  -- two points of each mode, and none
  pub two_points : triangles_made
      (0 ∷ 0 ∷ 0 ∷ 0 ∷ 2 ∷ 0 ∷ 0 ∷ 1 ∷ 2 ∷ 2 ∷ 0 ∷ 0 ∷ 2 ∷ 4 ∷ 2 ∷ 0 ∷ 0 ∷ 1 ∷ 6 ∷ 0 ∷ []) ≡ accepted []
  pub no_records : triangles_made [] ≡ accepted []
  pub torn : triangles_made (0 ∷ 0 ∷ 0 ∷ 0 ∷ []) ≡ declined 15
  pub torn_later : triangles_made (0 ∷ 0 ∷ 0 ∷ 0 ∷ 0 ∷ 0 ∷ []) ≡ declined 15
  pub mode_three : triangles_made (0 ∷ 0 ∷ 3 ∷ 0 ∷ 0 ∷ []) ≡ declined 15
  pub last_point : triangles_made (0 ∷ 0 ∷ 0 ∷ 4294967292 ∷ 3 ∷ [])
      ≡ accepted (4294967292 ∷ 4294967293 ∷ 4294967294 ∷ [])
  pub past : triangles_made (0 ∷ 0 ∷ 0 ∷ 4294967295 ∷ 1 ∷ []) ≡ declined 15
  pub most : triangles_made (0 ∷ 0 ∷ 1 ∷ 4294967295 ∷ 0 ∷ []) ≡ accepted []
  pub too_many : triangles_made (0 ∷ 0 ∷ 0 ∷ 0 ∷ 4294967295 ∷ 0 ∷ 0 ∷ 0 ∷ 0 ∷ 1 ∷ []) ≡ declined 15
