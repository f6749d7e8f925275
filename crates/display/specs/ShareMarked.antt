-- Worked cases of the turns.
use Rattle.std.specs.Prelude.{◌≡◌, [], ◌∷◌}
use Rattle.display.specs.Turns.{shared}

pub record ShareMarked : Type 0 where
  -- the second window goes on alone
  pub whole_turns : shared 8 (3 ∷ 9 ∷ 1 ∷ []) ≡ 3 ∷ 4 ∷ 1 ∷ []
  -- points end within a turn, and a window that wishes nothing is passed over
  pub cut_short : shared 2 (3 ∷ 0 ∷ 9 ∷ 1 ∷ []) ≡ 1 ∷ 0 ∷ 1 ∷ 0 ∷ []
  -- wishes end
  pub all_met : shared 100 (3 ∷ 9 ∷ 1 ∷ []) ≡ 3 ∷ 9 ∷ 1 ∷ []
