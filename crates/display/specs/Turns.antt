-- A frame's points shared out among windows by turns. Wishes and shares are lists, a window to a place.
use Rattle.std.specs.Prelude.{ℕ, zero, suc, ◌+◌, ◌-◌, List, [], ◌∷◌, Bool, cond, ◌&&◌, leb, ltb, length, replicate}
use Rattle.bits.specs.Verdict.{Verdict, accepted, declined}
use Rattle.payload.specs.MeshWrite.{all_below}

-- what a window is given in its turn: one point where one of the p is left and its wish is unmet
unfoldable pub gets : ℕ → ℕ → ℕ → ℕ
gets p wish share = cond (ltb 0 p && ltb share wish) 1 0

-- one turn, windows in the given order: the shares after it
unfoldable pub after_turn : ℕ → List ℕ → List ℕ → List ℕ
after_turn p [] shares = shares
after_turn p (w ∷ wishes) [] = []
after_turn p (w ∷ wishes) (s ∷ shares) = (s + gets p w s) ∷ after_turn (p - gets p w s) wishes shares

-- and the points left after it
unfoldable pub left_after_turn : ℕ → List ℕ → List ℕ → ℕ
left_after_turn p [] shares = p
left_after_turn p (w ∷ wishes) [] = p
left_after_turn p (w ∷ wishes) (s ∷ shares) = left_after_turn (p - gets p w s) wishes shares

-- n turns
unfoldable pub turns : ℕ → ℕ → List ℕ → List ℕ → List ℕ
turns zero p wishes shares = shares
turns (suc n) p wishes shares = turns n (left_after_turn p wishes shares) wishes (after_turn p wishes shares)

-- From no share on, p turns: one that finds a point and an unmet wish gives a point, so points or wishes end within p
-- turns, and turns after that give nothing (`TurnShares.ended`).
unfoldable pub shared : ℕ → List ℕ → List ℕ
shared p wishes = turns p p wishes (replicate (length wishes) 0)

-- one to eight windows, and every number below 1,000,000
unfoldable pub shareable : ℕ → List ℕ → Bool
shareable p wishes = leb 1 (length wishes) && leb (length wishes) 8 && ltb p 1000000 && all_below 1000000 wishes

-- the shares, or 26
unfoldable pub sharing : ℕ → List ℕ → Verdict (List ℕ)
sharing p wishes = cond (shareable p wishes) (accepted (shared p wishes)) (declined 26)
