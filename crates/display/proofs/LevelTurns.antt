-- Turns from a level: a whole turn rises by one, a last one ends the points, and with every wish met nothing changes.
use Prim.Native.Nat.{ℕ, zero, suc, ◌+◌, ◌-◌, min, ◌≤◌, ◌<◌}
use mathlib.Core.Path.{◌≡◌, refl, ap, ap₂, ◌∙◌}
use mathlib.Core.List.{List, [], ◌∷◌}
use mathlib.Core.Bool.{cond, ◌&&◌}
use mathlib.Core.Logic.{◌⊎◌, inl, inr}
use native.Mathlib.Omega.{arith}
use lib.Dec.{ltb}
use lib.ListN.{length, replicate}
use borrow.Author.Tests.{lt-ltb, le-ltb}
use Rattle.bits.proofs.VerdictLaws.{le-or-lt}
use Rattle.display.specs.Turns.{gets, after_turn, left_after_turn, turns}
use Rattle.display.specs.InternalLevels.{up_to, unmet_at}

-- ---- one window

module _ (p w s : ℕ) where
  -- as a number
  gets_number : gets p w s ≡ min 1 (min p (w - s))
  unfolding gets
  gets_number = go (le-or-lt p 0) (le-or-lt w s)
    where
      go : (p ≤ 0) ⊎ (0 < p) → (w ≤ s) ⊎ (s < w) → cond (ltb 0 p && ltb s w) 1 0 ≡ min 1 (min p (w - s))
      go (inl h) k = rw (le-ltb 0 p h) (omega arith)
      go (inr h) (inl k) = rw (lt-ltb 0 p h, le-ltb s w k) (omega arith)
      go (inr h) (inr k) = rw (lt-ltb 0 p h, lt-ltb s w k) (omega arith)

  pub gets_most : gets p w s ≤ p
  gets_most = omega (arith, gets_number)

  pub gets_wish : s ≤ w → s + gets p w s ≤ w
  gets_wish h = omega (arith, gets_number)

pub gets_level : (p w level : ℕ) → gets p w (min w level) ≡ min p (min 1 (w - level))
gets_level p w level =
    let e : w - min w level ≡ w - level = omega arith in
    gets_number p w (min w level) ∙ rw e (same p (w - level))
  where
    same : (p x : ℕ) → min 1 (min p x) ≡ min p (min 1 x)
    same p x = omega arith

pub gets-zero : (w s : ℕ) → gets 0 w s ≡ 0
gets-zero w s = omega (arith, gets_number 0 w s)

-- ---- with no points left nothing changes

pub after_none : (ws ss : List ℕ) → after_turn 0 ws ss ≡ ss
unfolding after_turn
after_none [] ss = refl
after_none (w ∷ ws) [] = refl
after_none (w ∷ ws) (s ∷ ss) =
    let z = gets-zero w s in
    let a : s + gets 0 w s ≡ s = omega arith in
    let b : 0 - gets 0 w s ≡ 0 = omega arith in
    rw (a, b) (ap (λ (l : List ℕ). s ∷ l) (after_none ws ss))

pub left_none : (ws ss : List ℕ) → left_after_turn 0 ws ss ≡ 0
unfolding left_after_turn
left_none [] ss = refl
left_none (w ∷ ws) [] = refl
left_none (w ∷ ws) (s ∷ ss) =
    let b : 0 - gets 0 w s ≡ 0 = omega arith in
    rw b (left_none ws ss)

pub turns-none : (n : ℕ) (ws ss : List ℕ) → turns n 0 ws ss ≡ ss
unfolding turns
turns-none zero ws ss = refl
turns-none (suc n) ws ss = rw (left_none ws ss, after_none ws ss) (turns-none n ws ss)

-- ---- a turn from a level

pub up_to-zero : (ws : List ℕ) → up_to 0 ws ≡ replicate (length ws) 0
unfolding up_to
up_to-zero [] = refl
up_to-zero (w ∷ ws) = ap₂ (λ (x : ℕ) (l : List ℕ). x ∷ l) (omega arith) (up_to-zero ws)

pub left_level : (level p : ℕ) (ws : List ℕ) → left_after_turn p ws (up_to level ws) ≡ p - unmet_at level ws
unfolding left_after_turn up_to unmet_at
left_level level p [] = omega arith
left_level level p (w ∷ ws) =
    rw gets_level (left_level level (p - min p (min 1 (w - level))) ws ∙ less p (min 1 (w - level)) (unmet_at level ws))
  where
    less : (p x u : ℕ) → p - min p x - u ≡ p - (x + u)
    less p x u = omega arith

pub after_level : (level p : ℕ) (ws : List ℕ) → unmet_at level ws ≤ p → after_turn p ws (up_to level ws) ≡ up_to (suc level) ws
unfolding after_turn up_to unmet_at
after_level level p [] h = refl
after_level level p (w ∷ ws) h =
    rw gets_level
    (ap₂ (λ (x : ℕ) (l : List ℕ). x ∷ l)
    (head p w level (unmet_at level ws) h)
    (after_level level (p - min p (min 1 (w - level))) ws (tail p (min 1 (w - level)) (unmet_at level ws) h)))
  where
    head : (p w level u : ℕ) → min 1 (w - level) + u ≤ p → min w level + min p (min 1 (w - level)) ≡ min w (suc level)
    head p w level u h = omega arith

    tail : (p x u : ℕ) → x + u ≤ p → u ≤ p - min p x
    tail p x u h = omega arith

pub met_rise : (level : ℕ) (ws : List ℕ) → unmet_at level ws ≡ 0 → up_to (suc level) ws ≡ up_to level ws
unfolding up_to unmet_at
met_rise level [] h = refl
met_rise level (w ∷ ws) h = ap₂ (λ (x : ℕ) (l : List ℕ). x ∷ l) (omega arith) (met_rise level ws (omega arith))

-- ---- turns from a level

module _ (level p : ℕ) (ws : List ℕ) where
  -- everyone whose wish is unmet gets a point
  pub turns_whole : (n : ℕ) → unmet_at level ws ≤ p → turns (suc n) p ws (up_to level ws) ≡ turns n (p - unmet_at level ws) ws (up_to (suc level) ws)
  unfolding turns
  turns_whole n h = rw (left_level level p ws, after_level level p ws h)

  -- the points do not last longer than this turn
  pub turns_last : (n : ℕ) → p ≤ unmet_at level ws → turns (suc n) p ws (up_to level ws) ≡ after_turn p ws (up_to level ws)
  unfolding turns
  turns_last n h =
      let z : p - unmet_at level ws ≡ 0 = omega arith in
      rw (left_level level p ws, z) (turns-none n ws (after_turn p ws (up_to level ws)))

  -- every wish is met
  pub after_met : unmet_at level ws ≡ 0 → after_turn p ws (up_to level ws) ≡ up_to level ws
  after_met h = after_level level p ws (omega arith) ∙ met_rise level ws h

  pub turns_met : (n : ℕ) → unmet_at level ws ≡ 0 → turns n p ws (up_to level ws) ≡ up_to level ws
  unfolding turns
  turns_met zero h = refl
  turns_met (suc n) h =
      let z : p - unmet_at level ws ≡ p = omega arith in
      rw (left_level level p ws, z, after_met h) (turns_met n h)
