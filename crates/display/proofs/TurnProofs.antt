-- The theorems about turns.
use Prim.Native.Nat.{ℕ, zero, suc, ◌+◌, ◌-◌, ◌*◌, ◌/◌, min, ◌≤◌, ◌<◌}
use mathlib.Core.Path.{◌≡◌, refl, sym, ap, ◌∙◌}
use mathlib.Core.List.{List, [], ◌∷◌}
use mathlib.Core.Logic.{◌⊎◌, inl, inr}
use native.Mathlib.Nat.{div-mul-le_self, div-le_self, suc-mul}
use native.Mathlib.Omega.{arith}
use lib.ListN.{length, get_or, replicate}
use Rattle.bits.proofs.VerdictLaws.{le-or-lt}
use Rattle.display.specs.Turns.{gets, after_turn, left_after_turn, turns, shared}
use Rattle.display.specs.InternalLevels.{up_to, unmet_at}
use Rattle.payload.specs.MeshSpells.{sum}
use Rattle.display.specs.TurnLaws.{TurnShares}
use Rattle.display.proofs.LevelTurns.{gets_most, gets_wish, up_to-zero, left_level, turns-none, turns_whole, turns_last, turns_met}

-- the turns from level 0
pub from_zero : (p : ℕ) (ws : List ℕ) → shared p ws ≡ turns p p ws (up_to 0 ws)
unfolding shared
from_zero p ws = rw up_to-zero

-- ---- how many shares there are

after_windows : (p : ℕ) (ws ss : List ℕ) → length (after_turn p ws ss) ≡ length ss
unfolding after_turn
after_windows p [] ss = refl
after_windows p (w ∷ ws) [] = refl
after_windows p (w ∷ ws) (s ∷ ss) = ap suc (after_windows (p - gets p w s) ws ss)

turns_windows : (n p : ℕ) (ws ss : List ℕ) → length (turns n p ws ss) ≡ length ss
unfolding turns
turns_windows zero p ws ss = refl
turns_windows (suc n) p ws ss = turns_windows n (left_after_turn p ws ss) ws (after_turn p ws ss) ∙ after_windows p ws ss

up_to_windows : (level : ℕ) (ws : List ℕ) → length (up_to level ws) ≡ length ws
unfolding up_to
up_to_windows level [] = refl
up_to_windows level (w ∷ ws) = ap suc (up_to_windows level ws)

pub windows : (p : ℕ) (ws : List ℕ) → length (shared p ws) ≡ length ws
windows p ws = rw (from_zero p ws) (turns_windows p p ws (up_to 0 ws) ∙ up_to_windows 0 ws)

-- ---- never more than the wish

after_most : (p : ℕ) (ws ss : List ℕ) → ((i : ℕ) → get_or ss i 0 ≤ get_or ws i 0) → (i : ℕ) → get_or (after_turn p ws ss) i 0 ≤ get_or ws i 0
unfolding after_turn
after_most p [] ss h i = h i
after_most p (w ∷ ws) [] h zero = h zero
after_most p (w ∷ ws) [] h (suc i) = h (suc i)
after_most p (w ∷ ws) (s ∷ ss) h zero = gets_wish p w s (h 0)
after_most p (w ∷ ws) (s ∷ ss) h (suc i) = after_most (p - gets p w s) ws ss (λ k. h (suc k)) i

turns_most : (n p : ℕ) (ws ss : List ℕ) → ((i : ℕ) → get_or ss i 0 ≤ get_or ws i 0) → (i : ℕ) → get_or (turns n p ws ss) i 0 ≤ get_or ws i 0
unfolding turns
turns_most zero p ws ss h = h
turns_most (suc n) p ws ss h = turns_most n (left_after_turn p ws ss) ws (after_turn p ws ss) (after_most p ws ss h)

up_to_at : (level : ℕ) (ws : List ℕ) (i : ℕ) → get_or (up_to level ws) i 0 ≡ min (get_or ws i 0) level
unfolding up_to
up_to_at level [] zero = omega arith
up_to_at level [] (suc i) = omega arith
up_to_at level (w ∷ ws) zero = refl
up_to_at level (w ∷ ws) (suc i) = up_to_at level ws i

at_most : (p : ℕ) (ws : List ℕ) (i : ℕ) → get_or (shared p ws) i 0 ≤ get_or ws i 0
at_most p ws = rw (from_zero p ws) (turns_most p p ws (up_to 0 ws) (λ i. rw up_to_at (omega arith)))

-- ---- at least an equal part

after_least : (p : ℕ) (ws ss : List ℕ) (i : ℕ) → get_or ss i 0 ≤ get_or (after_turn p ws ss) i 0
unfolding after_turn
after_least p [] ss i = omega arith
after_least p (w ∷ ws) [] i = omega arith
after_least p (w ∷ ws) (s ∷ ss) zero = omega arith
after_least p (w ∷ ws) (s ∷ ss) (suc i) = after_least (p - gets p w s) ws ss i

turns_least : (n p : ℕ) (ws ss : List ℕ) (i : ℕ) → get_or ss i 0 ≤ get_or (turns n p ws ss) i 0
unfolding turns
turns_least zero p ws ss i = omega arith
turns_least (suc n) p ws ss i = omega (arith, after_least p ws ss i, turns_least n (left_after_turn p ws ss) ws (after_turn p ws ss) i)

unmet_most : (level : ℕ) (ws : List ℕ) → unmet_at level ws ≤ length ws
unfolding unmet_at
unmet_most level [] = omega arith
unmet_most level (w ∷ ws) = let h = unmet_most level ws in omega arith

-- points for j turns to all windows lift everyone j levels
lifted : (j n level p : ℕ) (ws : List ℕ) → j * length ws ≤ p → (i : ℕ) → min (get_or ws i 0) (level + j) ≤ get_or (turns (j + n) p ws (up_to level ws)) i 0
lifted zero n level p ws h i =
    let e : level + 0 ≡ level = omega arith in
    rw (e, ← up_to_at level ws i) (turns_least (0 + n) p ws (up_to level ws) i)
lifted (suc j) n level p ws h i =
    let u = unmet_most level ws in
    let k = suc-mul j (length ws) in
    let e : suc j + n ≡ suc (j + n) = omega arith in
    let f : level + suc j ≡ suc level + j = omega arith in
    rw (e, f, turns_whole level p ws (j + n) (omega arith)) (lifted j n (suc level) (p - unmet_at level ws) ws (omega arith) i)

at_least : (p : ℕ) (ws : List ℕ) (i : ℕ) → i < length ws → min (get_or ws i 0) (p / length ws) ≤ get_or (shared p ws) i 0
at_least p ws i h =
    let q : ℕ = p / length ws in
    let l : q ≤ p = div-le_self p (length ws) in
    let e : q + (p - q) ≡ p = omega arith in
    let f : 0 + q ≡ q = omega arith in
    rw (from_zero p ws) (rw (e, f) at (lifted q (p - q) 0 p ws (div-mul-le_self p (length ws)) i))

-- ---- the sum

after-sum : (p : ℕ) (ws ss : List ℕ) → sum (after_turn p ws ss) + left_after_turn p ws ss ≡ sum ss + p
unfolding after_turn left_after_turn
after-sum p [] ss = refl
after-sum p (w ∷ ws) [] = refl
after-sum p (w ∷ ws) (s ∷ ss) = omega (arith, after-sum (p - gets p w s) ws ss, gets_most p w s)

up_to_rise : (level : ℕ) (ws : List ℕ) → sum (up_to (suc level) ws) ≡ sum (up_to level ws) + unmet_at level ws
unfolding up_to unmet_at
up_to_rise level [] = omega arith
up_to_rise level (w ∷ ws) = let h = up_to_rise level ws in omega arith

up_to_most : (level : ℕ) (ws : List ℕ) → sum (up_to level ws) ≤ sum ws
unfolding up_to
up_to_most level [] = omega arith
up_to_most level (w ∷ ws) = let h = up_to_most level ws in omega arith

up_to_met : (level : ℕ) (ws : List ℕ) → unmet_at level ws ≡ 0 → sum (up_to level ws) ≡ sum ws
unfolding up_to unmet_at
up_to_met level [] h = refl
up_to_met level (w ∷ ws) h = let k = up_to_met level ws (omega arith) in omega arith

-- Turns enough to end the points, from a level: every wish is met, the points end in this turn, or it is a whole one.
data Enough (level p : ℕ) (ws : List ℕ) : Type 0 where
  met : unmet_at level ws ≡ 0 → Enough level p ws
  last : p ≤ unmet_at level ws → Enough level p ws
  whole : 1 ≤ unmet_at level ws → unmet_at level ws ≤ p → Enough level p ws

enough : (level p : ℕ) (ws : List ℕ) → Enough level p ws
enough level p ws = go (le-or-lt (unmet_at level ws) 0) (le-or-lt p (unmet_at level ws))
  where
    go : (unmet_at level ws ≤ 0) ⊎ (0 < unmet_at level ws) → (p ≤ unmet_at level ws) ⊎ (unmet_at level ws < p) → Enough level p ws
    go (inl h) k = met (omega arith)
    go (inr h) (inl k) = last k
    go (inr h) (inr k) = whole h (omega arith)

turns-sum : (n level p : ℕ) (ws : List ℕ) → p ≤ n → sum (turns n p ws (up_to level ws)) ≡ min (sum (up_to level ws) + p) (sum ws)
turns-sum zero level p ws h =
    let e : p ≡ 0 = omega arith in
    rw (e, turns-none zero ws (up_to level ws)) (omega (arith, up_to_most level ws))
turns-sum (suc n) level p ws h = go (enough level p ws) (turns-sum n (suc level) (p - unmet_at level ws) ws)
  where
    go : Enough level p ws → (p - unmet_at level ws ≤ n → sum (turns n (p - unmet_at level ws) ws (up_to (suc level) ws)) ≡ min (sum (up_to (suc level) ws) + (p - unmet_at level ws)) (sum ws))
        → sum (turns (suc n) p ws (up_to level ws)) ≡ min (sum (up_to level ws) + p) (sum ws)
    go (met m) r = rw (turns_met level p ws (suc n) m) (omega (arith, up_to_met level ws m))
    go (last m) r =
        let s = after-sum p ws (up_to level ws) in
        let k = left_level level p ws in
        let a = up_to_rise level ws in
        let b = up_to_most (suc level) ws in
        rw (turns_last level p ws n m) (omega arith)
    go (whole o m) r =
        let a = up_to_rise level ws in
        rw (turns_whole level p ws n m) (r (omega arith) ∙ ap (λ (k : ℕ). min k (sum ws)) (omega arith))

add_up : (p : ℕ) (ws : List ℕ) → sum (shared p ws) ≡ min p (sum ws)
add_up p ws = rw (from_zero p ws) (turns-sum p 0 p ws (omega arith) ∙ ap (λ (k : ℕ). min k (sum ws)) (rw up_to-zero (none ws)))
  where
    none : (l : List ℕ) → sum (replicate (length l) 0) + p ≡ p
    none [] = omega arith
    none (x ∷ l) = omega (arith, none l)

-- ---- points or wishes have ended

turns_ended : (n k level p : ℕ) (ws : List ℕ) → p ≤ n → turns (n + k) p ws (up_to level ws) ≡ turns n p ws (up_to level ws)
turns_ended zero k level p ws h =
    let e : p ≡ 0 = omega arith in
    rw (e, turns-none (0 + k) ws (up_to level ws), turns-none 0 ws (up_to level ws))
turns_ended (suc n) k level p ws h = let e : suc n + k ≡ suc (n + k) = omega arith in rw e (go (enough level p ws) (turns_ended n k (suc level) (p - unmet_at level ws) ws))
  where
    go : Enough level p ws → (p - unmet_at level ws ≤ n → turns (n + k) (p - unmet_at level ws) ws (up_to (suc level) ws) ≡ turns n (p - unmet_at level ws) ws (up_to (suc level) ws))
        → turns (suc (n + k)) p ws (up_to level ws) ≡ turns (suc n) p ws (up_to level ws)
    go (met m) r = turns_met level p ws (suc (n + k)) m ∙ sym (turns_met level p ws (suc n) m)
    go (last m) r = turns_last level p ws (n + k) m ∙ sym (turns_last level p ws n m)
    go (whole o m) r = turns_whole level p ws (n + k) m ∙ r (omega arith) ∙ sym (turns_whole level p ws n m)

ended : (p : ℕ) (ws : List ℕ) (more : ℕ) → turns (p + more) p ws (replicate (length ws) 0) ≡ shared p ws
ended p ws more = rw (from_zero p ws, ← up_to-zero ws) (turns_ended p more 0 p ws (omega arith))

pub turn_shares : TurnShares
turn_shares = record { windows = windows; at_least = at_least; at_most = at_most; add_up = add_up; ended = ended }
