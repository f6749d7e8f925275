-- Rising from wish to wish: the counts of the code's loops, and that a jump is so many whole turns.
use Prim.Native.Nat.{ℕ, zero, suc, ◌+◌, ◌-◌, ◌*◌, ◌/◌, min, ◌≤◌, ◌<◌}
use mathlib.Core.Path.{◌≡◌, refl, sym, ap, ◌∙◌}
use mathlib.Core.Bool.{cond}
use mathlib.Core.List.{List, [], ◌∷◌}
use mathlib.Core.Logic.{◌⊎◌, inl, inr}
use native.Mathlib.Nat.{div-add-mod', mod-lt, suc-mul, mul-le-mul_right, mul-le-mul_left}
use native.Mathlib.Numerals.{add-one}
use native.Mathlib.Omega.{arith}
use lib.Dec.{ltb}
use lib.ListN.{length, get_or, drop, set}
use lib.Seq.{sets}
use borrow.Author.Tests.{lt-ltb, le-ltb}
use Rattle.std.specs.List.{count_by}
use Rattle.std.proofs.lemmas.List.Recursion.{is_count_by}
use Rattle.bits.proofs.VerdictLaws.{le-or-lt}
use Rattle.payload.proofs.MeshWriteLaws.{Under}
use Rattle.payload.proofs.PutRunLaws.{rest-cons, rest-none}
use Rattle.display.specs.Turns.{after_turn, turns, shared}
use Rattle.display.specs.InternalLevels.{up_to, unmet_at, lowest_above}
use Rattle.display.proofs.TurnProofs.{from_zero}
use Rattle.display.proofs.LevelTurns.{gets_level, after_none, turns-none, turns_whole, turns_last, after_met, turns_met}

-- ---- counting

pub unmet_is : (level : ℕ) (ws : List ℕ) → count_by (λ (w : ℕ). ltb level w) ws ≡ unmet_at level ws
unfolding unmet_at
unmet_is level ws = sym (is_count_by (unmet_at level) (λ (w : ℕ). ltb level w) refl (λ w l. go w (unmet_at level l) (le-or-lt w level)) ws)
  where
    go : (w n : ℕ) → (w ≤ level) ⊎ (level < w) → min 1 (w - level) + n ≡ cond (ltb level w) (1 + n) n
    go w n (inl g) = rw (le-ltb level w g) (omega arith)
    go w n (inr g) = rw (lt-ltb level w g) (omega arith)

-- ---- counting, and the lowest, from the front

module _ (level : ℕ) (ws : List ℕ) (i : ℕ) where
  pub unmet_first : i < length ws → unmet_at level (drop i ws) ≡ min 1 (get_or ws i 0 - level) + unmet_at level (drop (i + 1) ws)
  unfolding unmet_at
  unmet_first h = rw (rest-cons ws i h)

  pub unmet_end : length ws ≤ i → unmet_at level (drop i ws) ≡ 0
  unfolding unmet_at
  unmet_end h = rw (rest-none ws i h)

  pub lowest_first : i < length ws → level < get_or ws i 0 → lowest_above level (drop i ws) ≡ min (get_or ws i 0) (lowest_above level (drop (i + 1) ws))
  unfolding lowest_above
  lowest_first h g = rw (rest-cons ws i h, lt-ltb level (get_or ws i 0) g)

  pub lowest_past : i < length ws → get_or ws i 0 ≤ level → lowest_above level (drop i ws) ≡ lowest_above level (drop (i + 1) ws)
  unfolding lowest_above
  lowest_past h g = rw (rest-cons ws i h, le-ltb level (get_or ws i 0) g)

  pub lowest_end : length ws ≤ i → lowest_above level (drop i ws) ≡ 1000000
  unfolding lowest_above
  lowest_end h = rw (rest-none ws i h)

-- ---- the lowest wish above a level

pub lowest_least : (level : ℕ) (ws : List ℕ) → level ≤ 1000000 → level ≤ lowest_above level ws
unfolding lowest_above
lowest_least level [] h = h
lowest_least level (w ∷ ws) h = go (le-or-lt w level) (lowest_least level ws h)
  where
    go : (w ≤ level) ⊎ (level < w) → level ≤ lowest_above level ws → level ≤ lowest_above level (w ∷ ws)
    go (inl g) r = rw (le-ltb level w g) r
    go (inr g) r = rw (lt-ltb level w g) (omega arith)

pub lowest_most : (level : ℕ) (ws : List ℕ) → lowest_above level ws ≤ 1000000
unfolding lowest_above
lowest_most level [] = omega arith
lowest_most level (w ∷ ws) = go (le-or-lt w level) (lowest_most level ws)
  where
    go : (w ≤ level) ⊎ (level < w) → lowest_above level ws ≤ 1000000 → lowest_above level (w ∷ ws) ≤ 1000000
    go (inl g) r = rw (le-ltb level w g) r
    go (inr g) r = rw (lt-ltb level w g) (omega arith)

-- below it no wish is met
pub unmet_same : (level k : ℕ) (ws : List ℕ) → level ≤ k → k < lowest_above level ws → unmet_at k ws ≡ unmet_at level ws
unfolding lowest_above unmet_at
unmet_same level k [] h l = refl
unmet_same level k (w ∷ ws) h l = go (le-or-lt w level) l (unmet_same level k ws h)
  where
    go : (w ≤ level) ⊎ (level < w) → k < lowest_above level (w ∷ ws) → (k < lowest_above level ws → unmet_at k ws ≡ unmet_at level ws) → unmet_at k (w ∷ ws) ≡ unmet_at level (w ∷ ws)
    go (inl g) l r = let m = r (rw (le-ltb level w g) at l) in omega arith
    go (inr g) l r =
        let n : k < min w (lowest_above level ws) = rw (lt-ltb level w g) at l in
        let m = r (omega arith) in
        omega arith

unmet_falls : (level k : ℕ) (ws : List ℕ) → level ≤ k → unmet_at k ws ≤ unmet_at level ws
unfolding unmet_at
unmet_falls level k [] h = omega arith
unmet_falls level k (w ∷ ws) h = let r = unmet_falls level k ws h in omega arith

lowest-none : (level : ℕ) (ws : List ℕ) → unmet_at level ws ≡ 0 → lowest_above level ws ≡ 1000000
unfolding lowest_above unmet_at
lowest-none level [] h = refl
lowest-none level (w ∷ ws) h = let g : w ≤ level = omega arith in rw (le-ltb level w g) (lowest-none level ws (omega arith))

-- from it on one is met
pub unmet_less : (level k : ℕ) (ws : List ℕ) → Under 1000000 ws → level ≤ k → lowest_above level ws ≤ k → 1 ≤ unmet_at level ws → unmet_at k ws < unmet_at level ws
unfolding lowest_above unmet_at
unmet_less level k [] u h l o = absurd (omega arith)
unmet_less level k (w ∷ ws) u h l o = go (le-or-lt w level) (le-or-lt w k) (le-or-lt (unmet_at level ws) 0) l (unmet_less level k ws u.1 h)
  where
    go : (w ≤ level) ⊎ (level < w) → (w ≤ k) ⊎ (k < w) → (unmet_at level ws ≤ 0) ⊎ (0 < unmet_at level ws) → lowest_above level (w ∷ ws) ≤ k
        → (lowest_above level ws ≤ k → 1 ≤ unmet_at level ws → unmet_at k ws < unmet_at level ws) → unmet_at k (w ∷ ws) < unmet_at level (w ∷ ws)
    go (inl g) b s l r = let m = r (rw (le-ltb level w g) at l) (omega arith) in omega arith
    go (inr g) (inl b) s l r = let f = unmet_falls level k ws h in omega arith
    go (inr g) (inr b) (inl s) l r =
        let n : min w (lowest_above level ws) ≤ k = rw (lt-ltb level w g) at l in
        let z = lowest-none level ws (omega arith) in
        absurd (omega (arith, u.0))
    go (inr g) (inr b) (inr s) l r =
        let n : min w (lowest_above level ws) ≤ k = rw (lt-ltb level w g) at l in
        let m = r (omega arith) s in
        omega arith

-- ---- a jump

-- j whole turns to u windows each
jump : (j n level p u : ℕ) (ws : List ℕ) → ((k : ℕ) → level ≤ k → k < level + j → unmet_at k ws ≡ u) → j * u ≤ p
    → turns (j + n) p ws (up_to level ws) ≡ turns n (p - j * u) ws (up_to (level + j) ws)
jump zero n level p u ws same h =
    let a : 0 + n ≡ n = omega arith in
    let b : level + 0 ≡ level = omega arith in
    let d : p - 0 * u ≡ p = omega arith in
    rw (a, b, d)
jump (suc j) n level p u ws same h =
    let m = suc-mul j u in
    let e : unmet_at level ws ≡ u = same level (omega arith) (omega arith) in
    let a : suc j + n ≡ suc (j + n) = omega arith in
    let b : level + suc j ≡ suc level + j = omega arith in
    let d : p - suc j * u ≡ p - u - j * u = omega arith in
    rw (a, b, d) (turns_whole level p ws (j + n) (omega arith) ∙ rw e (jump j n (suc level) (p - u) u ws (λ k l g. same k (omega arith) (omega arith)) (omega arith)))

-- What the code has reached: whole turns up to a height, and the points left after them.
pub record Reached (p : ℕ) (ws : List ℕ) (height left : ℕ) : Type 0 where
  pub spent : height + left ≤ p
  pub most : height ≤ 1000000
  pub same : shared p ws ≡ turns (p - height) left ws (up_to height ws)

-- before the first turn
pub reached_none : (p : ℕ) (ws : List ℕ) → Reached p ws 0 p
reached_none p ws =
    let e : p - 0 ≡ p = omega arith in record { spent = omega arith; most = omega arith; same = rw e (from_zero p ws) }

module _ {p : ℕ} {ws : List ℕ} {height left : ℕ} (r : Reached p ws height left) where
  -- every wish is met
  pub reached_met : unmet_at height ws ≡ 0 → shared p ws ≡ after_turn left ws (up_to height ws)
  reached_met h = r.same ∙ turns_met height left ws (p - height) h ∙ sym (after_met height left ws h)

  module _ (u : ℕ) (e : u ≡ unmet_at height ws) (some : 1 ≤ u) where
    risen : (j : ℕ) → height + j ≤ lowest_above height ws → j * u ≤ left → (height + j + (left - j * u) ≤ p) × (shared p ws ≡ turns (p - (height + j)) (left - j * u) ws (up_to (height + j) ws))
    risen j l h =
        let m : j * 1 ≤ j * u = mul-le-mul_left j some in
        let s = r.spent in
        let k : p - height ≡ j + (p - (height + j)) = omega arith in
        let t = jump j (p - (height + j)) height left u ws (λ k a b. unmet_same height k ws a (omega arith) ∙ sym e) h in
        (omega arith, r.same ∙ rw k t)

    -- to the lowest wish
    pub reached_wish : (rise : ℕ) → height + rise ≡ lowest_above height ws → rise ≤ left / u → Reached p ws (height + rise) (left - rise * u)
    reached_wish rise l h =
        let d = div-add-mod' left u in
        let m : rise * u ≤ left / u * u = mul-le-mul_right u h in
        let t = risen rise (omega arith) (omega arith) in
        record { spent = t.0; most = omega (arith, lowest_most height ws); same = t.1 }

    -- not as far as the lowest wish: the next turn is the last
    pub reached_last : height + left / u < lowest_above height ws → shared p ws ≡ after_turn (left - left / u * u) ws (up_to (height + left / u) ws)
    reached_last l =
        let d = div-add-mod' left u in
        let m = mod-lt left some in
        let q : ℕ = left / u in
        let t = risen q (omega arith) (omega arith) in
        let s : left - q * u ≤ unmet_at (height + q) ws = omega (arith, unmet_same height (height + q) ws (omega arith) l) in
        t.1 ∙ final (p - (height + q)) (left - q * u) (height + q) (omega (arith, t.0)) s
      where
        final : (n a k : ℕ) → a ≤ n → a ≤ unmet_at k ws → turns n a ws (up_to k ws) ≡ after_turn a ws (up_to k ws)
        final zero a k h g = let z : a ≡ 0 = omega arith in rw (z, turns-none 0 ws (up_to k ws), after_none ws (up_to k ws))
        final (suc n) a k h g = turns_last k a ws n g

-- ---- dealing window by window

-- what is still to be put into the buffer from place i on
unfoldable pub rest : ℕ → ℕ → List ℕ → ℕ → List ℕ
rest height p ws i = after_turn p (drop i ws) (up_to height (drop i ws))

module _ (height p : ℕ) (ws : List ℕ) (i : ℕ) where
  pub rest_end : length ws ≤ i → rest height p ws i ≡ []
  unfolding rest up_to after_turn
  rest_end h = rw (rest-none ws i h)

  -- its first share v, and the points q after it
  rest_first : i < length ws → (v q : ℕ) → v ≡ min (get_or ws i 0) height + min p (min 1 (get_or ws i 0 - height)) → q ≡ p - min p (min 1 (get_or ws i 0 - height)) → rest height p ws i ≡ v ∷ rest height q ws (i + 1)
  unfolding rest up_to after_turn
  rest_first h v q e f = rw (rest-cons ws i h, gets_level, e, f)

  pub put_first : i < length ws → (v q : ℕ) → v ≡ min (get_or ws i 0) height + min p (min 1 (get_or ws i 0 - height)) → q ≡ p - min p (min 1 (get_or ws i 0 - height))
      → (d t : List ℕ) → sets d i (rest height p ws i) ≡ t → sets (set d i v) (i + 1) (rest height q ws (i + 1)) ≡ t
  put_first h v q e f d t r = rw add-one (ap (λ (l : List ℕ). sets d i l) (rw add-one at (sym (rest_first h v q e f))) ∙ r)

-- nothing is left to be put
pub put_all : (height points left : ℕ) (ws d l : List ℕ) (i : ℕ) → length ws ≤ i
    → sets l i (rest height left ws i) ≡ sets d 0 (rest height points ws 0)
    → l ≡ sets d 0 (after_turn points ws (up_to height ws))
unfolding rest
put_all height points left ws d l i h e = ap (λ (r : List ℕ). sets l i r) (sym (rest_end height left ws i h)) ∙ e
