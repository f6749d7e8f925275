-- The walk: how many fields it took, where it stands, and that it leads to the numbers of a run that is spelled there.
-- Assumes nothing.
use Prim.Native.Nat.{ℕ, zero, suc, ◌+◌, ◌-◌, ◌*◌, ◌≤◌, ◌<◌}
use mathlib.Core.Path.{◌≡◌, refl, sym, ap, ◌∙◌}
use mathlib.Core.List.{List, ◌∷◌}
use native.Mathlib.Omega.{arith}
use lib.ListN.{length, get_or}
use Rattle.bits.specs.Verdict.{Verdict, accepted, needs, declined, mapped}
use Rattle.bits.specs.Field.{field, room}
use Rattle.bits.specs.Number.{ran_on}
use Rattle.bits.specs.Read.{field_at}
use Rattle.bits.specs.Run.{zeros, RunSpells}
use Rattle.bits.proofs.VerdictLaws.{then_value, mapped_value, width_value, within_value}
use Rattle.bits.proofs.NumberLaws.{ran_moves, moves_ran}
use Rattle.bits.proofs.ReadLaws.{one_whole}
use Rattle.payload.specs.Internal.{WasRead}
use Rattle.payload.proofs.StepLaws.{not-read}
use Rattle.alignment.specs.Walk.{start, step, walk}
use Rattle.alignment.specs.Laws.{OneField}
use Rattle.alignment.specs.declared.walk.Walk.{Walk}

-- ---- one step

-- a field that was read ends a width further on
after-field : (s : List ℕ) (p w : ℕ) (f : ℕ × ℕ) → field_at s p w ≡ accepted f → f.1 ≡ p + w
after-field s p w f e =
    let t = within_value w (room s - p) (field s p w, p + w) 3 f (width_value w _ f e) in
    sym (ap (λ (x : ℕ × ℕ). x.1) t.1)

-- the state after a field that was read, and a number that was taken on
abbrev after : Walk → ℕ × ℕ → ℕ → Walk
after v f next = record { bit = f.1; number = next; taken = v.taken + 1 }

mapped-read : {A B : Type 0} (f : A → B) (v : Verdict A) → WasRead (mapped f v) → WasRead v
mapped-read f (accepted a) r = tt
mapped-read f (needs l) r = r
mapped-read f (declined k) r = r

module _ (s : List ℕ) (w limit : ℕ) (v : Walk) where
  pub step_by : (f : ℕ × ℕ) (next : ℕ) → field_at s v.bit w ≡ accepted f
      → ran_on limit v.number f.0 ≡ accepted next
      → step s w limit v ≡ accepted (after v f next)
  unfolding step
  step_by f next e d = rw (e, d)

  -- a step that goes: its number stays below the limit, and its field is there
  pub step_number : (f : ℕ × ℕ) → field_at s v.bit w ≡ accepted f → WasRead (step s w limit v)
      → WasRead (ran_on limit v.number f.0)
  unfolding step
  step_number f e r = mapped-read (after v f) (ran_on limit v.number f.0) (rw e at r)

  pub step_field : (k : ℕ) → declined k ≡ field_at s v.bit w → WasRead (step s w limit v) → ⊥
  unfolding step
  step_field k e r = not-read (step s w limit v) k (rw (← e) refl) r

  pub stepped : (u : Walk) → step s w limit v ≡ accepted u → OneField s w limit v u
  unfolding step
  stepped u e =
      let t = then_value (field_at s v.bit w) (λ f. mapped (after v f) (ran_on limit v.number f.0)) u e in
      let n = mapped_value (after v t.0) (ran_on limit v.number t.0.0) u (sym t.2) in
      let m = ran_moves v.number t.0.0 limit n.0 n.1 in
      let z : after v t.0 n.0 ≡ u = n.2 in
      rw (← z)
      (record {
        field = t.0.0;
        read = t.1;
        moves = m.0;
        below = m.1;
        place = after-field s v.bit w t.0 t.1;
        taken = refl;
      })

-- ---- n steps

module _ (s : List ℕ) (w limit p : ℕ) where
  pub walk_on : (n : ℕ) (v : Walk) → walk s w limit p n ≡ accepted v → walk s w limit p (suc n) ≡ step s w limit v
  unfolding walk
  walk_on n v e = rw e

  -- the state before the last step
  pub walk_back : (n : ℕ) (u : Walk) → walk s w limit p (suc n) ≡ accepted u
      → (v : Walk) × (walk s w limit p n ≡ accepted v) × (step s w limit v ≡ accepted u)
  unfolding walk
  walk_back n u e = then_value (walk s w limit p n) (step s w limit) u e

  pub walk_place : (n : ℕ) (v : Walk) → walk s w limit p n ≡ accepted v → v.bit ≡ p + n * w
  unfolding walk
  walk_place zero v e = let z : start p ≡ v = cc in rw (← z) (omega arith)
  walk_place (suc n) u e =
      let b = walk_back n u e in
      (stepped s w limit b.0 u b.2).place ∙ omega (arith, walk_place n b.0 b.1)

  pub walk_taken : (n : ℕ) (v : Walk) → walk s w limit p n ≡ accepted v → v.taken ≡ n
  unfolding walk
  walk_taken zero v e = let z : start p ≡ v = cc in rw (← z)
  walk_taken (suc n) u e =
      let b = walk_back n u e in
      (stepped s w limit b.0 u b.2).taken ∙ omega (arith, walk_taken n b.0 b.1)

-- ---- over a run that is spelled

-- the state after n fields of width w from bit p on that spell the numbers ns
abbrev pub state_at : ℕ → ℕ → List ℕ → ℕ → Walk
state_at w p ns n = record { bit = p + n * w; number = get_or (0 ∷ ns) n 0; taken = n }

module _ {s : List ℕ} {w limit p : ℕ} {ns : List ℕ} (short : length s ≤ 67108864) (narrow : w ≤ 32)
    (r : RunSpells s w limit p (zeros 1) ns) where
  there : (n : ℕ) → n < length ns → field_at s (p + n * w) w ≡ accepted (field s (p + n * w) w, p + n * w + w)
  there n h = one_whole s (p + n * w) w narrow (omega (arith, r.whole n h))

  pub walk_run : (n : ℕ) → n ≤ length ns → walk s w limit p n ≡ accepted (state_at w p ns n)
  unfolding walk
  walk_run zero h = let z : p + 0 * w ≡ p = omega arith in rw z refl
  walk_run (suc n) h =
      let l : n < length ns = omega arith in
      let q : p + n * w + w ≡ p + suc n * w = omega arith in
      let k : n + 1 ≡ suc n = omega arith in
      walk_on s w limit p n (state_at w p ns n) (walk_run n (omega arith))
      ∙ step_by s w limit (state_at w p ns n) (field s (p + n * w) w, p + n * w + w) (get_or ns n 0) (there n l)
      (moves_ran (get_or (0 ∷ ns) n 0) (field s (p + n * w) w) limit (get_or ns n 0) (r.moves n l) (r.below n l))
      ∙ rw (q, k) refl
