-- `full_box` meets its contract. Assumes nothing.
use Rattle.std.proofs.Common.{◌≡◌, ℕ, ◌+◌, List, ◌∙◌, eq-eqb, ne_eqb}
use Rattle.bits.specs.Verdict.{Verdict, accepted, declined}
use Rattle.bits.specs.Read.{number_at, place_in}
use Rattle.bits.proofs.SaysLaws.{passed}
use Rattle.payload.specs.Payload.{full_box}
use Rattle.payload.proofs.full_box.full_box.Goals as goal

module _ (s : List ℕ) (p : ℕ) (z : p ≡ 0) where
  none : {k : ℕ} → declined k ≡ number_at 1 s p → declined k ≡ full_box s
  unfolding full_box
  none {k} e = let f : declined k ≡ number_at 1 s 0 = rw z at e in rw (← f)

  module _ (v q : ℕ) (e₁ : accepted (v, q) ≡ number_at 1 s p) where
    first : accepted (v, q) ≡ number_at 1 s 0
    first = rw z at e₁

    other : (v ≡ 0 → ⊥) → declined 4 ≡ full_box s
    unfolding full_box
    other n = rw (← first, ne_eqb v 0 n)

    next : v ≡ 0 → (o : Verdict ℕ) → o ≡ place_in s (q + 3) → o ≡ full_box s
    unfolding full_box
    next n o e = rw (← first, eq-eqb v 0 n) e

pub returns-in_err-version : goal.returns-in_err-version
returns-in_err-version c =
    passed _ _ _ c.from_residual.ensures.1 ∙ none c.args.s.now _ c.new.ensures c.in_err-version.ensures

pub returns-then-version-ne0 : goal.returns-then-version-ne0
returns-then-version-ne0 c =
    other c.args.s.now _ c.new.ensures _ _ c.in_ok-version.ensures c.if-version-ne0.true

pub returns : goal.returns
returns c =
    next c.args.s.now _ c.new.ensures _ _ c.in_ok-version.ensures c.if-version-ne0.false _ c.skip.ensures
