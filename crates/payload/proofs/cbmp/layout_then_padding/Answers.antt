-- `layout_then_padding` meets its contract. Assumes nothing.
use Rattle.std.proofs.Common.{◌≡◌, ℕ, ◌<◌, ◌≤◌, List, sym, ◌∙◌, eq-eqb, ne_eqb}
use Rattle.bits.specs.Verdict.{Verdict, accepted, declined}
use Rattle.bits.specs.Read.{number_at}
use Rattle.bits.proofs.SaysLaws.{passed}
use Rattle.bits.proofs.VerdictLaws.{within_yes, within_no}
use Rattle.payload.specs.Cbmp.{layout_then_padding, padding_usable}
use Rattle.payload.proofs.cbmp.layout_then_padding.Goals as goal

module _ (s : List ℕ) (p : ℕ) where
  none : {k : ℕ} → declined k ≡ number_at 4 s p → declined k ≡ layout_then_padding s p
  unfolding layout_then_padding
  none e = rw (← e)

  module _ (layout q : ℕ) (e₁ : accepted (layout, q) ≡ number_at 4 s p) where
    other : (layout ≡ 0 → ⊥) → declined 5 ≡ layout_then_padding s p
    unfolding layout_then_padding
    other n = rw (← e₁, ne_eqb layout 0 n)

    module _ (z : layout ≡ 0) where
      one : {k : ℕ} → declined k ≡ number_at 4 s q → declined k ≡ layout_then_padding s p
      unfolding layout_then_padding
      one e = rw (← e₁, eq-eqb layout 0 z, ← e)

      two : (padding r : ℕ) → accepted (padding, r) ≡ number_at 4 s q → (o : Verdict ℕ) → o ≡ padding_usable padding → o ≡ layout_then_padding s p
      unfolding layout_then_padding
      two padding r e o f = rw (← e₁, eq-eqb layout 0 z, ← e) f

large : (p : ℕ) → 4096 < p → declined 5 ≡ padding_usable p
large p h = sym (within_no p 4096 p (declined 5) h)

small : (p : ℕ) → p ≤ 4096 → accepted p ≡ padding_usable p
small p h = sym (within_yes p 4096 p (declined 5) h)

pub returns-in_err-layout : goal.returns-in_err-layout
returns-in_err-layout c =
    let a = c.args in
    passed _ _ _ c.from_residual.ensures.1 ∙ none a.s.now a.start.at c.in_err-layout.ensures

pub returns-then-layout-ne0 : goal.returns-then-layout-ne0
returns-then-layout-ne0 c =
    let a = c.args in
    other a.s.now a.start.at _ _ c.in_ok-layout.ensures c.if-layout-ne0.true

pub returns-in_err-padding : goal.returns-in_err-padding
returns-in_err-padding c =
    let a = c.args in
    passed _ _ _ c.from_residual-in_err-padding.ensures.1
    ∙ one a.s.now a.start.at _ _ c.in_ok-layout.ensures c.if-layout-ne0.false c.in_err-padding.ensures

pub returns-then-padding-gt4096 : goal.returns-then-padding-gt4096
returns-then-padding-gt4096 c =
    let a = c.args in
    two a.s.now a.start.at _ _ c.in_ok-layout.ensures c.if-layout-ne0.false _ _ c.in_ok-padding.ensures _
    (large _ c.if-padding-gt4096.true)

pub returns : goal.returns
returns c =
    let a = c.args in
    two a.s.now a.start.at _ _ c.in_ok-layout.ensures c.if-layout-ne0.false _ _ c.in_ok-padding.ensures _
    (small _ c.if-padding-gt4096.false)
