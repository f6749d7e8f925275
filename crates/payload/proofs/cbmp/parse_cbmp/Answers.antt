-- `parse_cbmp` meets its contract. Assumes nothing.
use Rattle.std.proofs.Common.{◌≡◌, ℕ, List, sym, ◌∙◌}
use Rattle.bits.specs.Verdict.{Verdict, accepted, declined}
use Rattle.payload.specs.Payload.{full_box}
use Rattle.payload.specs.Cbmp.{layout_then_padding, cbmp_read}
use Rattle.bits.proofs.SaysLaws.{passed}
use Rattle.bits.proofs.VerdictLaws.{limited_yes, limited_no}
use Rattle.payload.proofs.cbmp.parse_cbmp.Goals as goal

module _ (s : List ℕ) where
  head : (k : ℕ) → declined k ≡ full_box s → declined k ≡ cbmp_read s
  unfolding cbmp_read
  head k e = rw (← e)

  rest : (p : ℕ) → accepted p ≡ full_box s → (o : Verdict ℕ) → o ≡ layout_then_padding s p → o ≡ cbmp_read s
  unfolding cbmp_read
  rest p e o f = rw (← e) f

pub returns-then-payload-gt67108864 : goal.returns-then-payload-gt67108864
returns-then-payload-gt67108864 c =
    let a = c.args in
    sym (limited_no a.payload.now _ c.if-payload-gt67108864.true)

pub returns-in_err-full_box : goal.returns-in_err-full_box
returns-in_err-full_box c =
    let a = c.args in
    passed _ _ _ c.from_residual.ensures.1 ∙ head a.payload.now _ c.in_err-full_box.ensures
    ∙ sym (limited_yes a.payload.now _ c.if-payload-gt67108864.false)

pub returns : goal.returns
returns c =
    let a = c.args in
    rest a.payload.now _ c.in_ok-full_box.ensures _ c.layout_then_padding.ensures
    ∙ sym (limited_yes a.payload.now _ c.if-payload-gt67108864.false)
