-- `four_words` meets its contract. Assumes nothing.
use Rattle.std.proofs.Common.{◌≡◌, ℕ, List, ◌∙◌}
use Rattle.bits.specs.Verdict.{accepted, declined}
use Rattle.bits.specs.Read.{number_at}
use Rattle.bits.proofs.SaysLaws.{passed}
use Rattle.payload.specs.Equi.{four_words}
use Rattle.payload.proofs.equi.four_words.Goals as goal

-- cut short at the first, second, third or fourth word, or all four
module _ (s : List ℕ) (p : ℕ) where
  none : {k : ℕ} → declined k ≡ number_at 4 s p → declined k ≡ four_words s p
  unfolding four_words
  none e = rw (← e)

  module _ (t p₁ : ℕ) (e₁ : accepted (t, p₁) ≡ number_at 4 s p) where
    one : {k : ℕ} → declined k ≡ number_at 4 s p₁ → declined k ≡ four_words s p
    unfolding four_words
    one e = rw (← e₁, ← e)

    module _ (b p₂ : ℕ) (e₂ : accepted (b, p₂) ≡ number_at 4 s p₁) where
      two : {k : ℕ} → declined k ≡ number_at 4 s p₂ → declined k ≡ four_words s p
      unfolding four_words
      two e = rw (← e₁, ← e₂, ← e)

      module _ (l p₃ : ℕ) (e₃ : accepted (l, p₃) ≡ number_at 4 s p₂) where
        three : {k : ℕ} → declined k ≡ number_at 4 s p₃ → declined k ≡ four_words s p
        unfolding four_words
        three e = rw (← e₁, ← e₂, ← e₃, ← e)

        four : (r p₄ : ℕ) → accepted (r, p₄) ≡ number_at 4 s p₃ → accepted (record { t = t; b = b; l = l; r = r }) ≡ four_words s p
        unfolding four_words
        four r p₄ e = rw (← e₁, ← e₂, ← e₃, ← e)

pub returns-in_err-t : goal.returns-in_err-t
returns-in_err-t c = passed _ _ _ c.from_residual.ensures.1 ∙ none c.args.s.now c.args.start.at c.in_err-t.ensures

pub returns-in_err-b : goal.returns-in_err-b
returns-in_err-b c =
    passed _ _ _ c.from_residual-in_err-b.ensures.1
    ∙ one c.args.s.now c.args.start.at _ _ c.in_ok-t.ensures c.in_err-b.ensures

pub returns-in_err-l : goal.returns-in_err-l
returns-in_err-l c =
    passed _ _ _ c.from_residual-in_err-l.ensures.1
    ∙ two c.args.s.now c.args.start.at _ _ c.in_ok-t.ensures _ _ c.in_ok-b.ensures c.in_err-l.ensures

pub returns-in_err-r : goal.returns-in_err-r
returns-in_err-r c =
    passed _ _ _ c.from_residual-in_err-r.ensures.1
    ∙ three c.args.s.now c.args.start.at _ _ c.in_ok-t.ensures _ _ c.in_ok-b.ensures _ _ c.in_ok-l.ensures
    c.in_err-r.ensures

pub returns : goal.returns
returns c =
    four c.args.s.now c.args.start.at _ _ c.in_ok-t.ensures _ _ c.in_ok-b.ensures _ _ c.in_ok-l.ensures _ _
    c.in_ok-r.ensures
