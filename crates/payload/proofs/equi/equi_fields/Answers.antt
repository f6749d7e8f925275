-- `equi_fields` meets its contract. Assumes nothing.
use Rattle.std.proofs.Common.{◌≡◌, ℕ, List, ◌∙◌}
use Rattle.bits.specs.Verdict.{Verdict, accepted, declined}
use Rattle.bits.proofs.SaysLaws.{passed}
use Rattle.payload.specs.Payload.{full_box}
use Rattle.payload.specs.Equi.{four_words, equi_fields}
use Rattle.payload.specs.declared.equi.EquiFields.{EquiFields}
use Rattle.payload.proofs.equi.equi_fields.Goals as goal

module _ (s : List ℕ) where
  head : (k : ℕ) → declined k ≡ full_box s → declined k ≡ equi_fields s
  unfolding equi_fields
  head k e = rw (← e)

  rest : (p : ℕ) → accepted p ≡ full_box s → (o : Verdict EquiFields) → o ≡ four_words s p → o ≡ equi_fields s
  unfolding equi_fields
  rest p e o f = rw (← e) f

pub returns-in_err-full_box : goal.returns-in_err-full_box
returns-in_err-full_box c =
    passed _ _ _ c.from_residual.ensures.1 ∙ head c.args.s.now _ c.in_err-full_box.ensures

pub returns : goal.returns
returns c = rest c.args.s.now _ c.in_ok-full_box.ensures _ c.four_words.ensures
