-- What a `?` hands on says, and what a verdict tells of the answer behind it. Assumes nothing.
use Rattle.std.proofs.Common.{◌≡◌, ℕ, List, Result, Ok, Err, IsErrAnd, ap}
use Rattle.bits.specs.Verdict.{declined}
use Rattle.bits.specs.Says.{number_of, says, fill_says}
use Rattle.bits.specs.declared.refusals.Refusal.{Refusal}
use Rattle.bits.specs.declared.refusals.FillError.{FillError}
use Rattle.bits.specs.declared.refusals.FillError.TheVariants as F

module _ {A B : Type 0} (f : A → B) where
  -- a refusal that `?` hands on, to the same type of error and to that of a call that fills
  pub passed : (r : Result A Refusal) (e : Refusal) → IsErrAnd r (λ x. x ≡ e) → says f r ≡ declined (number_of e)
  passed (Ok x) e p = absurd p
  passed (Err x) e p = ap (λ (y : Refusal). declined (number_of y)) p

  pub passed_on : {L : Type 0} (l : L → List ℕ) (r : Result A (FillError L)) (e : Refusal)
      → IsErrAnd r (λ x. x ≡ F.Refused e) → fill_says f l r ≡ declined (number_of e)
  passed_on l (Ok x) e p = absurd p
  passed_on {L = L} l (Err x) e p = ap (λ (y : FillError L). fill_says f l (Err y)) p
