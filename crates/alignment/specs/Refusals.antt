-- Which refusals each call can give. The proofs are in proofs/RefusalProofs.antt.
use Rattle.std.specs.Prelude.{ℕ, List, [], ◌∷◌}
use Rattle.bits.specs.Refusals.{RefusesOr12, Claim, NeverDeclines}
use Rattle.payload.specs.Lent.{answer_for}
use Rattle.alignment.specs.LookUp.{looked_up}

-- of each call, what its contract says that it answers, whatever buffers are lent
pub record EachCall (Or12 : Claim) : Type 0 where
  pub look_up : (s : List ℕ) (j : ℕ) (asked : List ℕ) (buffers : List (List ℕ))
      → Or12 _ (2 ∷ 3 ∷ 6 ∷ 7 ∷ 8 ∷ 17 ∷ 18 ∷ 24 ∷ []) (answer_for (looked_up s j asked) buffers)

abbrev pub Refusals : Type 0
Refusals = EachCall (λ A ks v. RefusesOr12 ks v)

abbrev pub NeverSixteen : Type 0
NeverSixteen = EachCall (NeverDeclines 16)
