-- Which refusals each call can give. The proofs are in proofs/RefusalProofs.antt.
use Rattle.std.specs.Prelude.{ℕ, List, [], ◌∷◌}
use Rattle.bits.specs.Refusals.{Refuses, RefusesOr12, Claim, NeverDeclines}
use Rattle.payload.specs.Lent.{in_items, answer_for}
use Rattle.display.specs.Triangles.{triangles_made}
use Rattle.display.specs.ShownRules.{showing, hiding, changed}
use Rattle.display.specs.ShownKept.{called}
use Rattle.display.specs.Turns.{sharing}
use Rattle.display.specs.declared.shown.Shown.{Shown}

-- of each call, what its contract says that it answers, whatever buffers are lent: `Or12` where 12 is one of its
-- numbers too
pub record EachCall (Plain Or12 : Claim) : Type 0 where
  pub triangles : (words : List ℕ) (buffers : List (List ℕ))
      → Or12 _ (15 ∷ []) (answer_for (in_items 1 (triangles_made words)) buffers)
  pub show : (words : List ℕ) (s : Shown) (n : ℕ) → Plain _ (19 ∷ 21 ∷ []) (changed (called words s (showing n)))
  pub hide : (words : List ℕ) (s : Shown) (n : ℕ) → Plain _ (19 ∷ 20 ∷ []) (changed (called words s (hiding n)))
  pub share_points : (points : ℕ) (wishes : List ℕ) (buffers : List (List ℕ))
      → Or12 _ (26 ∷ []) (answer_for (in_items 1 (sharing points wishes)) buffers)

abbrev pub Refusals : Type 0
Refusals = EachCall (λ A ks v. Refuses ks v) (λ A ks v. RefusesOr12 ks v)

abbrev pub NeverSixteen : Type 0
NeverSixteen = EachCall (NeverDeclines 16) (NeverDeclines 16)
