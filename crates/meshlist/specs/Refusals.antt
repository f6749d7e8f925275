-- Which refusals a listing can be: those of the records call, since its buffer is always long enough; so never 16. The
-- proofs are in proofs/RefusalProofs.antt.
use Rattle.std.specs.Prelude.{ℕ, ◌≡◌, List, [], ◌∷◌}
use Rattle.bits.specs.Verdict.{declined}
use Rattle.bits.specs.Refusals.{Refuses}
use Rattle.meshlist.specs.Listing.{listing}

abbrev pub ListingRefusals : Type 0
ListingRefusals = (s : List ℕ) → Refuses (2 ∷ 3 ∷ 6 ∷ 7 ∷ 8 ∷ 17 ∷ 18 ∷ []) (listing s)

abbrev pub NeverSixteen : Type 0
NeverSixteen = (s : List ℕ) → listing s ≡ declined 16 → ⊥
