-- Which refusals a listing can be, from those of the measuring call; never 12. Assumes nothing.
use Prim.Native.Nat.{ℕ, ◌≤◌, ◌<◌}
use mathlib.Core.Path.{◌≡◌, refl, sym, ap, ◌∙◌}
use mathlib.Core.Logic.{◌⊎◌, inl, inr}
use mathlib.Core.List.{List, [], ◌∷◌}
use Rattle.std.proofs.Common.{Err}
use native.Mathlib.Omega.{arith}
use lib.ListN.{length}
use Rattle.bits.specs.Verdict.{Verdict, needs, mapped}
use Rattle.bits.specs.Refusals.{Refuses, gives, refuses}
use Rattle.bits.specs.declared.refusals.FillError.{FillError}
use Rattle.bits.specs.declared.refusals.FillError.TheVariants as F
use Rattle.bits.proofs.VerdictLaws.{le-or-lt, limited_yes, clash}
use Rattle.bits.proofs.RefusalLaws.{remade, unlisted}
use Rattle.payload.specs.MeshRead.{read_meshes}
use Rattle.payload.specs.Meshes.{list_size}
use Rattle.payload.proofs.Theorems.{refusals}
use Rattle.meshlist.specs.Listing.{line_counts, listing, listing_says}
use Rattle.meshlist.specs.Refusals.{ListingRefusals, NeverSixteen}
use Rattle.meshlist.proofs.ListingLaws.{too_long, listed_is}

pub listing_refusals : ListingRefusals
listing_refusals s = go (le-or-lt (length s) 16384)
  where
    go : (length s ≤ 16384) ⊎ (16384 < length s) → Refuses (2 ∷ 3 ∷ 6 ∷ 7 ∷ 8 ∷ 17 ∷ 18 ∷ []) (listing s)
    go (inl h) =
        rw (sym (sym (limited_yes s (read_meshes s) (omega arith)) ∙ listed_is s h))
        (remade list_size line_counts (read_meshes s)
        (rw (limited_yes s (mapped list_size (read_meshes s)) (omega arith)) at (refusals.measure_meshes s)))
    go (inr h) = rw (too_long s h) (refuses 2 refl)

pub never_sixteen : NeverSixteen
never_sixteen s = unlisted 16 refl (listing_refusals s)

asks_nothing : {A : Type 0} {ks : List ℕ} {v : Verdict A} → Refuses ks v → (l : List ℕ) → needs l ≡ v → ⊥
asks_nothing (gives a) l e = clash (cc)
asks_nothing (refuses k i) l e = clash (cc)

-- it asks for no longer buffer
pub never_short : (s : List ℕ) (e : FillError ℕ) (n : ℕ) → e ≡ F.Needs n → listing_says (Err e) ≡ listing s → ⊥
never_short s e n i said =
    asks_nothing (listing_refusals s) (n ∷ []) (sym (ap (λ (x : FillError ℕ). listing_says (Err x)) i) ∙ said)
