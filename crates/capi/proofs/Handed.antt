-- What an exported function answers, from the reply that it hands out. Assumes nothing.
use Rattle.std.proofs.Common.{◌≡◌, ℕ, ◌^◌, ◌<◌, List, ℤ, ap, ◌∙◌, to_z-of_z, w64, to_z, of_z}
use lib.Signed.{mag}
use borrow.Author.Rules.{sfits_of}
use Rattle.bits.specs.Verdict.{Verdict, mapped}
use Rattle.capi.specs.Answer.{code_of, stored, words_after}
use Rattle.capi.specs.Reply.{Says, used_words}
use Rattle.capi.specs.declared.Reply.{Reply}

module _ {z : ℤ} {l : List ℕ} (d : List ℕ) {r : Reply} where
  -- `hand_out` answered z for a reply, and left l of the words d
  pub handed : {v u : Verdict (List ℕ)} → mag z < 2 ^ 63 → z ≡ r.code → l ≡ stored d (used_words r) → Says r v → v ≡ u
      → (to_z w64 (of_z w64 z) ≡ code_of u) × (l ≡ words_after d u)
  unfolding words_after
  handed small code words s e =
      rw (← e) (to_z-of_z {w = w64} (sfits_of small) ∙ code ∙ s.code, words ∙ ap (stored d) s.words)

  -- the reply was made of what a call with lent buffers answered; R is what that call left in them
  pub handed_with : {A R : Type 0} (f : A → List ℕ) {w u : Verdict A} → mag z < 2 ^ 63
      → (z ≡ r.code) × (l ≡ stored d (used_words r)) → Says r (mapped f w) → (w ≡ u) × R
      → (to_z w64 (of_z w64 z) ≡ code_of (mapped f u)) × ((l ≡ words_after d (mapped f u)) × R)
  handed_with f small e s w = let h = handed small e.0 e.1 s (ap (mapped f) w.0) in (h.0, (h.1, w.1))
