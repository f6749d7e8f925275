-- Words stored one after the other from place 0 on. Assumes nothing.
use Rattle.std.proofs.Common.{◌≡◌, ℕ, ◌<◌, ◌≤◌, List, ◌++◌, length, take, drop, sym, refl, ap, ◌∙◌}
use Rattle.std.proofs.Common.{zero-add, arith, take_at, le-leb}
use lib.Seq.{sets, sets-eq, length-sets}
use borrow.Author.Tests.{lt-leb}
use Rattle.capi.specs.Answer.{stored}

module _ (d ws : List ℕ) where
  pub stored_not : length d < length ws → d ≡ stored d ws
  unfolding stored
  stored_not h = sym (simp (lt-leb (length ws) (length d) h))

  -- they were copied to the front
  pub stored_front : (front : List ℕ) → length ws ≤ length d → front ≡ ws → front ++ drop (length ws) d ≡ stored d ws
  unfolding stored
  stored_front front h e =
      let s : stored d ws ≡ sets d 0 ws = simp (le-leb (length ws) (length d) h) in
      ap (λ (x : List ℕ). x ++ drop (length ws) d) e
      ∙ sym (s ∙ sets-eq ws d 0 (omega arith) ∙ ap (λ (k : ℕ). ws ++ drop k d) (zero-add (length ws)))

  -- where they fit, they are the first of what is there then
  pub stored_held : (l : List ℕ) → length ws ≤ length d → l ≡ stored d ws
      → (take (length ws) l ≡ ws) × (length ws ≤ length l)
  unfolding stored
  stored_held l h e =
      let s : l ≡ sets d 0 ws = e ∙ simp (le-leb (length ws) (length d) h) in
      let f = s ∙ sets-eq ws d 0 (omega arith) in
      (ap (take (length ws)) f ∙ take_at ws _ (length ws) refl, omega (arith, ap length s, length-sets d 0 ws))
