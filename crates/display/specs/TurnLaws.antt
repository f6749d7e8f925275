-- The theorems about the turns, a field for each sentence, and which numbers are shared out. The proofs are in
-- proofs/TurnProofs.antt and proofs/SharingLaws.antt.
use Rattle.std.specs.Prelude.{ℕ, ◌+◌, ◌/◌, min, ◌≤◌, ◌<◌, ◌≡◌, List, length, get_or, replicate}
use Rattle.bits.specs.Verdict.{accepted, declined}
use Rattle.payload.specs.Firsts.{Below}
use Rattle.payload.specs.Lent.{in_items, answer_for}
use Rattle.payload.specs.MeshSpells.{sum}
use Rattle.display.specs.Turns.{turns, shared, sharing}

pub record TurnShares : Type 0 where
  -- a share for every window
  pub windows : (p : ℕ) (wishes : List ℕ) → length (shared p wishes) ≡ length wishes
  -- every window gets at least the smaller of its wish and p divided by the number of windows, whatever the others wish
  pub at_least : (p : ℕ) (wishes : List ℕ) (i : ℕ) → i < length wishes
      → min (get_or wishes i 0) (p / length wishes) ≤ get_or (shared p wishes) i 0
  -- and never more than its wish
  pub at_most : (p : ℕ) (wishes : List ℕ) (i : ℕ) → get_or (shared p wishes) i 0 ≤ get_or wishes i 0
  -- all shares add up to the smaller of p and the wishes' sum
  pub add_up : (p : ℕ) (wishes : List ℕ) → sum (shared p wishes) ≡ min p (sum wishes)
  -- more turns change nothing; by the sum, points or wishes have ended
  pub ended : (p : ℕ) (wishes : List ℕ) (more : ℕ)
      → turns (p + more) p wishes (replicate (length wishes) 0) ≡ shared p wishes

-- ---- what is shared out

-- one to eight windows, and every number below 1,000,000
pub record Shareable (p : ℕ) (wishes : List ℕ) : Type 0 where
  pub some : 1 ≤ length wishes
  pub few : length wishes ≤ 8
  pub points : p < 1000000
  pub each_wish : Below 1000000 wishes

pub record SharingExactly : Type 0 where
  pub made : (p : ℕ) (wishes : List ℕ) → Shareable p wishes → sharing p wishes ≡ accepted (shared p wishes)
  -- 26 for all others
  pub twenty_six : (p : ℕ) (wishes : List ℕ) → (Shareable p wishes → ⊥) → sharing p wishes ≡ declined 26
  -- whatever buffer is lent: before 12
  pub first : (p : ℕ) (wishes : List ℕ) (buffers : List (List ℕ)) → (Shareable p wishes → ⊥)
      → answer_for (in_items 1 (sharing p wishes)) buffers ≡ declined 26
