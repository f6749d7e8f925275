-- The calls on lists of shown submeshes, as a C caller sees them: what stands in the buffer after a call that is not
-- refused, and the words of its answer, are the list that the call of `display` hands back; a refused call leaves the
-- buffer. So what the comparison with the plain list says of those lists is, call by call, said of a C caller's. (No
-- theorem is over rows of C calls.) The proofs are in proofs/ListProofs.antt.
use Rattle.std.specs.Prelude.{◌≡◌, ℕ, ◌<◌, ◌≤◌, List, [], ◌∷◌, length, ◌≢◌}
use Rattle.bits.specs.Verdict.{Verdict, accepted, needs, mapped}
use Rattle.payload.specs.Lent.{Plan, answer_for, buffers_after}
use Rattle.display.specs.ShownRules.{Request, changed}
use Rattle.display.specs.ShownKept.{none_shown, called, shown_after}
use Rattle.display.specs.declared.shown.Shown.{Shown}
use Rattle.capi.specs.ShownLists.{list_of, none_plan, list_called}

-- a call by plan p that is lent `entries`, where it is not refused, leaves the list s
abbrev pub Leaves : Verdict (Plan (ℕ × ℕ)) → List ℕ → Shown → Type 0
Leaves p entries s =
    (left : List ℕ) (count total : ℕ) → answer_for p (entries ∷ []) ≡ accepted (count, total)
    → left ∷ [] ≡ buffers_after p (entries ∷ []) → list_of left count total ≡ s

pub record ListLaws : Type 0 where
  -- the empty list
  pub none_shown_law : (entries : List ℕ) → Leaves (accepted none_plan) entries none_shown
  pub none_said : (entries : List ℕ) → 64 ≤ length entries
      → answer_for (accepted none_plan) (entries ∷ []) ≡ accepted (0, 0)
  pub none_few : (entries : List ℕ) → length entries < 64
      → answer_for (accepted none_plan) (entries ∷ []) ≡ needs (64 ∷ [])
  -- showing and hiding: the list that is handed back, and what is said of it
  pub kept : (words entries : List ℕ) (count total : ℕ) (q : Request)
      → Leaves (list_called words entries count total q) entries (shown_after words (list_of entries count total) q)
  pub said : (words entries : List ℕ) (count total : ℕ) (q : Request) → 64 ≤ length entries
      → mapped (λ u. tt) (answer_for (list_called words entries count total q) (entries ∷ []))
      ≡ changed (called words (list_of entries count total) q)
  -- fewer than 64 entries are 12, before anything is judged
  pub few : (words entries : List ℕ) (count total : ℕ) (q : Request) → length entries < 64
      → answer_for (list_called words entries count total q) (entries ∷ []) ≡ needs (64 ∷ [])
  -- a refused call leaves the buffer as it was
  pub unchanged : (words entries : List ℕ) (count total : ℕ) (q : Request)
      → ((a : ℕ × ℕ) → answer_for (list_called words entries count total q) (entries ∷ []) ≢ accepted a)
      → buffers_after (list_called words entries count total q) (entries ∷ []) ≡ entries ∷ []
