-- The theorems about shown submeshes, by name. The proofs are in proofs/ShownProofs.antt.
use Rattle.std.specs.Prelude.{ℕ, ◌+◌, ◌*◌, ◌/◌, ◌≤◌, ◌<◌, ◌≡◌, true, false, List, [], ◌∷◌, ◌++◌, ◌↔◌, length, get_or}
use Rattle.std.specs.Prelude.{drop}
use Rattle.bits.specs.Refusals.{among}
use Rattle.bits.specs.Verdict.{accepted, declined}
use Rattle.payload.specs.Firsts.{Distinct, Below}
use Rattle.payload.specs.Records.{records_in}
use Rattle.display.specs.ShownRules.{Request, showing, hiding, points_of, points_of_all, ruled}
use Rattle.display.specs.ShownRules.{plain_after, plain_said}
use Rattle.display.specs.ShownKept.{none_shown, shown_numbers, shown_usable, called, shown_after, kept_after, kept_said}
use Rattle.display.specs.declared.shown.Shown.{Shown}

-- ---- the comparison: after every list of shows and hides from the empty one, over one record buffer, refused ones
-- included

-- nothing is shown, whatever stands in the array
pub record Empty (s : Shown) : Type 0 where
  pub none : s.count ≡ 0
  pub zero : s.total ≡ 0

pub record SameAsPlain (words : List ℕ) (s : Shown) (requests : List Request) : Type 0 where
  -- order and count are those of the plain list
  pub order : shown_numbers (kept_after words s requests) ≡ plain_after words [] requests
  pub count : (kept_after words s requests).count ≡ length (plain_after words [] requests)
  -- the total is the sum worked out afresh from the records
  pub total : (kept_after words s requests).total ≡ points_of_all words (plain_after words [] requests)
  -- each call said what the plain list's rules say
  pub said : kept_said words s requests ≡ plain_said words [] requests

pub record Comparison : Type 0 where
  pub none_empty : Empty none_shown
  pub same : (words : List ℕ) (s : Shown) → Empty s → (requests : List Request) → SameAsPlain words s requests

-- ---- what may be handed in

pub record UsableShown (words : List ℕ) (s : Shown) : Type 0 where
  -- not longer than 64
  pub few : s.count ≤ 64
  -- no number repeated
  pub once : Distinct (shown_numbers s)
  -- none that is no record
  pub known : Below (length (records_in words)) (shown_numbers s)
  -- no other total
  pub total : s.total ≡ points_of_all words (shown_numbers s)

-- of a list that may be handed in: what a call hands back, the next one takes
pub record ShownStays : Type 0 where
  pub none : (words : List ℕ) → UsableShown words none_shown
  -- over the same records it may be handed in again, after a refusal too
  pub next : (words : List ℕ) (s : Shown) → UsableShown words s → (q : Request)
      → UsableShown words (shown_after words s q)
  -- so a list that may be handed in is never refused itself: the plain list's rules judge the number alone
  pub list_stands : (words : List ℕ) (s : Shown) → UsableShown words s → (q : Request)
      → called words s q ≡ ruled words (shown_numbers s) q

-- ---- what each call does, whatever is handed in

-- of a list that may be handed in, and a record's number
pub record EachNumber (words : List ℕ) (s : Shown) (n : ℕ) : Type 0 where
  -- shown already: 19
  pub again : among n (shown_numbers s) ≡ true → called words s (showing n) ≡ declined 19
  -- 64 are shown: 21
  pub full : among n (shown_numbers s) ≡ false → 64 ≤ length (shown_numbers s)
      → called words s (showing n) ≡ declined 21
  -- showing puts it at the end
  pub shown : among n (shown_numbers s) ≡ false → length (shown_numbers s) < 64
      → called words s (showing n) ≡ accepted (shown_numbers s ++ (n ∷ []))
  -- not shown: 20
  pub not_shown : among n (shown_numbers s) ≡ false → called words s (hiding n) ≡ declined 20
  -- hiding takes it out, the rest closing up
  pub hidden : (a b : List ℕ) → shown_numbers s ≡ a ++ (n ∷ b) → called words s (hiding n) ≡ accepted (a ++ b)

pub record ShownExactly : Type 0 where
  -- a record is five whole words, and words after the last five are none; its points are the last of its five
  pub records : (words : List ℕ) → length (records_in words) ≡ length words / 5
  pub points : (words : List ℕ) (n : ℕ) → n < length (records_in words) → points_of words n ≡ get_or words (5 * n + 4) 0
  pub usable : (words : List ℕ) (s : Shown) → (shown_usable words s ≡ true) ↔ UsableShown words s
  -- 19 for another list, whatever the number
  pub list : (words : List ℕ) (s : Shown) → (UsableShown words s → ⊥) → (q : Request) → called words s q ≡ declined 19
  -- 19 for a number that is no record
  pub show_no_record : (words : List ℕ) (s : Shown) (n : ℕ) → length (records_in words) ≤ n
      → called words s (showing n) ≡ declined 19
  pub hide_no_record : (words : List ℕ) (s : Shown) (n : ℕ) → length (records_in words) ≤ n
      → called words s (hiding n) ≡ declined 19
  pub number : (words : List ℕ) (s : Shown) → UsableShown words s → (n : ℕ) → n < length (records_in words)
      → EachNumber words s n
  -- a refused call changes nothing
  pub unchanged : (words : List ℕ) (s : Shown) (q : Request) (k : ℕ) → called words s q ≡ declined k
      → shown_after words s q ≡ s
  -- a call that is not refused hands back its list, of at most 64 numbers, with the sum worked out afresh from the
  -- records, and beyond it what stood there
  pub few : (words : List ℕ) (s : Shown) (q : Request) (l : List ℕ) → called words s q ≡ accepted l → length l ≤ 64
  pub order : (words : List ℕ) (s : Shown) (q : Request) (l : List ℕ) → called words s q ≡ accepted l
      → shown_numbers (shown_after words s q) ≡ l
  pub total : (words : List ℕ) (s : Shown) (q : Request) (l : List ℕ) → called words s q ≡ accepted l
      → (shown_after words s q).total ≡ points_of_all words l
  pub behind : (words : List ℕ) (s : Shown) (q : Request) (l : List ℕ) → called words s q ≡ accepted l
      → drop (length l) (shown_after words s q).entries ≡ drop (length l) s.entries
