-- The comparison for `show` and `hide`: a plain list of record numbers, the two rules and their refusals. It reads the
-- requests and the record buffer alone, and keeps no total.
use Rattle.std.specs.Prelude.{ℕ, List, [], ◌∷◌, ◌++◌, map, Bool, cond, ltb, eqb, length, get_or}
use Rattle.bits.specs.Refusals.{among}
use Rattle.bits.specs.Verdict.{Verdict, accepted, needs, declined, mapped}
use Rattle.payload.specs.MeshSpells.{sizes}
use Rattle.payload.specs.Records.{records_in}
use Rattle.payload.specs.declared.mesh.records.Record.{Record}

-- ---- the records of a buffer, by number: the first is 0

abbrev pub is_record : List ℕ → ℕ → Bool
is_record words n = ltb n (length (records_in words))

-- the point count of a record
unfoldable pub points_of : List ℕ → ℕ → ℕ
points_of words n = get_or (map (λ (r : Record). r.points) (records_in words)) n 0

-- the points of records together, worked out afresh
abbrev pub points_of_all : List ℕ → List ℕ → ℕ
points_of_all words l = sizes (points_of words) l

-- ---- the plain list

pub data Request : Type 0 where
  showing : ℕ → Request
  hiding : ℕ → Request

-- a number taken out, the rest closing up
unfoldable pub without : ℕ → List ℕ → List ℕ
without n [] = []
without n (m ∷ l) = cond (eqb n m) l (m ∷ without n l)

-- showing: 19 where it is shown already, then 21 where 64 are shown, and else the number at the end
abbrev pub shown_last : List ℕ → ℕ → Verdict (List ℕ)
shown_last l n = cond (among n l) (declined 19) (cond (ltb (length l) 64) (accepted (l ++ (n ∷ []))) (declined 21))

-- hiding: 20 where it is not shown, and else the list without it
abbrev pub taken_out_of : List ℕ → ℕ → Verdict (List ℕ)
taken_out_of l n = cond (among n l) (accepted (without n l)) (declined 20)

-- the list after a request, or its refusal: first of all 19 for a number that is no record
unfoldable pub ruled : List ℕ → List ℕ → Request → Verdict (List ℕ)
ruled words l (showing n) = cond (is_record words n) (shown_last l n) (declined 19)
ruled words l (hiding n) = cond (is_record words n) (taken_out_of l n) (declined 19)

-- what is said of it: that the list was changed, or the refusal
abbrev pub changed : Verdict (List ℕ) → Verdict (Unit {0})
changed v = mapped (λ l. tt) v

-- a refused request changes nothing
abbrev pub thereafter : List ℕ → Verdict (List ℕ) → List ℕ
thereafter l (accepted m) = m
thereafter l (needs k) = l
thereafter l (declined k) = l

-- the list after requests in a row, and what was said of each
unfoldable pub plain_after : List ℕ → List ℕ → List Request → List ℕ
plain_after words l [] = l
plain_after words l (q ∷ requests) = plain_after words (thereafter l (ruled words l q)) requests

unfoldable pub plain_said : List ℕ → List ℕ → List Request → List (Verdict (Unit {0}))
plain_said words l [] = []
plain_said words l (q ∷ requests) =
    changed (ruled words l q) ∷ plain_said words (thereafter l (ruled words l q)) requests
