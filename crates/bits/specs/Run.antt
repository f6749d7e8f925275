-- A run of delta fields, each added to a running number: how it is laid out, how it is read, and the numbers that it
-- hands out.
use Rattle.std.specs.Prelude.{ℕ, zero, suc, ◌+◌, ◌*◌, ◌%◌, ◌<◌, ◌≤◌, Bool, cond, ◌&&◌, List, [], ◌∷◌, ◌++◌, length}
use Rattle.std.specs.Prelude.{drop, ◌==◌, nat_le, slice_index, Result}
use Rattle.bits.specs.Verdict.{Verdict, accepted, declined, and_then, mapped}
use Rattle.bits.specs.Field.{field}
use Rattle.bits.specs.Number.{Moves, ran_on, stepped_to}
use Rattle.bits.specs.Says.{says}
use Rattle.bits.specs.declared.refusals.Refusal.{Refusal}

-- so many running numbers at their start
abbrev pub zeros : ℕ → List ℕ
zeros zero = []
zeros (suc n) = 0 ∷ zeros n

-- ---- the layout

-- The numbers `ns` are spelled by the fields of width w from bit p on: each field is complete, each number is below the
-- limit, and each field takes a running number to it. That running number is the number as many places before as there
-- are running numbers, which take turns; `prior` are the numbers that they start with.
pub record RunSpells (s : List ℕ) (w limit p : ℕ) (prior ns : List ℕ) : Type 0 where
  pub whole : (i : ℕ) → i < length ns → p + (i + 1) * w ≤ 8 * length s
  pub below : (i : ℕ) → i < length ns → slice_index ns i < limit
  pub moves : (i : ℕ) → i < length ns → Moves (field s (p + i * w) w) (slice_index (prior ++ ns) i) (slice_index ns i)

-- ---- reading

-- a value and the bit place after it, or the number of the first refusal
abbrev pub Found : Type 0 → Type 0
Found A = Verdict (A × ℕ)

-- the fields up to bit e are complete: 3 where they are not
unfoldable pub complete : {A : Type 0} → List ℕ → ℕ → Verdict A → Verdict A
complete s e v = cond (nat_le e (8 * length s)) v (declined 3)

-- the running numbers, in the order in which their fields come: the one at the front has moved, and waits at the back
abbrev pub shift : List ℕ → ℕ → List ℕ
shift prior next = drop 1 prior ++ (next ∷ [])

-- where the field at bit p takes the running number at the front: 8 where it leaves the limit
abbrev pub next_of : List ℕ → ℕ → ℕ → ℕ → List ℕ → Verdict ℕ
next_of s w limit p prior = ran_on limit (slice_index prior 0) (field s p w)

-- one more number in front of those that were found
abbrev pub in_front : ℕ → Found (List ℕ) → Found (List ℕ)
in_front n v = mapped (λ x. (n ∷ x.0, x.1)) v

-- n fields of width w from bit p on: 3 where one is not complete, 8 where a running number leaves the limit
unfoldable pub read_run : List ℕ → ℕ → ℕ → ℕ → ℕ → List ℕ → Found (List ℕ)
read_run s w limit zero p prior = accepted ([], p)
read_run s w limit (suc n) p prior =
    complete s (p + w)
    (and_then (next_of s w limit p prior) (λ next. in_front next (read_run s w limit n (p + w) (shift prior next))))

-- ---- judging: nothing is handed out but the verdict

abbrev pub judged : {A : Type 0} → Verdict A → Verdict (Unit {0})
judged v = mapped (λ _. tt) v

abbrev pub check_says : Result (Unit {0}) Refusal → Verdict (Unit {0})
check_says r = says (λ u. u) r

-- ---- handing out the numbers of a run that was judged before

-- a number in 16 bits
abbrev pub low16 : ℕ → ℕ
low16 n = n % 65536

-- the running numbers after n fields of width w from bit p on, each modulo 2^16: where all stay in their limit, those
-- of the run
unfoldable pub summed : List ℕ → ℕ → ℕ → ℕ → List ℕ → List ℕ
summed s w zero p prior = []
summed s w (suc n) p prior =
    low16 (stepped_to (slice_index prior 0) (field s p w))
    ∷ summed s w n (p + w) (shift prior (low16 (stepped_to (slice_index prior 0) (field s p w))))

-- the last of some numbers, and x where there are none
abbrev pub last_of : ℕ → List ℕ → ℕ
last_of x [] = x
last_of x (y ∷ l) = last_of y l

-- n fields of a width from 1 to 16 from bit p on lie inside a body of at most 67,108,864 bytes, and 33 bits or more
-- stand before them, so that five bytes end with each
unfoldable pub run_there : List ℕ → ℕ → ℕ → ℕ → Bool
run_there s p w n =
    ((nat_le (length s) 67108864 && nat_le 1 w) && (nat_le w 16 && nat_le 33 p)) && nat_le (p + n * w) (8 * length s)

-- a buffer of numbers afterwards: as many of the run as it has places, or as it was where the run is not there
unfoldable pub run_filled : List ℕ → ℕ → ℕ → List ℕ → List ℕ → List ℕ
run_filled s p w prior out = cond (run_there s p w (length out)) (summed s w (length out) p prior) out

-- the same for five running numbers, where the buffer has whole fives
unfoldable pub fives_there : List ℕ → ℕ → ℕ → List ℕ → Bool
fives_there s p w out = length out % 5 == 0 && run_there s p w (length out)

unfoldable pub fives_filled : List ℕ → ℕ → ℕ → List ℕ → List ℕ
fives_filled s p w out = cond (fives_there s p w out) (summed s w (length out) p (zeros 5)) out
