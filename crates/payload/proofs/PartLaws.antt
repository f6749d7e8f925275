-- A part of a buffer that was filled with the numbers of a run: what the buffer then holds. Assumes nothing.
use Rattle.std.proofs.Common.{◌≡◌, ℕ, ◌+◌, ◌*◌, ◌%◌, ◌<◌, ◌≤◌, true, List, [], ◌∷◌, ◌++◌, length, take, drop, sym, ap, ◌∙◌, append_assoc, arith, length-drop, length-take-le, drop-drop}
use lib.Seq.{sets, sets-eq}
use borrow.Rule.Slice.PartMut.{put_mid}
use Rattle.bits.specs.Number.{width_of}
use Rattle.bits.specs.Run.{zeros, read_run, summed, run_there, run_filled, fives_filled}
use Rattle.bits.specs.declared.fields.runs.Run.{Run}
use Rattle.bits.proofs.RunLaws.{run_spells}
use Rattle.bits.proofs.SummedLaws.{length_summed, read_summed}
use Rattle.bits.proofs.ThereLaws.{there_yes, filled_yes, fives_yes}
use Rattle.payload.specs.Internal.{WasRead, run_numbers, VerticesThere, numbers_of, PointsThere, points_of, SomeRun, some_numbers}
use Rattle.payload.proofs.RangeLaws.{width_small, width_some}
use Rattle.payload.proofs.CheckLaws.{run_fits}
use Rattle.payload.proofs.StepLaws.{read_value}

-- the k elements from place a on are those of l
pub part-put : (a k : ℕ) (d l : List ℕ) → length l ≡ k → a + k ≤ length d → put_mid a k d l ≡ sets d a l
part-put a k d l e h =
    sym
    (sets-eq l d a (omega arith)
    ∙ append_assoc (take a d) l (drop (a + length l) d)
    ∙ ap (λ (t : List ℕ). take a d ++ (l ++ t)) (ap (λ (i : ℕ). drop (a + i) d) e ∙ sym (drop-drop k a d)))

-- the part that is lent has k elements
pub part_long : (a k : ℕ) (d : List ℕ) → a + k ≤ length d → length (take k (drop a d)) ≡ k
part_long a k d h = length-take-le k (drop a d) (omega (arith, length-drop a d))

-- a run that was read lies inside
pub read_there : (s : List ℕ) (w limit n p : ℕ) (prior : List ℕ) → length s ≤ 67108864 → 64 ≤ p → 1 ≤ w → w ≤ 16 → 0 < length prior → 1 ≤ n
    → WasRead (read_run s w limit n p prior) → run_there s p w n ≡ true
read_there s w limit n p prior h l a b o k r =
    let v = read_value (read_run s w limit n p prior) r in
    let f = run_spells s w limit n p prior v.0.0 v.0.1 o v.1 in
    there_yes s p w n h a b (omega arith) (run_fits n f.0 f.1 k)

-- its numbers are those that were summed up
pub read_numbers : (s : List ℕ) (w limit n p : ℕ) (prior : List ℕ) → limit ≤ 65536 → WasRead (read_run s w limit n p prior)
    → summed s w n p prior ≡ run_numbers (read_run s w limit n p prior)
read_numbers s w limit n p prior h r =
    let v = read_value (read_run s w limit n p prior) r in
    read_summed s w limit n p prior v.0.0 v.0.1 h v.1 ∙ sym (ap run_numbers v.1)

-- the vertices' numbers into the part of a buffer from place a on
pub fives_stored : (s : List ℕ) (run : Run) (w a : ℕ) (d l : List ℕ) → VerticesThere s run → w ≡ width_of run.limit → a + 5 * run.count ≤ length d
    → (k : ℕ) → k ≡ 5 * run.count → l ≡ fives_filled s run.bit w (take k (drop a d)) → put_mid a k d l ≡ sets d a (numbers_of s run)
fives_stored s run w a d l R ew r k ek e =
    let n = 5 * run.count in
    let v = width_of run.limit in
    let t = take k (drop a d) in
    let long : length t ≡ n = part_long a k d (omega arith) ∙ ek in
    let u = read_there s v run.limit n run.bit (zeros 5) R.short R.low (width_some run.limit R.some) (width_small run.limit (omega (arith, R.most))) (omega arith) (omega (arith, R.vertices)) R.read in
    let m : length t % 5 ≡ 0 = omega (arith, long) in
    let f = fives_yes s run.bit v t m (rw long u) in
    let i : l ≡ summed s v n run.bit (zeros 5) = e ∙ ap (λ (x : ℕ). fives_filled s run.bit x t) ew ∙ sym f.1 ∙ ap (λ (x : ℕ). summed s v x run.bit (zeros 5)) long in
    part-put a k d l (ap length i ∙ length_summed s v n run.bit (zeros 5) ∙ sym ek) (omega arith) ∙ ap (sets d a) (i ∙ read_numbers s v run.limit n run.bit (zeros 5) (omega (arith, R.most)) R.read)

-- a run of points into the part of a buffer from place a on
pub run_stored : (s : List ℕ) (run : Run) (w a : ℕ) (d l : List ℕ) → PointsThere s run → w ≡ width_of run.limit → a + run.count ≤ length d
    → (k : ℕ) → k ≡ run.count → l ≡ run_filled s run.bit w (zeros 1) (take k (drop a d)) → put_mid a k d l ≡ sets d a (points_of s run)
run_stored s run w a d l R ew r k ek e =
    let t = take k (drop a d) in
    let long : length t ≡ run.count = part_long a k d (omega arith) ∙ ek in
    let lw : 1 ≤ w = rw ew (width_some run.limit R.some) in
    let uw : w ≤ 16 = rw ew (width_small run.limit R.most) in
    let q : WasRead (read_run s w run.limit run.count run.bit (zeros 1)) = rw ew R.read in
    let u = read_there s w run.limit run.count run.bit (zeros 1) R.short R.low lw uw (omega arith) R.points q in
    let v = filled_yes s run.bit w (zeros 1) t (rw long u) in
    let i : l ≡ summed s w run.count run.bit (zeros 1) = e ∙ sym v ∙ ap (λ (n : ℕ). summed s w n run.bit (zeros 1)) long in
    let j : summed s w run.count run.bit (zeros 1) ≡ points_of s run = rw ew (read_numbers s (width_of run.limit) run.limit run.count run.bit (zeros 1) (omega (arith, R.most)) R.read) in
    part-put a k d l (ap length i ∙ length_summed s w run.count run.bit (zeros 1) ∙ sym ek) (omega arith) ∙ ap (sets d a) (i ∙ j)

-- the next points of a run, in the first n places of a buffer
pub some_filled : (s : List ℕ) (run : Run) (w from : ℕ) (d l : List ℕ) → SomeRun s run → w ≡ width_of run.limit → run.count ≤ length d
    → l ≡ run_filled s run.bit w (from ∷ []) (take run.count d) → l ≡ some_numbers s run from
some_filled s run w from d l R ew h e =
    let t = take run.count d in
    let long : length t ≡ run.count = length-take-le run.count d h in
    let lw : 1 ≤ w = rw ew (width_some run.limit R.some) in
    let uw : w ≤ 16 = rw ew (width_small run.limit R.most) in
    let u = there_yes s run.bit w run.count R.short lw uw (omega (arith, R.low)) (rw ew R.whole) in
    e ∙ sym (filled_yes s run.bit w (from ∷ []) t (rw long u)) ∙ rw (long, ew)
