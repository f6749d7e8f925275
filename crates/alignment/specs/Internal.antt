-- What the contracts of private functions cite. No promise of a public call leans on these.
use Rattle.std.specs.Prelude.{ℕ, zero, suc, ◌*◌, ◌/◌, ◌≤◌, ◌<◌, ◌≡◌, cond, List, [], ◌∷◌, leb, eqb, length, get_or}
use Rattle.bits.specs.Verdict.{Verdict}
use Rattle.bits.specs.Number.{width_of}
use Rattle.bits.specs.Run.{zeros, RunSpells}
use Rattle.bits.specs.declared.fields.runs.Run.{Run}
use Rattle.payload.specs.Lent.{answer_for, buffers_after}
use Rattle.payload.specs.Mesh.{Submesh}
use Rattle.payload.specs.Internal.{WasRead, value_or}
use Rattle.alignment.specs.Walk.{start, step, walk_of}
use Rattle.alignment.specs.LookUp.{farthest, looked_up_in}
use Rattle.alignment.specs.declared.walk.Walk.{Walk}

-- ---- the walk

-- a step can be taken
pub record StepRoom (s : List ℕ) (w limit : ℕ) (v : Walk) : Type 0 where
  pub goes : WasRead (step s w limit v)
  pub few : v.taken < 128000

-- all steps over a run can be taken
pub record WalkRoom (s : List ℕ) (run : Run) : Type 0 where
  pub steps : (k : ℕ) → k < run.count → WasRead (walk_of s run (suc k))
  pub few : run.count ≤ 128000

-- the running number after the step that takes field k
abbrev pub number_after : List ℕ → Run → ℕ → ℕ
number_after s run k = (value_or (start 0) (walk_of s run (suc k))).number

-- ---- the asked points in chains

-- 1,024 stretches of that width have all asked points in them
pub record Stretches (asked : List ℕ) (width : ℕ) : Type 0 where
  pub few : length asked ≤ 256
  pub wide : 0 < width
  pub fits : 1024 * width < 4294967296
  pub all : farthest asked ≤ 1024 * width

-- the place of the last of the first n questions that asks in a stretch, counted from 1, or 0 where none does
unfoldable pub last_in : List ℕ → ℕ → ℕ → ℕ → ℕ
last_in asked width stretch zero = 0
last_in asked width stretch (suc n) =
    cond (eqb (get_or asked n 0 / width) stretch) (suc n) (last_in asked width stretch n)

-- the first n questions are chained: the last one of each stretch, and for each question the one before it
pub record ChainedTo (asked : List ℕ) (width n : ℕ) (lasts earlier : List ℕ) : Type 0 where
  pub long : (length lasts ≡ 1024) × (length earlier ≡ 256)
  pub last : (stretch : ℕ) → stretch < 1024 → get_or lasts stretch 0 ≡ last_in asked width stretch n
  pub before : (i : ℕ) → i < n → get_or earlier i 0 ≡ last_in asked width (get_or asked i 0 / width) i

-- all of them are
pub record Chained (asked : List ℕ) (width : ℕ) (lasts earlier : List ℕ) : Type 0 where
  pub stretches : Stretches asked width
  pub chains : ChainedTo asked width (length asked) lasts earlier

abbrev pub nearest : ℕ → ℕ → ℕ → ℕ
nearest after k best = cond (leb k after) best (cond (leb best k) best k)

-- none is asked from `from` on and before r
pub record NoneBetween (asked : List ℕ) (from r : ℕ) : Type 0 where
  pub low : from ≤ r
  pub none : (i : ℕ) → i < length asked → get_or asked i 0 < r → get_or asked i 0 < from

-- `vertex` was stored at each place from n on where `point` is asked, and where another is asked all is as it was
pub record Filled (asked : List ℕ) (n point vertex : ℕ) (out out' : List ℕ) : Type 0 where
  pub hit : (i : ℕ) → n ≤ i → i < length asked → get_or asked i 0 ≡ point → get_or out' i 0 ≡ vertex
  pub other : (i : ℕ) → i < length asked → (get_or asked i 0 ≡ point → ⊥) → get_or out' i 0 ≡ get_or out i 0
  pub rest : (i : ℕ) → length asked ≤ i → get_or out' i 0 ≡ get_or out i 0
  pub long : length out' ≡ length out

-- it was stored wherever the point is asked, and none is asked between the point and r
pub record Answered (asked : List ℕ) (point vertex : ℕ) (out : List ℕ) (r : ℕ) (out' : List ℕ) : Type 0 where
  pub filled : Filled asked 0 point vertex out out'
  pub ahead : NoneBetween asked (suc point) r

-- the point `next` was not reached, and nothing is done; or it was, and r is where to look next
pub data Settled (asked : List ℕ) (v : Walk) (next : ℕ) (out : List ℕ) (r : ℕ) (out' : List ℕ) : Type 0 where
  before : v.taken ≤ next → r ≡ next → out' ≡ out → Settled asked v next out r out'
  reached : next < v.taken → Answered asked next v.number out r out' → Settled asked v next out r out'

-- ---- looking up in a body

-- a run is the points of a submesh
pub record PointsOf (s : List ℕ) (run : Run) (x : Submesh) : Type 0 where
  pub short : length s ≤ 67108864
  pub most : run.limit ≤ 32000
  pub few : run.count ≤ 128000
  pub count : run.count ≡ length x.points
  pub spells : RunSpells s (width_of run.limit) run.limit run.bit (zeros 1) x.points

-- of some submesh
pub record SomePoints (s : List ℕ) (run : Run) : Type 0 where
  pub submesh : Submesh
  pub are : PointsOf s run submesh

-- what is said and left for the submesh whose points they are
abbrev pub Answers : List ℕ → Run → List ℕ → List ℕ → Verdict ℕ → List ℕ → Type 0
Answers s run asked out said after =
    (x : Submesh) → PointsOf s run x
    → (said ≡ answer_for (looked_up_in s run x asked) (out ∷ []))
    × (after ∷ [] ≡ buffers_after (looked_up_in s run x asked) (out ∷ []))
