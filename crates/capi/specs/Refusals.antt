-- Which numbers the functions on lists of shown submeshes can refuse with; and where 16 crosses: from `capi_read`,
-- `capi_read_two`, `capi_put_field` and `capi_sum_fields` alone. No other C function answers -16. (`capi_zigzag`
-- refuses nothing, and -16 is what it says that a field of 31 means.) The proofs are in proofs/RefusalProofs.antt.
use Rattle.std.specs.Prelude.{◌≡◌, ℕ, ◌<◌, Bool, ◌↔◌, List, [], ◌∷◌, pos}
use Rattle.bits.specs.Verdict.{accepted, declined, mapped}
use Rattle.bits.specs.Number.{ran_on}
use Rattle.bits.specs.Refusals.{Claim, RefusesOr12, NotMinus}
use Rattle.bits.specs.Refusals as bit
use Rattle.payload.specs.Refusals as pay
use Rattle.payload.specs.Lent.{answer_for}
use Rattle.display.specs.ShownRules.{Request, showing, hiding}
use Rattle.display.specs.Refusals as disp
use Rattle.alignment.specs.Refusals as alignment
use Rattle.scene.specs.Scene.{Call, scene_answer}
use Rattle.capi.specs.Answer.{code_of, numbered, truth}
use Rattle.capi.specs.ShownLists.{none_plan, list_called}
use Rattle.capi.specs.Total.{total_of}

-- the functions on lists of shown submeshes know 12 besides what the calls of `display` refuse with, and nothing else
pub record ListRefusals : Type 0 where
  pub none_shown_law : (buffers : List (List ℕ)) → RefusesOr12 [] (answer_for (accepted none_plan) buffers)
  pub show : (words entries : List ℕ) (count total n : ℕ) (buffers : List (List ℕ))
      → RefusesOr12 (19 ∷ 21 ∷ []) (answer_for (list_called words entries count total (showing n)) buffers)
  pub hide : (words entries : List ℕ) (count total n : ℕ) (buffers : List (List ℕ))
      → RefusesOr12 (19 ∷ 20 ∷ []) (answer_for (list_called words entries count total (hiding n)) buffers)

-- an answer does not cross as -k, whatever words its value is put into
abbrev pub NeverInC : ℕ → Claim
NeverInC k A ks v = (words : A → List ℕ) → NotMinus k (code_of (mapped words v))

pub record NeverSixteen : Type 0 where
  -- the functions of the calls of `bits`, `payload`, `scene`, `display` and `alignment`
  pub of_bits : bit.EachCall (NeverInC 16) (NeverInC 16)
  pub of_payload : pay.EachCall (NeverInC 16) (NeverInC 16)
  pub of_scene : (c : Call) → NeverInC 16 _ [] (scene_answer c)
  pub of_display : disp.EachCall (NeverInC 16) (NeverInC 16)
  pub of_alignment : alignment.EachCall (NeverInC 16)
  -- those on lists of shown submeshes
  pub none_shown_law : (buffers : List (List ℕ)) → NeverInC 16 _ [] (answer_for (accepted none_plan) buffers)
  pub lists : (words entries : List ℕ) (count total : ℕ) (q : Request) (buffers : List (List ℕ))
      → NeverInC 16 _ [] (answer_for (list_called words entries count total q) buffers)
  -- `capi_run_on`, which answers the number itself
  pub run_on : (limit last f : ℕ) → NotMinus 16 (numbered (ran_on limit last f))
  -- and those that refuse nothing: they answer a count of words, a number, or yes or no
  pub value : (words : List ℕ) → NotMinus 16 (code_of (accepted words))
  pub number : (n : ℕ) → NotMinus 16 (pos n)
  pub yes_no : (b : Bool) → NotMinus 16 (truth b)

-- the sum of fields is refused with 16 exactly where their width is above 32, however many they are
abbrev pub SumWidth : Type 0
SumWidth = (s : List ℕ) (w n : ℕ) → (total_of s w n ≡ declined 16) ↔ (32 < w)
