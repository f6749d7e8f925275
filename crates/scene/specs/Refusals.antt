-- Which refusals the scene call can give: by its kind only those that documents 01 and 02 list, and 12 for its three
-- buffers; so never 16, which is the field reader's. The proofs are in proofs/RefusalProofs.antt.
use Rattle.std.specs.Prelude.{◌<◌, ◌≡◌, [], ◌∷◌}
use Rattle.bits.specs.Verdict.{declined}
use Rattle.bits.specs.Refusals.{RefusesOr12, NeverDeclines}
use Rattle.scene.specs.Scene.{Call, scene_answer}

pub record SceneRefusals : Type 0 where
  pub kind_0 : (c : Call) → c.kind ≡ 0 → RefusesOr12 (2 ∷ 3 ∷ 4 ∷ 9 ∷ 10 ∷ []) (scene_answer c)
  pub kind_1 : (c : Call) → c.kind ≡ 1 → RefusesOr12 (2 ∷ 3 ∷ 4 ∷ 5 ∷ 9 ∷ 11 ∷ []) (scene_answer c)
  pub kind_2 : (c : Call) → c.kind ≡ 2 → RefusesOr12 (2 ∷ 3 ∷ 6 ∷ 7 ∷ 8 ∷ 17 ∷ 18 ∷ []) (scene_answer c)
  -- any other kind is refused with 1
  pub other : (c : Call) → 2 < c.kind → scene_answer c ≡ declined 1

abbrev pub NeverSixteen : Type 0
NeverSixteen = (c : Call) → NeverDeclines 16 _ [] (scene_answer c)
