-- `mesh::draw::parse_meshes` meets its contract: a refusal and a buffer that is too short leave all as it was, and else
-- what was measured is stored. Assumes nothing.
use Rattle.std.proofs.Common.{◌≡◌, ℕ, List, [], ◌∷◌, map, length, ap, ◌∙◌, ap₂}
use Rattle.bits.specs.Verdict.{accepted, mapped}
use Rattle.payload.specs.Meshes.{list_size, drawn_meshes, meshes_plan}
use Rattle.payload.specs.Internal.{meshes_from}
use Rattle.payload.specs.declared.mesh.measure.MeshListSize.{MeshListSize}
use Rattle.bits.proofs.SaysLaws.{passed_on}
use Rattle.payload.proofs.LentLaws.{refused, enough, too_short, all_stored}
use Rattle.payload.proofs.TurnLaws.{Listed, listed, not_listed, listed_meshes_law}
use Rattle.payload.proofs.mesh.draw.parse_meshes.Goals as goal

-- what is drawn of a list that was measured, and how much it is
planned : (s : List ℕ) (n : MeshListSize) → Listed s n → meshes_plan s ≡ accepted (drawn_meshes (meshes_from s 0))
planned s n L = ap (mapped drawn_meshes) L.is

abbrev lengths : MeshListSize → List ℕ
lengths n = n.numbers ∷ n.floats ∷ n.records ∷ []

sized : (s : List ℕ) (n : MeshListSize) → Listed s n → lengths n ≡ map length (drawn_meshes (meshes_from s 0)).lists
unfolding list_size
sized s n L = ap lengths L.size

pub returns-in_err-n : goal.returns-in_err-n
returns-in_err-n c =
    let a = c.args in
    let r = refused (meshes_plan a.payload.now) (a.numbers.now ∷ a.floats.now ∷ a.records.now ∷ []) _
    (ap (mapped drawn_meshes) (not_listed a.payload.now _ c.in_err-n.ensures)) in
    record { answer = passed_on _ _ _ _ c.from_residual.ensures.1 ∙ r.0; buffers = r.1 }

pub draw_boxes-requires : goal.draw_boxes-requires
draw_boxes-requires c =
    let a = c.args in
    let s = a.payload.now in
    let size = c.in_ok-n.n in
    let told = listed s size c.in_ok-n.ensures in
    let r = enough (meshes_plan s) (a.numbers.now ∷ a.floats.now ∷ a.records.now ∷ []) _ (planned s size told)
    (lengths size) (sized s size told) c.if-n-numbers.true in
    record { s_len_bound = (told.short, told.read); s_in_bounds = (r.0, r.1.0) }

pub record_boxes-requires : goal.record_boxes-requires
record_boxes-requires c =
    let a = c.args in
    let s = a.payload.now in
    let size = c.in_ok-n.n in
    let told = listed s size c.in_ok-n.ensures in
    let r = enough (meshes_plan s) (a.numbers.now ∷ a.floats.now ∷ a.records.now ∷ []) _ (planned s size told)
    (lengths size) (sized s size told) c.if-n-numbers.true in
    (told.short, told.read, r.1.1.0, listed_meshes_law told)

pub returns-then-n-numbers : goal.returns-then-n-numbers
returns-then-n-numbers c =
    let a = c.args in
    let s = a.payload.now in
    let size = c.in_ok-n.n in
    let told = listed s size c.in_ok-n.ensures in
    let r = all_stored (meshes_plan s) (a.numbers.now ∷ a.floats.now ∷ a.records.now ∷ []) _ (planned s size told)
    (lengths size) (sized s size told) c.if-n-numbers.true _ told.size _
    (ap₂ ◌∷◌ c.draw_boxes.ensures.numbers
    (ap₂ ◌∷◌ c.draw_boxes.ensures.floats (ap (λ x. x ∷ []) c.record_boxes.ensures))) in
    record { answer = r.0; buffers = r.1 }

pub returns : goal.returns
returns c =
    let a = c.args in
    let s = a.payload.now in
    let size = c.in_ok-n.n in
    let told = listed s size c.in_ok-n.ensures in
    let r = too_short (meshes_plan s) (a.numbers.now ∷ a.floats.now ∷ a.records.now ∷ []) _ (planned s size told)
    (lengths size) (sized s size told) c.if-n-numbers.false in
    record { answer = r.0; buffers = r.1 }
