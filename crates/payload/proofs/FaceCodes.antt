-- Faces of nine codes: code k of a face makes float k of its nine, whatever the codes are. Assumes nothing.
use Rattle.std.proofs.Common.{◌≡◌, ℕ, zero, suc, ◌+◌, ◌*◌, ◌<◌, Bool, true, ◌&&◌, eqb, List, [], ◌∷◌, ◌++◌, map, length, get_or, ℤ, pos, sym, ap, ◌∙◌, arith, get_or-append-add, eqb-true}
use lib.ListN.{length-map, get_or-append}
use lib.Ieee.{Float, nan}
use Rattle.bits.proofs.VerdictLaws.{both_true}
use Rattle.payload.specs.Cube.{face_table}
use Rattle.payload.specs.InternalCube.{float_of, Makes}
use Rattle.payload.proofs.FillLaws.{get_d_mapped}

-- ---- faces of nine codes

abbrev pub floats : List (List ℤ) → List Float
floats [] = []
floats (face ∷ l) = map float_of face ++ floats l

abbrev pub nines : List (List ℤ) → Bool
nines [] = true
nines (face ∷ l) = eqb (length face) 9 && nines l

-- code k of a face makes float k of its nine
made : (l : List (List ℤ)) (face k : ℕ) → nines l ≡ true → face < length l → k < 9
    → float_of (get_or (get_or l face []) k (pos 0)) ≡ get_or (floats l) (face * 9 + k) nan
made [] face k e h i = absurd (omega arith)
made (f ∷ l) zero k e h i =
    let n = eqb-true (length f) 9 (both_true (eqb (length f) 9) (nines l) e).0 in
    let m : k < length (map float_of f) = omega (arith, n, length-map f float_of) in
    let z : zero * 9 + k ≡ k = omega arith in
    sym (get_d_mapped float_of (pos 0) nan f k (omega (arith, n))) ∙ sym (get_or-append (map float_of f) (floats l) nan k m)
    ∙ ap (λ (j : ℕ). get_or (map float_of f ++ floats l) j nan) (sym z)
made (f ∷ l) (suc face) k e h i =
    let t = both_true (eqb (length f) 9) (nines l) e in
    let n = eqb-true (length f) 9 t.0 in
    let j : length (map float_of f) + (face * 9 + k) ≡ suc face * 9 + k = omega (arith, n, length-map f float_of) in
    made l face k t.1 (omega arith) i ∙ sym (get_or-append-add (map float_of f) (floats l) (face * 9 + k) nan)
    ∙ ap (λ (j : ℕ). get_or (map float_of f ++ floats l) j nan) j

-- ---- six faces

-- codes that make the table of the definitions: three tests that the checker computes
pub record FaceTable (l : List (List ℤ)) : Type 0 where
  pub six : length l ≡ 6
  pub shape : nines l ≡ true
  pub same : floats l ≡ face_table

pub codes_make : {l : List (List ℤ)} → FaceTable l → (face : ℕ) → face < 6 → Makes (get_or l face []) face
codes_make {l} T face h k i =
    made l face k T.shape (omega (arith, T.six)) i ∙ ap (λ (m : List Float). get_or m (face * 9 + k) nan) T.same
