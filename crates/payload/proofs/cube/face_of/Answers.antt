-- `face_of` meets its contract: the codes make the face's floats. Assumes nothing.
use Rattle.std.proofs.Common.{◌≡◌, ℕ, ◌+◌, ◌*◌, ◌<◌, List, get_or, ℤ, pos, refl, ap, ◌∙◌, arith}
use lib.Ieee.{nan}
use Rattle.payload.specs.Cube.{face_table}
use Rattle.payload.specs.InternalCube.{float_of, Makes, axis_of, face_of}
use Rattle.payload.specs.declared.cube.Axis.{Axis}
use Rattle.payload.proofs.CubeLaws.{in_float_lem}
use Rattle.payload.proofs.cube.face_of.Reads as reads
use Rattle.payload.proofs.cube.face_of.Lts as lts
use Rattle.payload.proofs.cube.face_of.Goals as goal

module _ (codes : List ℤ) (face : ℕ) (makes : Makes codes face) (axis : ℕ) (low : axis < 3) where
  code : (k j : ℕ) → k < 9 → face * 9 + k ≡ j → float_of (get_or codes k (pos 0)) ≡ get_or face_table j nan
  code k j h e = makes k h ∙ ap (λ (n : ℕ). get_or face_table n nan) e

  axis-made : ◌≡◌ {A = Axis}
      (record {
        centre = float_of (get_or codes axis (pos 0));
        right = float_of (get_or codes (axis + 3) (pos 0));
        up = float_of (get_or codes (axis + 6) (pos 0));
      })
      (axis_of face axis)
  axis-made =
      let p = code axis (face * 9 + axis) (omega arith) refl in
      let q = code (axis + 3) (face * 9 + 3 + axis) (omega arith) (omega arith) in
      let r = code (axis + 6) (face * 9 + 6 + axis) (omega arith) (omega arith) in
      rw (p, q, r)

pub int_to_float-column : goal.int_to_float-column
int_to_float-column c = in_float_lem _ (omega arith)

pub int_to_float-row : goal.int_to_float-row
int_to_float-row c = in_float_lem _ (omega arith)

pub returns : goal.returns
unfolding face_of
returns c =
    let made = axis-made (lts.dens reads.Pre reads.Post c.args).0 c.args.face c.requires.1 in
    rw (made 0 (omega arith), made 1 (omega arith), made 2 (omega arith))
