-- `first_eye` meets its contract. Assumes nothing.
use Rattle.std.proofs.Common.{◌≡◌, ℕ, arith, eq-eqb, ne_eqb}
use Rattle.payload.specs.MeshDrawing.{first_eye}
use Rattle.payload.proofs.mesh.records.first_eye.Goals as goal

two : (n : ℕ) → n ≡ 2 → 1 ≡ first_eye n
unfolding first_eye
two n e = simp (eq-eqb n 2 e)

other : (n : ℕ) → (n ≡ 2 → ⊥) → 0 ≡ first_eye n
unfolding first_eye
other n e = simp (ne_eqb n 2 e)

pub returns-then-meshes-eq2 : goal.returns-then-meshes-eq2
returns-then-meshes-eq2 c = two c.args.meshes (omega arith)

pub returns : goal.returns
returns c = other c.args.meshes (omega arith)
