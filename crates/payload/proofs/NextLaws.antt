-- What a walk over the meshes of a list that was read learns of the next one. Assumes nothing.
use Rattle.std.proofs.Common.{◌≡◌, ℕ, ◌≤◌, List, [], length, arith, length-drop, length-take}
use Rattle.payload.specs.MeshSpells.{part}
use Rattle.payload.specs.MeshRead.{read_mesh}
use Rattle.payload.specs.Places.{nowhere, spot, next_body}
use Rattle.payload.specs.Internal.{WasRead, any_from, meshes_from}
use Rattle.payload.proofs.PlaceLaws.{MeshNext, next_read}

module _ (s : List ℕ) (at : ℕ) (r : WasRead (any_from s at)) where
  pub no_more : nowhere ≡ next_body s at → meshes_from s at ≡ []
  no_more e = rw (← e) at (next_read s at r)

  pub one_more : {body end : ℕ} → spot body end ≡ next_body s at → MeshNext s at body end
  one_more e = rw (← e) at (next_read s at r)

-- its body was read
pub body_there : {s : List ℕ} {at body end : ℕ} → MeshNext s at body end → length s ≤ 67108864
    → (length (part s body end) ≤ 67108864) × WasRead (read_mesh (part s body end))
body_there N short = (simp (length-take, length-drop) (omega (arith, N.ends, short)), N.read)
