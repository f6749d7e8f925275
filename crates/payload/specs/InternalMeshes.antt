-- What the contracts of private functions say of a walk over the meshes of a list.
use Rattle.std.specs.Prelude.{◌≡◌, List, [], ◌∷◌, Option, MatchOption}
use Rattle.payload.specs.Mesh.{Mesh}
use Rattle.payload.specs.MeshSpells.{part}
use Rattle.payload.specs.Places.{spot, next_body}
use Rattle.payload.specs.Internal.{mesh_read, meshes_from}
use Rattle.payload.specs.declared.mesh.meshes.ReadMesh.{ReadMesh}
use Rattle.payload.specs.declared.mesh.meshes.MeshWalk.{MeshWalk}

-- the meshes that it has left
abbrev pub meshes_in : MeshWalk → List Mesh
meshes_in w = meshes_from w.s.now w.at

-- the first of the meshes in w was taken, and t has the others
pub record TakenMesh (w : MeshWalk) (m : ReadMesh) (t : MeshWalk) : Type 0 where
  pub is : meshes_in w ≡ mesh_read m.s.now ∷ meshes_in t
  pub there : spot m.body m.end ≡ next_body w.s.now w.at
  pub part : m.s.now ≡ part w.s.now m.body m.end
  pub list : t.s.now ≡ w.s.now
  pub after : t.at ≡ m.end

-- what a turn of the walk gives: a mesh, and none where none is left
abbrev pub MeshGives : MeshWalk → Option ReadMesh → MeshWalk → Type 0
MeshGives w r t = MatchOption r (meshes_in w ≡ []) (λ m. TakenMesh w m t)
