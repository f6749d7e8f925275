-- What the contracts of private functions say of a walk over submeshes.
use Rattle.std.specs.Prelude.{◌≡◌, ℕ, ◌+◌, ◌*◌, ◌<◌, List, [], ◌∷◌, length}
use Rattle.std.specs.Prelude.{Option, MatchOption}
use Rattle.bits.specs.Number.{width_of}
use Rattle.payload.specs.Mesh.{Submesh}
use Rattle.payload.specs.Internal.{PointsThere, points_of, submeshes_of}
use Rattle.payload.specs.declared.mesh.submeshes.SubmeshWalk.{SubmeshWalk}
use Rattle.payload.specs.declared.mesh.submeshes.TakenSubmesh.{TakenSubmesh}

-- the submeshes that it has left
abbrev pub submeshes_in : SubmeshWalk → List Submesh
submeshes_in w = submeshes_of w.s.now w.rest

-- the submesh that was taken
abbrev pub taken_submesh : List ℕ → TakenSubmesh → Submesh
taken_submesh s r = record { texture = r.texture; mode = r.mode; points = points_of s r.run }

-- the first of the submeshes in w was taken, and t has the others
pub record Taken (w : SubmeshWalk) (r : TakenSubmesh) (t : SubmeshWalk) : Type 0 where
  pub is : submeshes_in w ≡ taken_submesh w.s.now r ∷ submeshes_in t
  pub byte : r.texture < 256
  pub run : PointsThere w.s.now r.run
  pub count : r.run.count ≡ length (points_of w.s.now r.run)
  pub place : r.run.bit ≡ w.rest.bit + 48
  pub after : t.rest.bit ≡ w.rest.bit + 48 + r.run.count * width_of w.rest.vertices
  pub limit : r.run.limit ≡ w.rest.vertices
  pub body : t.s.now ≡ w.s.now
  pub vertices : t.rest.vertices ≡ w.rest.vertices
  pub left : t.rest.left + 1 ≡ w.rest.left

-- what a turn of the walk gives: a submesh, and none where none is left
abbrev pub WalkGives : SubmeshWalk → Option TakenSubmesh → SubmeshWalk → Type 0
WalkGives w r t = MatchOption r (submeshes_in w ≡ []) (λ x. Taken w x t)
