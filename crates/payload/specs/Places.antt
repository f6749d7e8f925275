-- Where the bodies of a list's meshes stand, and where the points of a submesh do.
use Rattle.std.specs.Prelude.{ℕ, zero, suc, ◌+◌, ◌-◌, cond, List, [], ◌∷◌, length, ◌==◌, nat_lt, Result}
use Rattle.bits.specs.Verdict.{Verdict, accepted, needs, declined, and_then, mapped, limited}
use Rattle.bits.specs.Number.{width_of}
use Rattle.bits.specs.Header.{Item, list_end, box, header_at}
use Rattle.bits.specs.declared.fields.runs.Run.{Run}
use Rattle.payload.specs.Mesh.{Submesh, Mesh}
use Rattle.payload.specs.MeshSpells.{submesh_bits, mesh_vertices, submeshes_at, mesh_type, part}
use Rattle.payload.specs.MeshRead.{read_meshes}
use Rattle.payload.specs.declared.mesh.find.PointFields.{PointFields}
use Rattle.bits.specs.Says.{says}
use Rattle.bits.specs.declared.refusals.Refusal.{Refusal}

-- ---- the bodies

-- where a body begins and ends, or there is none
pub data Spot : Type 0 where
  nowhere : Spot
  spot : ℕ → ℕ → Spot

-- a mesh box is it, and another is skipped; `rest` looks on from a place
abbrev pub next_item : (ℕ → Spot) → Verdict Item → Spot
next_item rest (accepted list_end) = nowhere
next_item rest (accepted (box type (accepted e))) = cond (type == mesh_type) (spot e.0 e.1) (rest e.1)
next_item rest (accepted (box type (needs l))) = nowhere
next_item rest (accepted (box type (declined k))) = nowhere
next_item rest (needs l) = nowhere
next_item rest (declined k) = nowhere

-- each box is 8 bytes or more, so as many turns as there are bytes are enough
unfoldable pub next_in : List ℕ → ℕ → ℕ → Spot
next_in s zero p = nowhere
next_in s (suc turns) p = next_item (next_in s turns) (header_at s p)

-- the first mesh body from the box at byte p on
unfoldable pub next_body : List ℕ → ℕ → Spot
next_body s p = next_in s (length s) p

abbrev pub start_of : Spot → ℕ
start_of nowhere = 0
start_of (spot body end) = body

abbrev pub end_of : Spot → ℕ
end_of nowhere = 0
end_of (spot body end) = end

-- ---- a submesh

-- a submesh of a reading, and where its points stand
pub record Standing : Type 0 where
  pub submesh : Submesh
  pub place : PointFields

-- the bytes of its mesh's body
abbrev pub body_of : List ℕ → Standing → List ℕ
body_of s x = part s x.place.body x.place.end

-- submesh number j of those that stand one after the other from bit p of a body with m vertices on, and the run of its
-- points, which follows its texture, mode and index count: 24 where there is none
unfoldable pub submesh_from : ℕ → ℕ → List Submesh → ℕ → Verdict (Submesh × Run)
submesh_from m p [] j = declined 24
submesh_from m p (x ∷ l) zero = accepted (x, record { bit = p + 48; limit = m; count = length x.points })
submesh_from m p (x ∷ l) (suc j) = submesh_from m (p + submesh_bits (width_of m) x) l j

-- of a mesh
abbrev pub submesh_in : Mesh → ℕ → Verdict (Submesh × Run)
submesh_in x j = submesh_from (mesh_vertices x) (submeshes_at x + 32) x.submeshes j

-- in the body at a spot
abbrev pub standing_at : Spot → Submesh × Run → Standing
standing_at v x = record { submesh = x.0; place = record { body = start_of v; end = end_of v; run = x.1 } }

-- submesh number j of some meshes, whose boxes stand from byte p on, counted through all of them
unfoldable pub standing_from : List ℕ → ℕ → List Mesh → ℕ → Verdict Standing
standing_from s p [] j = declined 24
standing_from s p (x ∷ l) j =
    cond (nat_lt j (length x.submeshes))
    (mapped (standing_at (next_body s p)) (submesh_in x j))
    (standing_from s (end_of (next_body s p)) l (j - length x.submeshes))

-- of a payload: 2, then 3, 6, 7, 8, 17 and 18 in payload order, then 24
unfoldable pub submesh_found : List ℕ → ℕ → Verdict Standing
submesh_found s j = and_then (limited s (read_meshes s)) (λ l. standing_from s 0 l j)

-- what is told of it
abbrev pub place_found : List ℕ → ℕ → Verdict PointFields
place_found s j = mapped (λ x. x.place) (submesh_found s j)

abbrev pub found_says : Result PointFields Refusal → Verdict PointFields
found_says r = says (λ p. p) r
