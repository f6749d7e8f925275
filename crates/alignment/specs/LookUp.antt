-- What looking up points of a submesh says, and what it puts into the buffer: the vertex numbers are the reading's, and
-- the count is that of the walk's last state.
use Rattle.std.specs.Prelude.{ℕ, suc, max, List, [], ◌∷◌, map, Bool, ◌&&◌, cond, leb, length, get_or, Result}
use Rattle.bits.specs.Verdict.{Verdict, declined, and_then, mapped}
use Rattle.bits.specs.declared.fields.runs.Run.{Run}
use Rattle.payload.specs.Lent.{Plan}
use Rattle.payload.specs.Mesh.{Submesh}
use Rattle.payload.specs.MeshWrite.{all_below}
use Rattle.payload.specs.Places.{body_of, submesh_found}
use Rattle.alignment.specs.Walk.{walk_of}
use Rattle.alignment.specs.declared.walk.Walk.{Walk}
use Rattle.bits.specs.Says.{fill_says}
use Rattle.bits.specs.declared.refusals.FillError.{FillError}

-- the largest asked number plus one, or 0 for no question
unfoldable pub farthest : List ℕ → ℕ
farthest [] = 0
farthest (k ∷ l) = max (farthest l) (suc k)

-- at most 256 numbers, each of them below the index count
abbrev pub askable : ℕ → List ℕ → Bool
askable count asked = leb (length asked) 256 && all_below count asked

-- the vertex number that the reading has at a point
abbrev pub vertex_at : Submesh → ℕ → ℕ
vertex_at x k = get_or x.points k 0

-- what is handed out where the walk ends: its count of fields, and the vertex numbers in the order asked
abbrev pub handed_out_of : Submesh → List ℕ → Walk → Plan ℕ
handed_out_of x asked last = record { answer = last.taken; lists = map (vertex_at x) asked ∷ [] }

-- of a submesh whose points are that run of its mesh's body: 24, or what the walk to the farthest asked point hands out
unfoldable pub looked_up_in : List ℕ → Run → Submesh → List ℕ → Verdict (Plan ℕ)
looked_up_in body run x asked =
    cond (askable (length x.points) asked)
    (mapped (handed_out_of x asked) (walk_of body run (farthest asked)))
    (declined 24)

-- of the submesh with record number j: 2, then 3, 6, 7, 8, 17 and 18 in payload order, then 24
unfoldable pub looked_up : List ℕ → ℕ → List ℕ → Verdict (Plan ℕ)
looked_up s j asked =
    and_then (submesh_found s j) (λ x. looked_up_in (body_of s x) x.place.run x.submesh asked)

abbrev pub look_up_says : Result ℕ (FillError ℕ) → Verdict ℕ
look_up_says r = fill_says (λ n. n) (λ n. n ∷ []) r
