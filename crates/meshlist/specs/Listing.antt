-- What meshlist lists: what is handed to the printer.
use Rattle.std.specs.Prelude.{ℕ, ◌/◌, List, [], ◌∷◌, cond, leb, length, Result, Ok, Err}
use Rattle.bits.specs.Verdict.{Verdict, declined, mapped}
use Rattle.bits.specs.Says.{fill_says}
use Rattle.bits.specs.declared.refusals.FillError.{FillError}
use Rattle.payload.specs.Lent.{Plan}
use Rattle.payload.specs.Mesh.{Mesh}
use Rattle.payload.specs.MeshRead.{read_meshes}
use Rattle.payload.specs.MeshDrawing.{drawn_records, submesh_total, point_total}
use Rattle.payload.specs.Textures.{list_textures}
use Rattle.meshlist.specs.declared.listing.Listing.{Listing}

-- how many bytes were read, none where a read failed
abbrev pub input_length : {E : Type 0} → Result ℕ E → ℕ
input_length (Ok n) = n
input_length (Err e) = 0

-- the mesh list of the input, which has at most 16,384 bytes: 2 where it has more
unfoldable pub listed : List ℕ → Verdict (List Mesh)
listed s = cond (leb (length s) 16384) (read_meshes s) (declined 2)

-- meshes, submeshes and points, and how many textures
abbrev pub line_counts : List Mesh → ℕ × ℕ × ℕ × ℕ
line_counts l = (length l, submesh_total l, point_total l, length (list_textures l) / 2)

-- the counts, or the number of the refusal
abbrev pub listing : List ℕ → Verdict (ℕ × ℕ × ℕ × ℕ)
listing s = mapped line_counts (listed s)

-- with the list's records, five words each, and its textures with their points, two words each
abbrev pub listed_meshes : List Mesh → Plan (ℕ × ℕ × ℕ × ℕ)
listed_meshes l = record { answer = line_counts l; lists = drawn_records l ∷ list_textures l ∷ [] }

abbrev pub listing_plan : List ℕ → Verdict (Plan (ℕ × ℕ × ℕ × ℕ))
listing_plan s = mapped listed_meshes (listed s)

abbrev pub listing_says : Result Listing (FillError ℕ) → Verdict (ℕ × ℕ × ℕ × ℕ)
listing_says r =
    fill_says (λ l. (l.counts.meshes, l.counts.submeshes, l.counts.points, l.textures)) (λ n. n ∷ []) r

-- how many lines there are of records, and of textures
abbrev pub record_lines : {E : Type 0} → Result Listing E → ℕ
record_lines (Ok l) = l.counts.submeshes
record_lines (Err e) = 0

abbrev pub texture_lines : {E : Type 0} → Result Listing E → ℕ
texture_lines (Ok l) = l.textures
texture_lines (Err e) = 0
