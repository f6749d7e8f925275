-- What is told of a listing, by name. The proofs are in proofs/LineProofs.antt.
use Rattle.std.specs.Prelude.{ℕ, ◌*◌, ◌≤◌, ◌≡◌, List, [], ◌∷◌, length, take}
use Rattle.bits.specs.Verdict.{accepted}
use Rattle.payload.specs.Lent.{◌onto◌, buffers_after}
use Rattle.payload.specs.Mesh.{Mesh}
use Rattle.payload.specs.MeshDrawing.{drawn_records}
use Rattle.payload.specs.Textures.{list_records, list_textures}
use Rattle.payload.specs.MeshSpells.{sum}
use Rattle.payload.specs.TextureLaws.{listed_points, TextureLaws, TexturesOf}
use Rattle.meshlist.specs.Listing.{listed, listing, listing_plan}

-- what is handed to the printer of a mesh list: four counts, and the buffers of the record and of the texture lines
pub record Lines (s : List ℕ) (l : List Mesh) (records textures : List ℕ) : Type 0 where
  pub meshes : ℕ
  pub submeshes : ℕ
  pub points : ℕ
  pub texture_count : ℕ
  pub counts : listing s ≡ accepted (meshes, submeshes, points, texture_count)
  pub buffers : buffers_after (listing_plan s) (records ∷ textures ∷ [])
      ≡ (drawn_records l onto records) ∷ (list_textures l onto textures) ∷ []
  -- the words of the lines, no more and no fewer
  pub record_lines_law : take (5 * submeshes) (drawn_records l onto records) ≡ drawn_records l
  pub texture_lines_law : take (2 * texture_count) (list_textures l onto textures) ≡ list_textures l
  -- each T once, those that occur, in order of first appearance, and P
  pub laws : TextureLaws (list_records l)
  pub limits : TexturesOf l
  -- the P's add up to the third number of the total line
  pub total : sum (listed_points (list_textures l)) ≡ points

-- buffers as long as the program's
abbrev pub ListedLines : Type 0
ListedLines =
    (s : List ℕ) (l : List Mesh) → listed s ≡ accepted l → (records textures : List ℕ) → 13650 ≤ length records
    → 512 ≤ length textures → Lines s l records textures
