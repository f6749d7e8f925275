-- The theorems about the points of each texture, by name. The proofs are in proofs/TextureProofs.antt.
use Rattle.std.specs.Prelude.{◌≡◌, ℕ, ◌*◌, ◌<◌, ◌≤◌, List, [], ◌∷◌, map, length}
use Rattle.bits.specs.Refusals.{among}
use Rattle.bits.specs.Verdict.{accepted, limited}
use Rattle.payload.specs.Mesh.{Mesh}
use Rattle.payload.specs.MeshSpells.{sum}
use Rattle.payload.specs.MeshRead.{read_meshes}
use Rattle.payload.specs.MeshDrawing.{point_total}
use Rattle.payload.specs.Firsts.{firsts, Distinct, Below, place_of}
use Rattle.payload.specs.Textures.{textures, points_with, texture_words, list_textures}
use Rattle.payload.specs.declared.mesh.records.Record.{Record}

-- of words two by two: the first ones, T, and the second ones, P
abbrev pub listed_textures : List ℕ → List ℕ
listed_textures (t ∷ p ∷ l) = t ∷ listed_textures l
listed_textures (t ∷ []) = []
listed_textures [] = []

abbrev pub listed_points : List ℕ → List ℕ
listed_points (t ∷ p ∷ l) = p ∷ listed_points l
listed_points (t ∷ []) = []
listed_points [] = []

-- of the words of any records
pub record TextureLaws (l : List Record) : Type 0 where
  -- the T's; they are whole pairs, so that each T has its P
  pub listed : listed_textures (texture_words l) ≡ firsts (textures l)
  pub whole : length (texture_words l) ≡ 2 * length (firsts (textures l))
  -- every T stands once
  pub once : Distinct (listed_textures (texture_words l))
  -- a T is there exactly where some record has it
  pub occurs : (t : ℕ) → among t (listed_textures (texture_words l)) ≡ among t (textures l)
  -- T comes before U where its first record comes before U's
  pub order : (t u : ℕ) → place_of t (textures l) < place_of u (textures l)
      → place_of t (listed_textures (texture_words l)) < place_of u (listed_textures (texture_words l))
  -- each P is the points of its T's records together
  pub points : listed_points (texture_words l) ≡ map (λ t. points_with t l) (listed_textures (texture_words l))

abbrev pub RecordTextures : Type 0
RecordTextures = (l : List Record) → TextureLaws l

-- of a payload that is read
pub record TexturesOf (l : List Mesh) : Type 0 where
  -- the P's add up to the points of the list
  pub total : sum (listed_points (list_textures l)) ≡ point_total l
  -- every T is a byte, so 512 words hold them all; each P is a u32
  pub bytes : Below 256 (listed_textures (list_textures l))
  pub fits : Below 4294967296 (listed_points (list_textures l))
  pub enough : length (list_textures l) ≤ 512

abbrev pub TexturesRead : Type 0
TexturesRead = (s : List ℕ) (l : List Mesh) → limited s (read_meshes s) ≡ accepted l → TexturesOf l
