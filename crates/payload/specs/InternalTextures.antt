-- What the contracts of the private functions that count textures cite. No promise of a public call leans on these.
use Rattle.std.specs.Prelude.{◌≡◌, ℕ, ◌+◌, ◌*◌, ◌<◌, ◌≤◌, List, [], ◌∷◌, ◌++◌, map, length, take, slice_index}
use Rattle.payload.specs.Mesh.{Submesh, Mesh}
use Rattle.payload.specs.Records.{point_sum}
use Rattle.payload.specs.Firsts.{firsts}
use Rattle.payload.specs.Textures.{textures, points_with}
use Rattle.payload.specs.declared.mesh.records.Record.{Record}
use Rattle.payload.specs.declared.mesh.textures.Table.{Table}

-- a record by its texture and its points: nothing else of it is counted
abbrev pub weight : ℕ → ℕ → Record
weight texture points = record { eye = 0; texture = texture; mode = 0; first = 0; points = points }

abbrev pub weights : List Submesh → List Record
weights l = map (λ (x : Submesh). weight x.texture (length x.points)) l

unfoldable pub list_weights : List Mesh → List Record
list_weights [] = []
list_weights (x ∷ l) = weights x.submeshes ++ list_weights l

-- textures are bytes, and each record has a point
abbrev pub Proper : List Record → Type 0
Proper [] = Unit {0}
Proper (r ∷ l) = (r.texture < 256) × (1 ≤ r.points) × Proper l

-- the table of some records: the points of each texture, and the textures in order of first appearance
pub record Tally (l : List Record) (table : Table) : Type 0 where
  pub proper : Proper l
  pub sums_long : length table.sums ≡ 256
  pub order_long : length table.order ≡ 256
  pub totals : (t : ℕ) → t < 256 → slice_index table.sums t ≡ points_with t l
  pub listed : take table.count table.order ≡ firsts (textures l)
  pub count : table.count ≡ length (firsts (textures l))

-- it is the table of some records, and others can be added: all their points together fit a word
pub record Addable (more : List Record) (table : Table) : Type 0 where
  pub before : List Record
  pub tally : Tally before table
  pub fits : point_sum before + point_sum more < 4294967296

-- the others were added
abbrev pub Added : List Record → Table → Table → Type 0
Added more table table' =
    (before : List Record) → Tally before table → point_sum before + point_sum more < 4294967296
    → Tally (before ++ more) table'

-- its textures stand in the order, all of them bytes, and the buffer has room for their words
pub record PairRoom (table : Table) (room : ℕ) : Type 0 where
  pub long : length table.order ≡ 256
  pub few : table.count ≤ 256
  pub bytes : (i : ℕ) → i < table.count → slice_index table.order i < 256
  pub fits : 2 * table.count ≤ room
