-- What the contracts of the points' private functions cite: the vertices that they draw from. No promise of a public
-- call leans on these.
use Rattle.std.specs.Prelude.{ℕ, ◌*◌, List}
use Rattle.payload.specs.MeshDrawing.{run_words}
use Rattle.payload.specs.Internal.{word_at, ExpandedFrom}
use Rattle.payload.specs.declared.mesh.vertices.Vertices.{Vertices}

-- the words of the points of some vertices
abbrev pub vertex_words : Vertices → List ℕ → List ℕ
vertex_words v points = run_words (word_at v.s.now v.numbers.now) v.base points

-- their words are expanded as long as nothing was stored at their place or after it
abbrev pub VerticesExpanded : ℕ → Vertices → List ℕ → ℕ → Type 0
VerticesExpanded at v words expanded = ExpandedFrom at v.s.now v.numbers.now v.base (5 * v.count) words expanded
