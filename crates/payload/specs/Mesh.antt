-- The readings of kind 2.
use Rattle.std.specs.Prelude.{ℕ, List}

-- a texture byte, a mode byte and vertex numbers
pub record Submesh : Type 0 where
  pub texture : ℕ
  pub mode : ℕ
  pub points : List ℕ

-- a pool of words, coordinate numbers, five to a vertex, and submeshes
pub record Mesh : Type 0 where
  pub pool : List ℕ
  pub vertices : List ℕ
  pub submeshes : List Submesh
