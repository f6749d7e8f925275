-- No call of the viewer answers -16, which is the field reader's refusal. The proof is in proofs/RefusalProofs.antt.
use Rattle.std.specs.Prelude.{ℕ, List}
use Rattle.bits.specs.Verdict.{limited, mapped}
use Rattle.bits.specs.Refusals.{NotMinus}
use Rattle.payload.specs.Count.{vertex_count, index_count, cubemap_vertex_count, cubemap_index_count}
use Rattle.payload.specs.MeshRead.{read_meshes}
use Rattle.payload.specs.MeshDrawing.{point_total}
use Rattle.viewer.specs.Number.{number}

-- of each call, what its contract says that it answers
pub record NeverSixteen : Type 0 where
  pub vertex_count_law : (rings sectors : ℕ) → NotMinus 16 (number (vertex_count rings sectors))
  pub index_count_law : (rings sectors : ℕ) → NotMinus 16 (number (index_count rings sectors))
  pub cubemap_vertex_count_law : (cells : ℕ) → NotMinus 16 (number (cubemap_vertex_count cells))
  pub cubemap_index_count_law : (cells : ℕ) → NotMinus 16 (number (cubemap_index_count cells))
  pub measure_meshes : (s : List ℕ) → NotMinus 16 (number (limited s (mapped point_total (read_meshes s))))
