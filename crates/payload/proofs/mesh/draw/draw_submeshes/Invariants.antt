-- `draw_submeshes` meets its contract. The invariant: storing the words of the submeshes that are left gives the same as storing all at first. Assumes nothing.
use Rattle.std.proofs.Common.{◌≡◌, ℕ, ◌+◌, ◌*◌, ◌≤◌, List, length}
use lib.Seq.{sets}
use Rattle.payload.specs.MeshDrawing.{submesh_words, point_count}
use Rattle.payload.specs.Internal.{word_at, Pooled, ExpandedFrom}
use Rattle.payload.specs.InternalWalk.{submeshes_in}
use Rattle.payload.specs.declared.mesh.submeshes.SubmeshWalk.{SubmeshWalk}
use Rattle.payload.proofs.mesh.draw.draw_submeshes.Given as goal

pub record Inv (s numbers : List ℕ) (base : ℕ) (words₀ all : List ℕ) (end expanded : ℕ) (words : List ℕ) (left : SubmeshWalk) (to : ℕ) : Type 0 where
  pub body : left.s.now ≡ s
  pub same : all ≡ sets words to (submesh_words (word_at s numbers) base (submeshes_in left))
  pub place : end ≡ to + 5 * point_count (submeshes_in left)
  pub room : to + 5 * point_count (submeshes_in left) ≤ length words
  pub long : length words ≡ length words₀
  pub pooled : Pooled s numbers base (5 * left.rest.vertices)
  pub vertices : ExpandedFrom to s numbers base (5 * left.rest.vertices) words expanded

abbrev pub invariant-loop-submesh : goal.invariant-loop-submesh
invariant-loop-submesh l =
    let all = l.fn.submeshes in
    Inv all.s.now l.numbers l.base l.initial.words (sets l.initial.words l.at (submesh_words (word_at all.s.now l.numbers) l.base (submeshes_in all)))
    (l.at + 5 * point_count (submeshes_in all)) l.expanded l.words l.submesh-iterator l.to
