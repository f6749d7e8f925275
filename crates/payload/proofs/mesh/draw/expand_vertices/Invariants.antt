-- `expand_vertices` meets its contract. The invariant: storing the words that are left gives the same as storing all at first. Assumes nothing.
use Rattle.std.proofs.Common.{◌≡◌, ℕ, ◌+◌, ◌-◌, List, length}
use lib.Seq.{sets}
use Rattle.payload.specs.Internal.{word_at, words_from}
use Rattle.payload.proofs.mesh.draw.expand_vertices.Given as goal

pub record Inv (f : ℕ → ℕ) (base count at : ℕ) (words₀ words : List ℕ) (i : ℕ) : Type 0 where
  pub same : sets words₀ at (words_from f base count) ≡ sets words (at + i) (words_from f (base + i) (count - i))
  pub long : length words ≡ length words₀

abbrev pub invariant-loop-i : goal.invariant-loop-i
invariant-loop-i l = Inv (word_at l.s l.numbers) l.base l.count l.at l.initial.words l.words l.i
