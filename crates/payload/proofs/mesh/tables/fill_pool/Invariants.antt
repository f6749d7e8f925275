-- `fill_pool` meets its contract: what is left of the words goes to what is left of the buffer. Assumes nothing.
use Rattle.std.proofs.Common.{◌≡◌, ℕ, ◌+◌, ◌-◌, ◌*◌, List, length}
use lib.Seq.{sets}
use Rattle.payload.specs.Internal.{read_words}
use Rattle.payload.proofs.mesh.tables.fill_pool.Given as goal

pub record Inv (s : List ℕ) (n : ℕ) (out₀ out : List ℕ) (i : ℕ) : Type 0 where
  pub same : sets out₀ 0 (read_words s 32 n) ≡ sets out i (read_words s (32 + 32 * i) (n - i))
  pub long : length out ≡ length out₀

abbrev pub invariant-loop-i : goal.invariant-loop-i
invariant-loop-i l = Inv l.s l.n l.initial.out l.out l.i
