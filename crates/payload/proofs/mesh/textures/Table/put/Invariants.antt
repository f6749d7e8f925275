-- `put` meets its contract. The invariant: the words of the first i textures are stored. Assumes nothing.
use Rattle.payload.proofs.TallyLaws.{Stored}
use Rattle.payload.proofs.mesh.textures.Table.put.Given as goal

abbrev pub invariant-loop-i : goal.invariant-loop-i
invariant-loop-i l = Stored l.self l.initial.out l.out l.i
