-- `one_field` meets its contract: the read of a field that is there gives it. Assumes nothing.
use Rattle.bits.proofs.ReadLaws.{known_value, known_whole}
use Rattle.payload.proofs.mesh.fields.one_field.Goals as goal

pub returns-in-Ok : goal.returns-in-Ok
returns-in-Ok c = let a = c.args in known_value a.s.now a.bit a.width _ _ c.in-Ok.ensures

pub returns-in-Err : goal.returns-in-Err
returns-in-Err c =
    absurd (known_whole c.args.s.now c.args.bit c.args.width c.requires.0 c.requires.1 c.requires.2 _ c.in-Err.ensures)
