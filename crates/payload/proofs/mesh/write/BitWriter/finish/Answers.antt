-- `finish` meets its contract: the bits that wait are one field more. Assumes nothing.
use Rattle.std.proofs.Common.{◌∙◌, arith}
use Rattle.payload.proofs.WriterLaws.{field_is_put, finish_is, finish_room}
use Rattle.payload.proofs.mesh.write.BitWriter.finish.Goals as goal

pub unwrap-requires : goal.unwrap-requires
unwrap-requires c =
    let r = c.requires.0 in
    field_is_put _ _ _ _ c.put_field.ensures.result_value (omega (arith, r.few))
    (finish_room c.args.out.now c.args.self r)

pub returns : goal.returns
returns c = c.put_field.ensures.out_after ∙ finish_is c.args.out.now c.args.self c.requires.0
