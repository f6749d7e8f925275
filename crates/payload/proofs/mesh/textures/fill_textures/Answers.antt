-- `fill_textures` meets its contract: the buffer is too short, or the words are stored. Assumes nothing.
use Rattle.std.proofs.Common.{refl, arith}
use Rattle.payload.specs.Internal.{meshes_from}
use Rattle.payload.proofs.TallyLaws.{tally_none, pair_room, list_short, list_filled}
use Rattle.payload.proofs.mesh.textures.fill_textures.Goals as goal

pub count_textures-requires : goal.count_textures-requires
count_textures-requires c = (c.requires.0, c.requires.1, tally_none _ refl refl refl refl)

pub returns-then-out-n : goal.returns-then-out-n
returns-then-out-n c =
    let a = c.args in let r = list_short (meshes_from a.payload.now 0) c.count_textures.ensures a.out.now (omega arith) in record { answer = r.0; buffers = r.1 }

pub put-requires : goal.put-requires
put-requires c = pair_room c.count_textures.ensures _ (omega arith)

pub returns : goal.returns
returns c =
    let a = c.args in let r = list_filled (meshes_from a.payload.now 0) c.count_textures.ensures a.out.now (omega arith) _ c.put.ensures in record { answer = r.0; buffers = r.1 }
