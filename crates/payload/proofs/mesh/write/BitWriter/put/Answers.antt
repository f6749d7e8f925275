-- `put` meets its contract: the field waits, or four bytes go out. Assumes nothing.
use Rattle.std.proofs.Common.{◌-◌, ◌+◌, refl, arith}
use Rattle.payload.proofs.WriterLaws.{put_goes, put_room, put_waits, word_stored}
use Rattle.payload.proofs.mesh.write.BitWriter.put.Goals as goal

pub returns-then-all-lt32 : goal.returns-then-all-lt32
returns-then-all-lt32 c =
    put_waits c.args.out.now c.args.self c.args.width c.args.value c.requires.ready _ refl refl c.joined-held.ensures
    c.if-all-lt32.true

pub slice_bounds-copy_from_slice-end : goal.slice_bounds-copy_from_slice-end
slice_bounds-copy_from_slice-end c =
    put_room c.args.out.now c.args.self c.args.width c.args.value c.requires.ready c.if-all-lt32.false

pub returns : goal.returns
returns c =
    let a = c.args in
    let room = put_room a.out.now a.self a.width a.value c.requires.ready c.if-all-lt32.false in
    let out = word_stored a.out.now _ _ a.self.at (a.self.at + 4 - a.self.at) _ (omega arith) room
    c.copy_from_slice.ensures.after c.to_be_bytes.ensures in
    put_goes a.out.now a.self a.width a.value c.requires.ready _ _ (a.self.bits + a.width - 32)
    (omega (arith, c.if-all-lt32.false)) c.requires.width_bound c.joined-held.ensures out refl refl
