-- `joined` meets its contract: what is lost above was out already. Assumes nothing.
use Rattle.payload.proofs.WriterLaws.{joined_fits, joined_is}
use Rattle.payload.proofs.mesh.write.BitWriter.joined.Goals as goal

pub overflow_add-result : goal.overflow_add-result
overflow_add-result c =
    let a = c.args in
    record { fits = joined_fits a.self.held a.width a.value c.requires.1 c.requires.2 }

pub returns : goal.returns
returns c =
    let a = c.args in
    joined_is a.self.held a.self.bits a.width a.value c.requires.0 c.requires.1 c.requires.2
