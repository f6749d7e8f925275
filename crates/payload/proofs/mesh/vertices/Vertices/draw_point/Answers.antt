-- `draw_point` meets its contract: five stores, one after the other. Assumes nothing.
use Rattle.payload.proofs.FillLaws.{set-five}
use Rattle.payload.proofs.mesh.vertices.Vertices.draw_point.Goals as goal

pub returns : goal.returns
returns c =
    let a = c.args in
    cc (set-five a.words.now a.at c.word_at.result c.word_at-2.result c.word_at-3.result c.word_at-4.result
    c.word_at-5.result)
