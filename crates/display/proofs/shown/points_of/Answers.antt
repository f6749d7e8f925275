-- `points_of` meets its contract. Assumes nothing.
use mathlib.Core.Path.{sym, ap, ◌∙◌}
use native.Mathlib.Omega.{arith}
use Rattle.payload.specs.declared.mesh.records.Record.{Record}
use Rattle.display.proofs.NumberedRecordLaws.{records-count, points_word}
use Rattle.display.proofs.shown.points_of.Goals as goal

pub record_at-requires : goal.record_at-requires
record_at-requires c = let a = c.args in omega (arith, records-count a.records.now)

pub returns : goal.returns
returns c =
    let a = c.args in
    ap (λ (r : Record). r.points) c.record_at.ensures ∙ sym (points_word a.records.now a.number)
