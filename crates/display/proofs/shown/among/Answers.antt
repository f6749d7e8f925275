-- `among` meets its contract. Assumes nothing.
use mathlib.Core.Path.{◌∙◌}
use Rattle.display.proofs.ShownListLaws.{among_is}
use Rattle.display.proofs.shown.among.Goals as goal

pub returns : goal.returns
returns c = c.contains.ensures.value ∙ among_is c.args.number c.args.list.now
