-- `judge` meets its contract. Assumes nothing.
use mathlib.Core.Path.{ap, ◌∙◌}
use Rattle.bits.specs.Verdict.{accepted}
use Rattle.display.proofs.ShownSumLaws.{usable_told}
use Rattle.display.proofs.ShownCallLaws.{judged_list, judged_number, judged_place}
use Rattle.display.proofs.shown.Shown.judge.Goals as goal

pub returns-then-not-is_usable : goal.returns-then-not-is_usable
returns-then-not-is_usable c = let a = c.args in judged_list a.records.now a.self.now a.number (cc)

pub returns-then-not-is_record : goal.returns-then-not-is_record
returns-then-not-is_record c = let a = c.args in judged_number a.records.now a.self.now a.number (cc)

pub numbers-requires : goal.numbers-requires
numbers-requires c = (usable_told c.args.records.now c.args.self.now (cc)).few

pub returns : goal.returns
returns c =
    let a = c.args in
    ap accepted c.place_of.ensures ∙ rw c.numbers.ensures (judged_place a.records.now a.self.now a.number (cc) (cc))
