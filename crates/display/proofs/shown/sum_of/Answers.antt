-- `sum_of` meets its contract: the sum so far, and what is left. Assumes nothing.
use mathlib.Core.Path.{sym, ap, ◌∙◌}
use Prim.Native.Nat.{ℕ, ◌+◌}
use native.Mathlib.Omega.{arith}
use lib.ListN.{drop}
use Rattle.std.proofs.lemmas.List.{take_rest}
use Rattle.display.specs.InternalShown.{summed_from}
use Rattle.display.proofs.ShownSumLaws.{summed_end, summed_foreign, summed_twice, summed_on}
use Rattle.display.proofs.shown.sum_of.Goals as goal

pub returns-then-not-is_record : goal.returns-then-not-is_record
returns-then-not-is_record c =
    let a = c.args in
    let l = c.loop-i in
    sym (l.invariant.1 ∙ summed_foreign a.records.now l.total a.list.now l.i (omega arith) (cc))

pub returns-then-among : goal.returns-then-among
returns-then-among c =
    let a = c.args in
    let l = c.loop-i in
    let e = rw take_rest at c.among.ensures in
    sym (l.invariant.1 ∙ summed_twice a.records.now l.total a.list.now l.i (omega arith) (cc))

pub loop-i-preserved : goal.loop-i-preserved
loop-i-preserved c =
    let a = c.args in
    let l = c.loop-i in
    let e = rw take_rest at c.among.ensures in (
      omega arith,
      l.invariant.1
          ∙ summed_on a.records.now l.total a.list.now l.i (omega arith) (cc) (cc)
          ∙ ap (λ (k : ℕ). summed_from a.records.now (l.total + k) (drop (l.i + 1) a.list.now)) (sym c.points_of.ensures),
    )

pub returns : goal.returns
returns c =
    let a = c.args in
    let l = c.loop-i in
    sym (l.invariant.1 ∙ summed_end a.records.now l.total a.list.now l.i (omega arith))
