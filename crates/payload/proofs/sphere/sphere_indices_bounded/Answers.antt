-- `sphere_indices_bounded` meets its contract. Assumes nothing.
use Rattle.std.proofs.Common.{sym, ◌∙◌, div-one, arith}
use Rattle.bits.proofs.SaysLaws.{passed_on}
use Rattle.payload.specs.Sphere.{sphere_numbers}
use Rattle.payload.proofs.LentLaws.{told_declined, told_needs, told_filled}
use Rattle.payload.proofs.sphere.sphere_indices_bounded.Goals as goal

pub returns-in_err-patch : goal.returns-in_err-patch
returns-in_err-patch c =
    let a = c.args in
    let e = c.in_err-patch in
    let r = told_declined 1 (sphere_numbers a.rings a.sectors a.bounds) a.out.now _ (sym e.ensures.numbers) in
    record { answer = passed_on _ _ _ _ c.from_residual.ensures.1 ∙ r.0; buffers = r.1 }

pub returns-then-out-count : goal.returns-then-out-count
returns-then-out-count c =
    let a = c.args in
    let numbers = sphere_numbers a.rings a.sectors a.bounds in
    let n = c.numbers-count in
    let r = told_needs 1 numbers a.out.now _ n.result (sym c.in_ok-patch.ensures.numbers) n.ensures (omega arith) in
    record { answer = r.0; buffers = r.1 }

pub fill_rows-requires : goal.fill_rows-requires
fill_rows-requires c = omega (arith, c.numbers-count.ensures)

pub returns : goal.returns
returns c =
    let a = c.args in
    let numbers = sphere_numbers a.rings a.sectors a.bounds in
    let n = c.numbers-count in
    let r = told_filled 1 numbers a.out.now _ _ n.result (sym c.in_ok-patch.ensures.numbers)
    (n.ensures ∙ sym (div-one _)) (omega (arith, n.ensures)) c.fill_rows.ensures in
    record { answer = r.0; buffers = r.1 }
