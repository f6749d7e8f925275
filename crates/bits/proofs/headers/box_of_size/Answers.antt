-- `box_of_size` meets its contract: a long size, a bad one, and a good one. Assumes nothing.
use Rattle.std.proofs.Common.{ℕ, sym, ap, ◌∙◌, arith}
use Rattle.bits.specs.Verdict.{accepted, declined, mapped}
use Rattle.bits.specs.Header.{box}
use Rattle.bits.proofs.HeaderLaws.{sized_long, sized_short, extent_refused}
use Rattle.bits.proofs.headers.box_of_size.Goals as goal

pub returns-then-size-eq1 : goal.returns-then-size-eq1
returns-then-size-eq1 c =
    let a = c.args in
    c.long_header.ensures ∙ sym (sized_long a.s.now a.at a.size a.fourcc (omega arith))

pub returns-in-Err : goal.returns-in-Err
returns-in-Err c =
    let a = c.args in
    let bad = extent_refused _ _ _ _ c.in-Err.ensures in
    ap (mapped (λ (e : ℕ × ℕ). box a.fourcc (accepted e))) (ap declined (sym bad) ∙ c.in-Err.ensures)
    ∙ sym (sized_short a.s.now a.at a.size a.fourcc (omega arith))

pub returns-in-Ok : goal.returns-in-Ok
returns-in-Ok c =
    let a = c.args in
    ap (mapped (λ (e : ℕ × ℕ). box a.fourcc (accepted e))) c.in-Ok.ensures
    ∙ sym (sized_short a.s.now a.at a.size a.fourcc (omega arith))
