-- `write_cbmp` meets its contract. Assumes nothing.
use Rattle.std.proofs.Common.{◌≡◌, ℕ, ◌<◌, ◌≤◌, le-leb}
use borrow.Author.Tests.{lt-leb}
use Rattle.bits.specs.Verdict.{accepted, declined}
use Rattle.payload.specs.Cbmp.{cbmp_bytes, cbmp_written}
use Rattle.payload.proofs.LentLaws.{told_declined, told_same}
use Rattle.payload.proofs.cbmp.write_cbmp.Goals as goal

large : (p : ℕ) → 4096 < p → cbmp_written p ≡ declined 5
unfolding cbmp_written
large p h = simp (lt-leb p 4096 h)

small : (p : ℕ) → p ≤ 4096 → cbmp_written p ≡ accepted (cbmp_bytes p)
unfolding cbmp_written
small p h = simp (le-leb p 4096 h)

pub returns-then-padding-gt4096 : goal.returns-then-padding-gt4096
returns-then-padding-gt4096 c = let a = c.args in let r = told_declined 1 _ a.out.now 5 (large a.padding c.if-padding-gt4096.true) in record { answer = r.0; buffers = r.1 }

pub returns : goal.returns
returns c =
    let a = c.args in let r = told_same 1 _ a.out.now (cbmp_bytes a.padding) _ _ (small a.padding c.if-padding-gt4096.false)
    (c.fill_words.ensures.answer, c.fill_words.ensures.buffers) in record { answer = r.0; buffers = r.1 }
