-- `triangles` meets its contract. Assumes nothing.
use mathlib.Core.Path.{◌≡◌, sym, ap, ◌∙◌}
use mathlib.Core.List.{List}
use mathlib.Core.Bool.{true}
use Prim.Native.Nat.{ℕ}
use native.Mathlib.Nat.{div-one}
use native.Mathlib.Omega.{arith}
use lib.ListN.{length}
use Rattle.bits.specs.Verdict.{accepted, mapped}
use Rattle.bits.proofs.VerdictLaws.{mapped_value, mapped_declined}
use Rattle.bits.proofs.SaysLaws.{passed_on}
use Rattle.payload.proofs.LentLaws.{told_declined, told_needs, told_filled}
use Rattle.payload.specs.Records.{records_in}
use Rattle.display.specs.Triangles.{triangles_of, records_usable, triangles_made}
use Rattle.display.proofs.JudgeLaws.{made_told}
use Rattle.display.proofs.triangulation.triangles.Goals as goal

-- what was measured
record Told (words : List ℕ) (n : ℕ) : Type 0 where
  fits : records_usable words ≡ true
  made : triangles_made words ≡ accepted (triangles_of (records_in words))
  size : n ≡ length (triangles_of (records_in words))

told : (words : List ℕ) (n : ℕ) → accepted n ≡ mapped length (triangles_made words) → Told words n
told words n e =
    let t = mapped_value length (triangles_made words) n e in
    let u = made_told words t.0 t.1 in
    record { fits = u.tested; made = t.1 ∙ ap accepted (sym u.is); size = sym t.2 ∙ ap length (sym u.is) }

pub returns-in_err-count : goal.returns-in_err-count
returns-in_err-count c =
    let a = c.args in
    let r = told_declined 1 _ a.out.now _ (mapped_declined length (triangles_made a.records.now) _ c.in_err-count.ensures) in
    record { answer = passed_on _ _ _ _ c.from_residual.ensures.1 ∙ r.0; buffers = r.1 }

pub returns-then-out-count : goal.returns-then-out-count
returns-then-out-count c =
    let a = c.args in
    let t = told a.records.now _ c.in_ok-count.ensures in
    let r = told_needs 1 _ a.out.now _ _ t.made t.size c.if-out-count.true in
    record { answer = r.0; buffers = r.1 }

pub fill-requires : goal.fill-requires
fill-requires c =
    let t = told c.args.records.now _ c.in_ok-count.ensures in (t.fits, omega (arith, t.size, c.if-out-count.false))

pub returns : goal.returns
returns c =
    let a = c.args in
    let t = told a.records.now _ c.in_ok-count.ensures in
    let r = told_filled 1 _ a.out.now _ _ _ t.made (t.size ∙ sym (div-one _)) (omega (arith, t.size, c.if-out-count.false))
    c.fill.ensures in
    record { answer = r.0; buffers = r.1 }
