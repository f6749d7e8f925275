-- `next_mesh` meets its contract. The invariant: what is found from here is what is found from the start. Assumes nothing.
use Rattle.std.proofs.Common.{◌≡◌, sym, refl, ap, ◌∙◌, arith}
use Rattle.bits.specs.Header.{sized, header_at, header_says}
use Rattle.bits.specs.Verdict.{accepted}
use Rattle.payload.proofs.PlaceLaws.{next_end, next_declined, next_refused, next_mesh, next_other, header_on}
use Rattle.payload.proofs.mesh.places.next_mesh.Goals as goal

pub loop-fourcc-init : goal.loop-fourcc-init
loop-fourcc-init c = refl

pub returns-in-ListEnd : goal.returns-in-ListEnd
returns-in-ListEnd c =
    let l = c.loop-fourcc in
    sym (l.invariant ∙ next_end c.args.s.now l.at (sym c.box_header.ensures ∙ ap header_says c.in-ListEnd.is))

pub returns-in-BadSize : goal.returns-in-BadSize
returns-in-BadSize c =
    let l = c.loop-fourcc in
    sym (l.invariant ∙ next_declined c.args.s.now l.at 6 (sym c.box_header.ensures ∙ ap header_says c.in-BadSize.is))

pub returns-then-fourcc-eq-MESH : goal.returns-then-fourcc-eq-MESH
returns-then-fourcc-eq-MESH c =
    let header : header_at c.args.s.now c.loop-fourcc.at ≡ accepted (sized c.in-Header.fourcc c.in-Header.body c.in-Header.end) = sym c.box_header.ensures ∙ ap header_says c.in-Header.is in sym (c.loop-fourcc.invariant ∙ next_mesh c.args.s.now _ _ _ _ header c.if-fourcc-eq-MESH.true)

pub loop-fourcc-smaller : goal.loop-fourcc-smaller
loop-fourcc-smaller c =
    let header : header_at c.args.s.now c.loop-fourcc.at ≡ accepted (sized c.in-Header.fourcc c.in-Header.body c.in-Header.end) = sym c.box_header.ensures ∙ ap header_says c.in-Header.is in
    let b = header_on _ _ _ _ _ header in omega (arith, b.0, b.1, b.2)

pub loop-fourcc-preserved : goal.loop-fourcc-preserved
loop-fourcc-preserved c =
    let header : header_at c.args.s.now c.loop-fourcc.at ≡ accepted (sized c.in-Header.fourcc c.in-Header.body c.in-Header.end) = sym c.box_header.ensures ∙ ap header_says c.in-Header.is in c.loop-fourcc.invariant ∙ next_other c.args.s.now _ _ _ _ header c.if-fourcc-eq-MESH.false

pub returns-in-Refused : goal.returns-in-Refused
returns-in-Refused c =
    let l = c.loop-fourcc in
    sym (l.invariant ∙ next_refused c.args.s.now l.at _ _
    (sym c.box_header.ensures ∙ ap header_says c.in-Refused.is))
