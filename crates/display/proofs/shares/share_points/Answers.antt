-- `share_points` meets its contract: 26, or the points are dealt from the level that was reached. Assumes nothing.
use mathlib.Core.Path.{sym, ap, ◌∙◌}
use mathlib.Core.List.{List}
use Prim.Native.Nat.{ℕ}
use native.Mathlib.Nat.{div-one}
use native.Mathlib.Omega.{arith}
use lib.Seq.{sets}
use Rattle.payload.proofs.LentLaws.{told_declined, told_needs, told_filled}
use Rattle.display.specs.Turns.{shared, sharing}
use Rattle.display.proofs.TurnProofs.{windows}
use Rattle.display.proofs.SharingLaws.{not_shared, shares_made, shareable_told}
use Rattle.display.proofs.shares.share_points.Goals as goal

pub returns-then-not-shareable : goal.returns-then-not-shareable
returns-then-not-shareable c =
    let a = c.args in
    let r = told_declined 1 (sharing a.points a.wishes.now) a.shares.now 26 (not_shared a.points a.wishes.now (cc)) in
    record { answer = r.0; buffers = r.1 }

pub returns-then-shares-windows : goal.returns-then-shares-windows
returns-then-shares-windows c =
    let a = c.args in
    let r =
    told_needs 1 (sharing a.points a.wishes.now) a.shares.now (shared a.points a.wishes.now) _
    (shares_made a.points a.wishes.now (cc)) (sym (windows a.points a.wishes.now)) (omega arith) in
    record { answer = r.0; buffers = r.1 }

pub level_of-level-requires : goal.level_of-level-requires
level_of-level-requires c = shareable_told c.args.points c.args.wishes.now (cc)

pub returns : goal.returns
returns c =
    let a = c.args in
    let m = windows a.points a.wishes.now in
    let r =
    told_filled 1 (sharing a.points a.wishes.now) a.shares.now (shared a.points a.wishes.now) _ _
    (shares_made a.points a.wishes.now (cc)) (sym (div-one _ ∙ m)) (omega arith)
    (c.deal.ensures ∙ ap (λ (l : List ℕ). sets a.shares.now 0 l) (sym c.level_of-level.ensures)) in
    record { answer = r.0; buffers = r.1 }
