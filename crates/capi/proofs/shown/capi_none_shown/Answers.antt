-- `capi_none_shown` meets its contract. Assumes nothing.
use Rattle.std.proofs.Common.{arith}
use Rattle.capi.proofs.Handed.{handed}
use Rattle.capi.proofs.ShownListLaws.{none_few_said, none_few_left, none_said, none_left}
use Rattle.capi.proofs.shown.capi_none_shown.Goals as goal

pub returns-then-list-lt64 : goal.returns-then-list-lt64
returns-then-list-lt64 c =
    let l = c.args.list.now in
    let h = c.hand_out in
    let r = handed _ h.type_inv h.ensures.answer h.ensures.words c.need.ensures (none_few_said l (omega arith)) in
    record { answer = r.0; words = r.1; buffers = none_few_left l (omega arith) }

pub returns : goal.returns
returns c =
    let l = c.args.list.now in
    let h = c.hand_out-2 in
    let e = c.none_shown.ensures in
    let p = c.put_list.ensures in
    let r = handed _ h.type_inv h.ensures.answer h.ensures.words p.answer (none_said l (omega arith) _ e) in
    record { answer = r.0; words = r.1; buffers = none_left l (omega arith) _ e _ p.buffer }
