-- `capi_show` meets its contract. Assumes nothing.
use Rattle.std.proofs.Common.{arith}
use Rattle.display.specs.ShownRules.{showing}
use Rattle.capi.proofs.Handed.{handed}
use Rattle.capi.proofs.ShownListLaws.{few_said, few_left, list_said, list_left}
use Rattle.capi.proofs.shown.capi_show.Goals as goal

pub returns-then-list-lt64 : goal.returns-then-list-lt64
returns-then-list-lt64 c =
    let a = c.args in
    let q = showing a.number in
    let h = c.hand_out in
    let said = few_said a.records.now a.list.now a.count a.total q (omega arith) in
    let r = handed _ h.type_inv h.ensures.answer h.ensures.words c.need.ensures said in
    let left = few_left a.records.now a.list.now a.count a.total q (omega arith) in
    record { answer = r.0; words = r.1; buffers = left }

pub returns : goal.returns
returns c =
    let a = c.args in
    let q = showing a.number in
    let h = c.hand_out-2 in
    let e = c.list_of.ensures in
    let d = c.show-answer.ensures in
    let s = c.of_shown.ensures in
    let said = list_said a.records.now a.list.now a.count a.total q (omega arith) _ e _ _ d.answer d.list in
    let r = handed _ h.type_inv h.ensures.answer h.ensures.words s.answer said in
    let left = list_left a.records.now a.list.now a.count a.total q (omega arith) _ e _ _ d.answer d.list _ s.buffer in
    record { answer = r.0; words = r.1; buffers = left }
