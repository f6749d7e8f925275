-- `long_extent` meets its contract. Assumes nothing.
use Rattle.std.proofs.Common.{◌∙◌}
use Rattle.bits.proofs.SaysLaws.{passed}
use Rattle.bits.proofs.HeaderLaws.{long_refused, long_value, long_room}
use Rattle.bits.proofs.headers.long_extent.Goals as goal

pub extent_of-requires : goal.extent_of-requires
extent_of-requires c = long_room c.args.s.now c.args.at _ _ c.in_ok-size.ensures

pub returns-in_err-size : goal.returns-in_err-size
returns-in_err-size c =
    passed _ _ _ c.from_residual.ensures.1 ∙ long_refused c.args.s.now c.args.at c.in_err-size.ensures

pub returns : goal.returns
returns c = c.extent_of.ensures ∙ long_value c.args.s.now c.args.at _ _ c.in_ok-size.ensures
