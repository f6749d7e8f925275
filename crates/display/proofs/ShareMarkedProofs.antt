-- The worked cases, computed.
use mathlib.Core.Path.{refl}
use Rattle.display.specs.Turns.{gets, after_turn, left_after_turn, turns, shared}
use Rattle.display.specs.ShareMarked.{ShareMarked}

pub marked : ShareMarked
unfolding shared turns after_turn left_after_turn gets
marked = record { whole_turns = refl; cut_short = refl; all_met = refl }
