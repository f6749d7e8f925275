-- The case of specs/ShownMarked.antt, by computation. Assumes nothing.
use mathlib.Core.Path.{refl}
use Rattle.payload.specs.MeshWrite.{all_of}
use Rattle.payload.specs.Records.{records_in}
use Rattle.display.specs.ShownRules.{points_of, without, ruled}
use Rattle.display.specs.ShownKept.{distinct, shown_usable, called, keeping, kept_after, kept_said}
use Rattle.display.specs.ShownMarked.{ShownMarked}

pub shown_marked : ShownMarked
unfolding kept_after kept_said called keeping shown_usable ruled points_of records_in without distinct all_of
shown_marked = record { order = refl; total = refl; said = refl }
