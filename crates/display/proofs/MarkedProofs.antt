-- The cases of specs/Marked.antt, by computation. Assumes nothing.
use mathlib.Core.Path.{refl}
use Rattle.payload.specs.Fill.{each}
use Rattle.payload.specs.Records.{records_in}
use Rattle.display.specs.Triangles.{triangle_count, corners, record_triangles, triangles_of, all_usable, triangles_made}
use Rattle.display.specs.Marked.{Marked}

pub marked : Marked
unfolding each records_in triangle_count corners record_triangles triangles_of all_usable triangles_made
marked =
    record {
      threes = refl;
      strip = refl;
      fan = refl;
      two_points = refl;
      no_records = refl;
      torn = refl;
      torn_later = refl;
      mode_three = refl;
      last_point = refl;
      past = refl;
      most = refl;
      too_many = refl;
    }
