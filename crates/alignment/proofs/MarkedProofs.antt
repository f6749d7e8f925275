-- The cases of specs/Marked.antt, by computation. Assumes nothing.
use mathlib.Core.Path.{refl}
use lib.Ieee.{of_bits, of_fields, odd}
use Rattle.bits.specs.Verdict.{limited, width_limited, within}
use Rattle.bits.specs.Field.{bit_at, field}
use Rattle.bits.specs.Number.{ran_on, least_from, width_of}
use Rattle.bits.specs.Header.{extent_of, long_extent, sized_at, header_at}
use Rattle.bits.specs.Run.{complete, read_run}
use Rattle.payload.specs.MeshRead.{in_range, if_finite, many, read_submesh, read_submeshes, after_vertices, after_pool_count}
use Rattle.payload.specs.MeshRead.{read_mesh, read_boxes, read_from}
use Rattle.payload.specs.MeshWrite.{all_of}
use Rattle.payload.specs.Places.{next_in, next_body, submesh_from, standing_from, submesh_found}
use Rattle.alignment.specs.Walk.{step, walk}
use Rattle.alignment.specs.LookUp.{farthest, looked_up_in, looked_up}
use Rattle.alignment.specs.Marked.{Marked}

pub marked : Marked
unfolding limited read_from read_boxes read_mesh after_pool_count after_vertices read_submeshes read_submesh many in_range if_finite of_bits of_fields odd complete read_run header_at sized_at long_extent extent_of within width_limited width_of least_from ran_on field bit_at next_in next_body submesh_from standing_from submesh_found all_of step walk farthest looked_up_in looked_up
marked =
    record {
      m1 = refl;
      turned = refl;
      first = refl;
      no_question = refl;
      second = refl;
      most = refl;
      too_many = refl;
      past = refl;
      no_record = refl;
      no_record_asked = refl;
      no_list = refl;
      refused = refl;
      third = refl;
    }
