-- The cases of specs/TextureMarked.antt, by computation. Assumes nothing.
use Rattle.std.proofs.Common.{refl}
use lib.Ieee.{of_bits, of_fields, odd}
use Rattle.bits.specs.Verdict.{limited, within}
use Rattle.bits.specs.Field.{bit_at, field}
use Rattle.bits.specs.Number.{ran_on, least_from, width_of}
use Rattle.bits.specs.Header.{extent_of, long_extent, sized_at, header_at}
use Rattle.bits.specs.Run.{complete, read_run}
use Rattle.payload.specs.MeshRead.{in_range, if_finite, many, read_submesh, read_submeshes, after_vertices, after_pool_count, read_mesh, read_boxes, read_from}
use Rattle.payload.specs.Internal.{read_words, after_counts}
use Rattle.payload.specs.MeshDrawing.{run_words, submesh_records, records_from, first_eye}
use Rattle.payload.specs.Records.{records_in}
use Rattle.payload.specs.Firsts.{note, noted}
use Rattle.payload.specs.Textures.{points_with, paired, texture_words, textures_found}
use Rattle.payload.specs.TextureMarked.{TextureMarked}

pub texture_marked : TextureMarked
unfolding limited read_from read_boxes read_mesh after_pool_count after_counts after_vertices read_words read_submeshes read_submesh many in_range if_finite of_bits of_fields odd complete read_run header_at sized_at long_extent extent_of within width_of least_from ran_on field bit_at run_words submesh_records records_from first_eye records_in note noted points_with paired texture_words textures_found
texture_marked = record { several = refl; no_list = refl; one_box_law = refl; two_boxes_law = refl; refused = refl; infinite = refl; third = refl }
