-- m1, a list of two and damaged copies, by computation. Assumes nothing.
use Rattle.std.proofs.Common.{refl}
use lib.Ieee.{of_bits, of_fields, odd}
use Rattle.bits.specs.Verdict.{within}
use Rattle.bits.specs.Field.{bit_at, field}
use Rattle.bits.specs.Number.{ran_on, least_from, width_of}
use Rattle.bits.specs.Header.{extent_of, long_extent, sized_at, header_at}
use Rattle.bits.specs.Run.{complete, read_run}
use Rattle.payload.specs.MeshRead.{in_range, if_finite, many, read_submesh, read_submeshes, after_vertices, after_pool_count, read_mesh, read_boxes, read_from}
use Rattle.payload.specs.Internal.{read_words, after_counts}
use Rattle.bits.specs.Put.{bytes_of}
use Rattle.payload.specs.MeshDrawing.{drawn_numbers, drawn_floats, submesh_words, run_words, submesh_records, records_from, first_eye}
use Rattle.payload.specs.Packed.{bits, fields_number, packed}
use Rattle.payload.specs.MeshWrite.{step_field, word_fields, run_fields, submesh_fields, submeshes_fields, vertex_fields, mesh_fields, mesh_body, mesh_box, submeshes_of, every, all_of, row_within, rows_within, row_points, is_mesh, mesh_written}
use Rattle.payload.specs.MeshMarked.{MeshMarked}

pub mesh_marked : MeshMarked
unfolding read_from read_boxes read_mesh after_pool_count after_counts after_vertices read_words read_submeshes read_submesh many in_range if_finite of_bits of_fields odd complete read_run header_at sized_at long_extent extent_of within width_of least_from ran_on field bit_at drawn_numbers drawn_floats submesh_words run_words submesh_records records_from first_eye step_field word_fields run_fields submesh_fields submeshes_fields vertex_fields mesh_fields mesh_body mesh_box submeshes_of every all_of row_within rows_within row_points is_mesh mesh_written bits fields_number packed bytes_of
mesh_marked = record { m1 = refl; m1_past = refl; m1_below = refl; m1_above = refl; m1_none = refl; m1_short = refl; m1_two = refl; m1_empty = refl; m1_numbers = refl; m1_floats = refl; m1_records = refl; m1_written = refl; m1_uneven = refl; m1_texture = refl; m1_outside = refl; m1_order = refl; m1_order_2 = refl; word_infinite = refl; word_nan = refl; word_before_cut = refl; word_cut = refl; word_before_count = refl; word_written = refl; word_no_mesh = refl; m1_record = refl; third_before_size = refl; third = refl; third_past = refl; third_after = refl; third_type = refl; third_sized = refl; third_damaged = refl; third_empty = refl; long = refl; long_short = refl; long_skipped = refl; long_small = refl; long_past = refl; long_high = refl; long_empty = refl; long_cut = refl; long_cut_first = refl; long_none = refl; third_cut = refl; third_small = refl; size_none = refl }
