-- `draw_mesh` meets its contract: its coordinate numbers are stored first, and the points' words are found by them. Assumes nothing.
use Rattle.std.proofs.Common.{length}
use Rattle.payload.proofs.HeadLaws.{head_known}
use Rattle.payload.proofs.DrawLaws.{mesh_room, mesh_placed, mesh_stored, mesh_pooled, mesh_drawn}
use Rattle.payload.proofs.mesh.draw.draw_mesh.Goals as goal

pub fill_vertices-requires : goal.fill_vertices-requires
fill_vertices-requires c =
    let K = head_known _ _ c.args.mesh.short c.args.mesh.read c.mesh_head-h.ensures in
    record { vertices_there = K.vertices; count_in_bounds = (mesh_room K c.args.to (length c.args.numbers.now) (length c.args.words.now) c.requires).0 }

pub draw_expanded-end-requires : goal.draw_expanded-end-requires
draw_expanded-end-requires c =
    let K = head_known _ _ c.args.mesh.short c.args.mesh.read c.mesh_head-h.ensures in
    let r = mesh_room K c.args.to (length c.args.numbers.now) (length c.args.words.now) c.requires in
    record { pooled = mesh_pooled K c.args.numbers.now _ c.args.to.numbers c.fill_vertices.ensures.numbers r.0; all_in_bounds = r.1 }

pub returns : goal.returns
returns c =
    let K = head_known _ _ c.args.mesh.short c.args.mesh.read c.mesh_head-h.ensures in
    let r = mesh_room K c.args.to (length c.args.numbers.now) (length c.args.words.now) c.requires in
    let f = c.fill_vertices.ensures.numbers in
    let d = c.draw_expanded-end in
    record { places = mesh_placed K c.args.to d.result d.ensures.place; numbers = mesh_stored K _ _ _ f; floats = mesh_drawn K _ _ _ f r.0 _ _ _ d.ensures.floats }

pub invariant_of-submeshes : goal.invariant_of-submeshes
invariant_of-submeshes c = record { there = (head_known _ _ c.args.mesh.short c.args.mesh.read c.mesh_head-h.ensures).submeshes }
