-- `points_run` meets its contract: the walk's submesh number j is there. Assumes nothing.
use Rattle.std.proofs.Common.{rules}
use Rattle.payload.proofs.StandingLaws.{nth_run}
use Rattle.payload.proofs.mesh.find.points_run.Goals as goal

pub unwrap-requires : goal.unwrap-requires
unwrap-requires c =
    let r = nth_run c.args.submeshes c.nth.new.self c.args.j c.nth.result c.requires c.nth.ensures.ran in search rules

pub returns : goal.returns
returns c = let r = nth_run c.args.submeshes c.nth.new.self c.args.j c.nth.result c.requires c.nth.ensures.ran in rw c.unwrap.ensures at r
