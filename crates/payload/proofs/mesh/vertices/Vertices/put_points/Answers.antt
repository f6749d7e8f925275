-- `put_points` meets its contract, by copies and from the pool. Assumes nothing.
use Rattle.std.proofs.Common.{arith}
use Rattle.payload.proofs.ExpandedLaws.{points_expanded}
use Rattle.payload.proofs.mesh.vertices.Vertices.put_points.Goals as goal

pub copy_points-requires : goal.copy_points-requires
copy_points-requires c =
    let q = c.requires in
    record {
      points_expanded =
          λ i l. omega (arith, (q.expanded_from (omega arith)).there, q.points_below i l);
      points_bound =
          c.if-expanded-at.false;
    }

pub returns : goal.returns
returns c =
    let q = c.requires in
    record {
      floats = points_expanded (q.expanded_from (omega arith)) c.args.points.now c.args.at _ q.points_below
          c.copy_points.ensures.floats;
    }
