-- `fill_uv_row` meets its contract: the vertices before sector are put. Assumes nothing.
use Rattle.payload.specs.Sphere.{grid_uv}
use Rattle.payload.proofs.FillLaws.{Placed}
use Rattle.payload.proofs.sphere.fill_uv_row.Given as goal

abbrev pub invariant-loop-sector : goal.invariant-loop-sector
invariant-loop-sector l = Placed (grid_uv l.grid.rings l.grid.sectors l.ring) l.initial.out l.at l.out l.to l.sector
