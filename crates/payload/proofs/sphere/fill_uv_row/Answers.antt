-- `fill_uv_row` meets its contract: the vertices before sector are put. Assumes nothing.
use Rattle.std.proofs.Common.{◌≡◌, ℕ, ◌+◌, [], ◌∷◌, ap, ◌∙◌, arith}
use Rattle.bits.specs.Float.{bits_of}
use Rattle.payload.specs.Sphere.{uv_row}
use Rattle.payload.proofs.FillLaws.{placed_none, placed_room, placed_more, placed_all}
use Rattle.payload.proofs.SphereLaws.{sides_fit}
use Rattle.payload.proofs.sphere.fill_uv_row.Goals as goal

two : {u v u' v' : ℕ} → u ≡ u' → v ≡ v' → u ∷ v ∷ [] ≡ u' ∷ v' ∷ []
two p q = cc

pub overflow_add-sector-end : goal.overflow_add-sector-end
overflow_add-sector-end c = let g = c.args.grid in omega (arith, sides_fit g.rings g.sectors g.usable)

pub loop-sector-init : goal.loop-sector-init
loop-sector-init c = placed_none

pub small_ratio-requires : goal.small_ratio-requires
small_ratio-requires c = let g = c.args.grid in let f = sides_fit g.rings g.sectors g.usable in (omega (arith, f), omega (arith, f))

pub put-to-requires : goal.put-to-requires
unfolding uv_row
put-to-requires c =
    let e = two (c.float_bits-u.ensures ∙ ap bits_of c.small_ratio.ensures) c.v_bits-v.ensures in
    placed_room c.loop-sector.invariant (c.args.grid.sectors + 1) e (omega arith) c.requires

pub loop-sector-preserved : goal.loop-sector-preserved
loop-sector-preserved c =
    let e = two (c.float_bits-u.ensures ∙ ap bits_of c.small_ratio.ensures) c.v_bits-v.ensures in
    placed_more c.loop-sector.invariant e c.put-to.ensures.place c.put-to.ensures.stored

pub returns : goal.returns
unfolding uv_row
returns c =
    let r = placed_all c.loop-sector.invariant (c.args.grid.sectors + 1) (omega arith) in
    record { place = r.place; floats = r.items }
