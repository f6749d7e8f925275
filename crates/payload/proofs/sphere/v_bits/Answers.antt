-- `v_bits` meets its contract. Assumes nothing.
use Rattle.std.proofs.Common.{◌∙◌, ap₂}
use lib.Ieee.{Float}
use Rattle.bits.specs.Float.{bits_of}
use Rattle.payload.specs.Float.{f1, ◌⊖◌, ◌⊘◌}
use Rattle.payload.proofs.sphere.v_bits.Goals as goal

pub returns : goal.returns
returns c = c.float_bits.ensures ∙ ap₂ (λ (x n : Float). bits_of (f1 ⊖ x ⊘ n)) c.nearest_f32-x.ensures c.nearest_f32-n.ensures
