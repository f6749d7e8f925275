-- `float_bits` meets its contract: the bits of a NaN are one pattern. Assumes nothing.
use Rattle.std.proofs.Common.{◌≡◌, true, false, not, T, sym, refl, ◌∙◌, true≢false}
use lib.Ieee.{Float, nan, inf, fin, is_nan, to_bits}
use Rattle.bits.specs.Float.{bits_of}
use Rattle.bits.proofs.floats.float_bits.Goals as goal

not-nan : (x : Float) → is_nan x ≡ false → T (not (is_nan x))
not-nan x e = rw e tt

nan_pattern : (x : Float) → is_nan x ≡ true → 2143289344 ≡ bits_of x
unfolding is_nan to_bits
nan_pattern nan e = refl
nan_pattern (inf s) e = absurd (true≢false (sym e))
nan_pattern (fin s m k) e = absurd (true≢false (sym e))

pub float_to_bits-result : goal.float_to_bits-result
float_to_bits-result c = not-nan c.args.x (sym c.is_nan.ensures.value ∙ c.if-is_nan.false)

pub returns-then-is_nan : goal.returns-then-is_nan
returns-then-is_nan c = nan_pattern c.args.x (sym c.is_nan.ensures.value ∙ c.if-is_nan.true)
