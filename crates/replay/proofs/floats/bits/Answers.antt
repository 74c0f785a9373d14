-- `replay::floats::bits`: a number that equals itself is no NaN, so it has bits. Assumes nothing.
use Rattle.std.proofs.Common.{not, T, sym, subst}
use lib.Ieee.{Float, nan, inf, fin, eq, is_nan}
use Rattle.replay.proofs.floats.bits.Goals as goal

no_nan : (x : Float) → T (eq x x) → T (not (is_nan x))
unfolding eq is_nan
no_nan nan t = absurd t
no_nan (inf s) t = tt
no_nan (fin s m e) t = tt

pub float_to_bits-result : goal.float_to_bits-result
float_to_bits-result c = no_nan c.rebuilt-number.result (subst T (sym c.if-number.true) tt)
