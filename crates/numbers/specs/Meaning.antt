-- What a number means (document 01): sign, integer, fraction, fraction digits, exponent, uncertainty; and the digit
-- limits, judged by counts. Assumes nothing.
use Rattle.std.specs.Prelude.{ℕ, not, cond, ◌&&◌, List, eqb, length}
use Rattle.rules.specs.declared.Reading.{Reading}
use Rattle.numbers.specs.declared.Decimal.{Decimal}
use Rattle.numbers.specs.declared.Number.{Number}
use Rattle.numbers.specs.declared.Number.TheVariants.{Not, Is, Over}
use Rattle.numbers.specs.Parts.{Parts, parts, counts_as, within, minus}
use Rattle.cuts.specs.Digits.{value}

-- absent digits mean 0; an exponent of 0 has no sign
unfoldable pub meaning : Parts → Decimal
meaning p =
    record {
      minus = minus p.sgn;
      integer = value p.int;
      fraction = value p.frac;
      places = length p.frac;
      lowers = minus p.exp.signed && not (eqb (value p.exp.run) 0);
      exponent = value p.exp.run;
      uncertain = p.unc.here;
      uncertainty = value p.unc.run;
    }

-- only a word that is a number is judged by the limits
unfoldable pub judged : Reading → Parts → Number
judged r p = cond (counts_as r p) (cond (within p) (Is (meaning p)) Over) Not

-- what a word says as a number
unfoldable pub number_of : Reading → List ℕ → Number
number_of r w = judged r (parts w)
