-- The parts that the bytes between a word's cuts are; `proofs/Bridge.antt` shows that these are the parts of
-- `Parts.antt`. Assumes nothing.
use Rattle.std.specs.Prelude.{ℕ, Bool, ◌||◌, List, drop}
use Rattle.text.specs.Bytes.{is_digit, is, plus_sign, minus_sign, full_stop}
use Rattle.cuts.specs.declared.Cuts.{Cuts}
use Rattle.cuts.specs.declared.Extent.{Extent}
use Rattle.cuts.specs.Digits.{piece}
use Rattle.numbers.specs.Parts.{Part, Parts}

-- what a number may start with: a digit, a sign, the point
unfoldable pub starts_number : ℕ → Bool
starts_number b = is_digit b || (is plus_sign b || (is minus_sign b || is full_stop b))

-- the part that lies at an extent
unfoldable pub part_of : List ℕ → Extent → Part
part_of w x =
    record {
      here = x.here;
      signed = piece w x.sign x.digits;
      run = piece w x.digits x.end;
      left = drop x.next w;
    }

-- the parts that lie between cuts
unfoldable pub parts_of : List ℕ → Cuts → Parts
parts_of w k =
    record {
      sgn = piece w 0 k.sign;
      int = piece w k.sign k.integer;
      frac = piece w k.point k.fraction;
      exp = part_of w k.exponent;
      unc = part_of w k.bracket;
    }
