-- `check_leaves::leaves::number_record`: a number has few fraction digits. Assumes nothing.
use Prim.Native.Nat.{ℕ, ◌<◌}
use mathlib.Core.Path.{◌≡◌, sym, ◌∙◌}
use mathlib.Core.List.{List}
use native.Mathlib.Omega.{arith}
use Rattle.rules.specs.declared.Reading.TheVariants.{First}
use Rattle.numbers.specs.declared.Decimal.{Decimal}
use Rattle.numbers.specs.declared.Number.TheVariants.{Is}
use Rattle.numbers.specs.Meaning.{number_of}
use Rattle.numbers.proofs.Facts.{number-facts}
use Rattle.check_leaves.proofs.leaves.number_record.Goals as goal

few : (w : List ℕ) (d : Decimal) → number_of First w ≡ Is d → d.places < 256
few w d e = omega (arith, (number-facts First w d e).places)

pub write_uncertain-requires : goal.write_uncertain-requires
write_uncertain-requires g c = (omega arith, few _ _ (sym c.parse_numeric.ensures ∙ c.in-Is.is))

pub write_number-requires : goal.write_number-requires
write_number-requires g c = (omega arith, few _ _ (sym c.parse_numeric.ensures ∙ c.in-Is.is))
