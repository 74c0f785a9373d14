-- `readable_strict::is_strict`: a quoted value of the first reading is none. Assumes nothing.
use mathlib.Core.Path.{ap₂}
use mathlib.Core.Bool.{Bool, false}
use mathlib.Core.List.{List, [], ◌∷◌}
use Rattle.rules.specs.declared.Reading.TheVariants.{Strict}
use Rattle.kinds.specs.Kinds.{kind_of}
use Rattle.kinds.proofs.Numbering.{told}
use Rattle.readable.specs.Readable.{readable_by}
use Rattle.readable.proofs.Readable.{strict-no-single, strict-no-double}
use Rattle.readable_strict.proofs.is_strict.Goals as goal

pub returns-in-SingleQuoted : goal.returns-in-SingleQuoted
unfolding kind_of
returns-in-SingleQuoted c =
    let content = c.args.content.now in
    told (λ k. readable_by Strict k content) false 11 (12 ∷ []) (ap₂ {C = List Bool} (λ x y. x ∷ y ∷ []) (strict-no-single content) (strict-no-double content)) c.args.kind c.in-SingleQuoted.in-SingleQuoted-own.keys4
