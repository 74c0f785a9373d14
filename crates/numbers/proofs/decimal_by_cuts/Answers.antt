-- `numbers::decimal_by_cuts`: the word's parts are the pieces between its cuts. Assumes nothing.
use mathlib.Core.Path.{sym, ◌∙◌, ap}
use Rattle.numbers.specs.Parts.{within}
use Rattle.cuts.proofs.Bounds.{cuts-sound}
use Rattle.numbers.proofs.Bridge.{parts_cuts}
use Rattle.numbers.proofs.decimal_by_cuts.Goals as goal

pub read-requires : goal.read-requires
read-requires c = rw c.cut-k.ensures (cuts-sound _, ap within (sym (parts_cuts _)) ∙ c.requires)

pub returns : goal.returns
returns c = rw (parts_cuts, ← c.cut-k.ensures) c.read.ensures
