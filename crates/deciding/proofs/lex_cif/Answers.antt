-- `deciding::lex_cif`: the block behind leading space and comments. Assumes nothing.
use mathlib.Core.Path.{sym, ◌∙◌, ap}
use Rattle.decisions.specs.Decisions.{tells}
use Rattle.deciding.proofs.Blocks.{start-bare, decided-at, decided-none}
use Rattle.deciding.proofs.lex_cif.Goals as goal

pub returns-then-not-at_data : goal.returns-then-not-at_data
returns-then-not-at_data c = rw c.at.ensures (decided-none _ _ _ c.gap_end-at.ensures (sym c.at_data.ensures ∙ c.if-not-at_data.true))

pub parse_data_block-requires : goal.parse_data_block-requires
parse_data_block-requires c =
    let b = start-bare c.args.reading _ _ c.gap_end-at.ensures in
    (record { within = b.0; small = c.requires; none = b.1 }, sym c.at_data.ensures ∙ c.if-not-at_data.false)

pub returns : goal.returns
returns c = c.parse_data_block.ensures ∙ ap tells (sym (decided-at _ _ _ c.gap_end-at.ensures))

pub at_data-requires : goal.at_data-requires
at_data-requires c = (start-bare c.args.reading _ _ c.gap_end-at.ensures).0
