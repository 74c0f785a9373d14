-- `enclosed::pack_strict_semicolon`: by the byte before. Assumes nothing.
use mathlib.Core.Path.{sym, ap, ◌∙◌}
use Rattle.text.specs.Bytes.{is_eol}
use Rattle.enclosed.proofs.pack_strict_semicolon.Goals as goal

pub returns-then-is_eol : goal.returns-then-is_eol
returns-then-is_eol c = rw (ap is_eol (sym c.byte_before.ensures) ∙ sym c.is_eol.ensures ∙ c.if-is_eol.true) c.pack_field.ensures

pub returns-else-is_eol : goal.returns-else-is_eol
returns-else-is_eol c = rw (ap is_eol (sym c.byte_before.ensures) ∙ sym c.is_eol.ensures ∙ c.if-is_eol.false) c.pack_bare.ensures
