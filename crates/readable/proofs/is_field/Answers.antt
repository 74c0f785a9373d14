-- `readable::is_field`: by the last byte, and whether a `;` closes it before. Assumes nothing.
use Rattle.std.proofs.Common.{◌≡◌, ℕ, ◌-◌, true, List, [], ◌∷◌, ◌++◌, length, get_or, Bool, not, sym, ◌∙◌}
use Rattle.std.specs.Prelude.{Option as Maybe, Some, None}
use Rattle.std.specs.Option.{is_some}
use borrow.Author.Tests.{not-true, not-false}
use Rattle.rules.specs.declared.Reading.{Reading}
use Rattle.text.specs.Bytes.{is_eol}
use Rattle.quotes.specs.Answers.{field_end}
use Rattle.values.specs.Alone.{is_alone}
use Rattle.values.proofs.Alone.{field-empty, field-mid, field-closed, field-whole}
use Rattle.readable.proofs.is_field.Goals as goal

pub returns-then-size-eq0 : goal.returns-then-size-eq0
returns-then-size-eq0 c = sym (field-empty c.args.reading c.args.content.now c.if-size-eq0.true)

pub returns-then-not-is_eol : goal.returns-then-not-is_eol
returns-then-not-is_eol c = sym (field-mid c.args.reading c.args.content.now c.if-size-eq0.false (sym c.is_eol.ensures ∙ c.if-not-is_eol.true))

answer : (r : Reading) (s : List ℕ) → (length s ≡ 0 → ⊥) → is_eol (get_or s (length s - 1) 0) ≡ true → (b : Bool) (m : Maybe ℕ) → is_some m ≡ not b → field_end s 0 ≡ m → b ≡ is_alone r 10 13 (59 ∷ (s ++ (59 ∷ [])))
answer r s h e b None w q = not-false b (sym w) ∙ sym (field-whole r s h e q)
answer r s h e b (Some n) w q = not-true b (sym w) ∙ sym (field-closed r s n q)

pub returns : goal.returns
returns c = answer c.args.reading c.args.content.now c.if-size-eq0.false (sym c.is_eol.ensures ∙ c.if-not-is_eol.false) _ _ c.is_none.ensures (sym c.parse_multiline_string.ensures)
