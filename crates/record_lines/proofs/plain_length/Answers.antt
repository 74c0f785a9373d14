-- `record_lines::plain_length` meets its contract: each arm at once for its kinds' numbers. Assumes nothing.
use borrow.Enum.Refused.{opened}
use mathlib.Core.Path.{refl, ap, ◌∙◌}
use mathlib.Core.Bool.{true, false}
use mathlib.Core.List.{[], ◌∷◌}
use native.Mathlib.Omega.{arith}
use lib.ListN.{length}
use Rattle.numbers.specs.Spelling.{render_number}
use Rattle.kinds.specs.declared.Kind.TheVariants.{Number, Uncertain}
use Rattle.kinds.specs.Kinds.{kind_of, shape_of, is_content}
use Rattle.kinds.proofs.Numbering.{told}
use Rattle.record_lines.specs.Lines.{decimal_of}
use Rattle.record_lines.specs.Writing.{plain_length}
use Rattle.numerals.specs.Written.{Short}
use Rattle.record_lines.proofs.Lines.{digits-kept, parts-short}
use Rattle.numbers.proofs.Rendered.{number_short}
use Rattle.record_lines.proofs.plain_length.Goals as goal

pub number_length-requires : goal.number_length-requires
unfolding shape_of is_content
number_length-requires c =
    rw c.decimal_of.ensures (parts-short false c.args.fields.parts (digits-kept c.args.kind Number c.args.fields c.in-Number.is refl c.requires))

pub overflow_add-result : goal.overflow_add-result
unfolding shape_of is_content
overflow_add-result c =
    let short : Short (decimal_of false c.args.fields.parts) = parts-short false c.args.fields.parts (digits-kept c.args.kind Number c.args.fields c.in-Number.is refl c.requires) in
    let size = c.number_length.ensures ∙ ap (λ d. length (render_number d)) c.decimal_of.ensures in
    omega (arith, size, number_short (decimal_of false c.args.fields.parts) short.places)

pub number_length-requires-in-Uncertain : goal.number_length-requires-in-Uncertain
unfolding shape_of is_content
number_length-requires-in-Uncertain c =
    rw c.decimal_of-in-Uncertain.ensures (parts-short true c.args.fields.parts (digits-kept c.args.kind Uncertain c.args.fields c.in-Uncertain.is refl c.requires))

pub overflow_add-result-in-Uncertain : goal.overflow_add-result-in-Uncertain
unfolding shape_of is_content
overflow_add-result-in-Uncertain c =
    let short : Short (decimal_of true c.args.fields.parts) = parts-short true c.args.fields.parts (digits-kept c.args.kind Uncertain c.args.fields c.in-Uncertain.is refl c.requires) in
    let size = c.number_length-in-Uncertain.ensures ∙ ap (λ d. length (render_number d)) c.decimal_of-in-Uncertain.ensures in
    omega (arith, size, number_short (decimal_of true c.args.fields.parts) short.places)

pub returns-in-NoKind : goal.returns-in-NoKind
unfolding kind_of plain_length
returns-in-NoKind c = told (λ k. plain_length k c.args.fields) 0 0 (7 ∷ []) refl c.args.kind c.in-NoKind.in-NoKind-own.keys1

pub returns-in-FrameClose : goal.returns-in-FrameClose
unfolding kind_of plain_length
returns-in-FrameClose c = told (λ k. plain_length k c.args.fields) 6 3 (5 ∷ []) refl c.args.kind c.in-FrameClose.in-FrameClose-own.keys2

pub returns-in-Inapplicable : goal.returns-in-Inapplicable
unfolding kind_of plain_length
returns-in-Inapplicable c = told (λ k. plain_length k c.args.fields) 2 8 (9 ∷ []) refl c.args.kind c.in-Inapplicable.in-Inapplicable-own.keys3

pub returns-in-Number : goal.returns-in-Number
unfolding plain_length
returns-in-Number c = rw (c.in-Number.is, c.number_length.ensures, c.decimal_of.ensures)

pub returns-in-Uncertain : goal.returns-in-Uncertain
unfolding plain_length
returns-in-Uncertain c = rw (c.in-Uncertain.is, c.number_length-in-Uncertain.ensures, c.decimal_of-in-Uncertain.ensures)

pub returns-in_default : goal.returns-in_default
unfolding kind_of plain_length
returns-in_default c = told (λ k. plain_length k c.args.fields) _ 1 (2 ∷ 4 ∷ 6 ∷ 10 ∷ 11 ∷ 12 ∷ 13 ∷ 16 ∷ []) refl c.args.kind (opened c.in_default.in_default-own.keys6)
