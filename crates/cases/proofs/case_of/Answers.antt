-- `cases::case_of`: by what stands at the two offsets. Assumes nothing.
use mathlib.Core.Path.{◌≡◌, sym, ◌∙◌}
use mathlib.Core.Bool.{true, ◌&&◌}
use Rattle.text.proofs.Bools.{and_l, and_r}
use Rattle.kinds.specs.Kinds.{number_of}
use Rattle.cases.specs.Cases.{is_number}
use Rattle.steps.specs.Steps.{held_at}
use Rattle.cases.proofs.Cases.{case-none, case-alone, orderly-parts, case-numbers, case-others}
use Rattle.cases.proofs.case_of.Goals as goal

pub returns-in_default : goal.returns-in_default
returns-in_default c = case-none _ _ _ _ (sym c.read_record.ensures ∙ c.in_default.is)

pub returns-in_default-read_record : goal.returns-in_default-read_record
returns-in_default-read_record c = case-alone _ _ _ _ _ _ _ (sym c.read_record.ensures ∙ c.in-Some.is) (sym c.read_record-2.ensures ∙ c.in_default-read_record.is)

pub numbers_case-requires : goal.numbers_case-requires
numbers_case-requires c =
    let pre = c.requires in
    let t : (is_number (number_of c.in-Some.old.kind) && is_number (number_of c.in-Some-read_record.new.kind)) ≡ true = sym c.are_numbers.ensures ∙ c.if-are_numbers.true in
    (orderly-parts _ _ _ _ (sym c.read_record.ensures ∙ c.in-Some.is) pre.0 (and_l _ _ t), orderly-parts _ _ _ _ (sym c.read_record-2.ensures ∙ c.in-Some-read_record.is) pre.1 (and_r (is_number (number_of c.in-Some.old.kind)) _ t))

pub returns-then-are_numbers : goal.returns-then-are_numbers
returns-then-are_numbers c =
    c.numbers_case.ensures
    ∙ rw (c.number-k.ensures, c.number-j.ensures) (sym (case-numbers _ _ _ _ _ _ _ (sym c.read_record.ensures ∙ c.in-Some.is) _ _ _ (sym c.read_record-2.ensures ∙ c.in-Some-read_record.is) (sym c.are_numbers.ensures ∙ c.if-are_numbers.true)))

pub returns-then-do_agree : goal.returns-then-do_agree
unfolding held_at
returns-then-do_agree c =
    let o = case-others _ _ _ _ _ _ _ (sym c.read_record.ensures ∙ c.in-Some.is) _ _ _ (sym c.read_record-2.ensures ∙ c.in-Some-read_record.is) (sym c.are_numbers.ensures ∙ c.if-are_numbers.false) _ _ c.bytes_at-x.ensures c.bytes_at-y.ensures _ c.do_agree.ensures in
    rw c.if-do_agree.true at o

pub returns-else-do_agree : goal.returns-else-do_agree
unfolding held_at
returns-else-do_agree c =
    let o = case-others _ _ _ _ _ _ _ (sym c.read_record.ensures ∙ c.in-Some.is) _ _ _ (sym c.read_record-2.ensures ∙ c.in-Some-read_record.is) (sym c.are_numbers.ensures ∙ c.if-are_numbers.false) _ _ c.bytes_at-x.ensures c.bytes_at-y.ensures _ c.do_agree.ensures in
    rw c.if-do_agree.false at o
