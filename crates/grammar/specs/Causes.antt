-- What a text is refused for at a place in it: document 01's number, or 02's, and detail for each cause of the code's answers, and the cause that a failing item's number names. Assumes
-- nothing.
use Rattle.std.specs.Prelude.{ℕ, cond, eqb}
use Rattle.lines.specs.declared.Flaw.{Flaw}
use Rattle.lines.specs.declared.Flaw.TheVariants.{LongLine as LongLineAt, Control as ControlAt}
use Rattle.grammar.specs.declared.Fault.{Fault}
use Rattle.grammar.specs.declared.Cause.{Cause}
use Rattle.grammar.specs.declared.Cause.TheVariants.{NotAscii, NoData, OpenFrame, Ragged, NoValue, NoItem, NoNames, OverLimit, NotParted, LongLine, BadName, ControlByte}

abbrev pub cause_number : Cause → ℕ
cause_number NotAscii = 2
cause_number NoData = 3
cause_number OpenFrame = 4
cause_number (Ragged d) = 5
cause_number (NoValue d) = 6
cause_number (NoItem d) = 7
cause_number NoNames = 8
cause_number OverLimit = 9
cause_number NotParted = 15
cause_number LongLine = 16
cause_number BadName = 17
cause_number ControlByte = 18

-- a loop's remainder, and why no value stands (document 02, One); every other detail is 0
abbrev pub cause_detail : Cause → ℕ
cause_detail NotAscii = 0
cause_detail NoData = 0
cause_detail OpenFrame = 0
cause_detail (Ragged d) = d
cause_detail (NoValue d) = d
cause_detail (NoItem d) = d
cause_detail NoNames = 0
cause_detail OverLimit = 0
cause_detail NotParted = 0
cause_detail LongLine = 0
cause_detail BadName = 0
cause_detail ControlByte = 0

-- c at offset o
abbrev pub fault : Cause → ℕ → Fault
fault c o = record { cause = c; at = o }

-- a line that is too long, and a control byte
abbrev pub flawed : Flaw → Fault
flawed (LongLineAt o) = fault LongLine o
flawed (ControlAt o) = fault ControlByte o

-- the cause that a number and a detail name, of an item that is not read
abbrev pub cause_of : ℕ → ℕ → Cause
cause_of n d =
    cond (eqb n 5) (Ragged d)
    (cond (eqb n 6) (NoValue d)
    (cond (eqb n 8) NoNames
    (cond (eqb n 9) OverLimit
    (cond (eqb n 15) NotParted BadName))))
