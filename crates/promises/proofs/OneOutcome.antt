-- ONE OUTCOME ONLY (document 01, 'What each service owes'), where a contract fixes an answer by its report: answers with one report are one answer. Proved by reading each
-- answer back from its report. All other contracts are equations for the answer itself. Assumes nothing.
use Prim.Native.Nat.{ℕ}
use mathlib.Core.Bool.{cond, false}
use mathlib.Core.Path.{◌≡◌, refl, sym, ap, ◌∙◌}
use lib.Dec.{eqb}
use Rattle.places.specs.Reports.{success, refused_at, refused_bare, no_room}
use Rattle.places.specs.declared.Place.{Place}
use Rattle.places.specs.declared.Report.{Report}
use Rattle.std.specs.Prelude.{Result, Ok, Err}
use Rattle.sizes.specs.declared.Sizes.{Sizes}
use Rattle.grammar.specs.declared.Fault.{Fault}
use Rattle.grammar.specs.Causes.{fault}
use Rattle.grammar.specs.declared.Cause.{Cause}
use Rattle.grammar.specs.declared.Cause.TheVariants.{NotAscii, NoData, OpenFrame, Ragged, NoValue, NoItem, NoNames, OverLimit, NotParted, LongLine, BadName, ControlByte}
use Rattle.grammar.specs.Causes.{cause_number, cause_detail}
use Rattle.grammar.proofs.Causes.{cause-has-place}
use Rattle.decisions.specs.Decisions.{Told, refusal, room, told}
use Rattle.std.specs.Prelude.{Result, Ok, Err}
use Rattle.rendering.specs.declared.RenderError.{RenderError}
use Rattle.rendering.specs.declared.RenderError.TheVariants.{NotSound, TooLong as TooLongText, NoRoom as NoRoomText}
use Rattle.rendering.specs.Rendering.{rendered_report}
use Rattle.refusals.specs.declared.Refusal.{Refusal}
use Rattle.refusals.specs.declared.Refusal.TheVariants.{TooLong, At}
use Rattle.judging.specs.Judging.{Judgement, judged_as}
use Rattle.reading.specs.declared.Lengths.{Lengths}
use Rattle.reading.specs.declared.ReadError.{ReadError}
use Rattle.reading.specs.declared.ReadError.TheVariants.{Refused, StoreFull, AreaFull}
use Rattle.outlining.specs.declared.OutlineError.{OutlineError}
use Rattle.outlining.specs.declared.OutlineError.TheVariants.{Refused as Declined, NoRoom}
use Rattle.reading.specs.Services.{reading_report}
use Rattle.refusals.specs.Answers.{refusal_report}
use Rattle.outlining.specs.Outlining.{outlined_report}

unfoldable place_in : Report → Place
place_in p = record { offset = p.offset; line = p.line; column = p.column }

-- a cause, by its number and detail
unfoldable cause_in : ℕ → ℕ → Cause
cause_in n d =
    cond (eqb n 2) NotAscii
    (cond (eqb n 3) NoData
    (cond (eqb n 4) OpenFrame
    (cond (eqb n 5) (Ragged d)
    (cond (eqb n 6) (NoValue d)
    (cond (eqb n 7) (NoItem d)
    (cond (eqb n 8) NoNames
    (cond (eqb n 9) OverLimit
    (cond (eqb n 15) NotParted
    (cond (eqb n 16) LongLine
    (cond (eqb n 17) BadName ControlByte))))))))))

cause-back : (c : Cause) → cause_in (cause_number c) (cause_detail c) ≡ c
unfolding cause_in
cause-back NotAscii = refl
cause-back NoData = refl
cause-back OpenFrame = refl
cause-back (Ragged d) = refl
cause-back (NoValue d) = refl
cause-back (NoItem d) = refl
cause-back NoNames = refl
cause-back OverLimit = refl
cause-back NotParted = refl
cause-back LongLine = refl
cause-back BadName = refl
cause-back ControlByte = refl

unfoldable refusal_in : Report → Refusal
refusal_in p = cond (eqb p.number 1) TooLong (At (cause_in p.number p.detail) (place_in p))

refusal-back : (r : Refusal) → refusal_in (refusal_report r) ≡ r
unfolding refusal_in place_in refusal_report refused_at refused_bare
refusal-back TooLong = refl
refusal-back (At c p) = rw (cause-has-place c, cause-back c)

-- no cause is one of an answer without a place
cause-low : (c : Cause) → (eqb (cause_number c) 0 ≡ false) × (eqb (cause_number c) 10 ≡ false) × (eqb (cause_number c) 11 ≡ false)
cause-low NotAscii = (refl, refl, refl)
cause-low NoData = (refl, refl, refl)
cause-low OpenFrame = (refl, refl, refl)
cause-low (Ragged d) = (refl, refl, refl)
cause-low (NoValue d) = (refl, refl, refl)
cause-low (NoItem d) = (refl, refl, refl)
cause-low NoNames = (refl, refl, refl)
cause-low OverLimit = (refl, refl, refl)
cause-low NotParted = (refl, refl, refl)
cause-low LongLine = (refl, refl, refl)
cause-low BadName = (refl, refl, refl)
cause-low ControlByte = (refl, refl, refl)

-- the two lengths of a report
abbrev lengths_in : Report → Lengths
lengths_in p = record { store = p.first; area = p.second }

unfoldable reading_in : Report → Result Lengths ReadError
reading_in p =
    cond (eqb p.number 0) (Ok (lengths_in p))
    (cond (eqb p.number 10) (Err (StoreFull (lengths_in p)))
    (cond (eqb p.number 11) (Err (AreaFull (lengths_in p))) (Err (Refused (refusal_in p)))))

reading-back : (r : Result Lengths ReadError) → reading_in (reading_report r) ≡ r
unfolding reading_in refusal_in place_in reading_report refusal_report success refused_at refused_bare no_room
reading-back (Ok n) = refl
reading-back (Err (StoreFull n)) = refl
reading-back (Err (AreaFull n)) = refl
reading-back (Err (Refused TooLong)) = refl
reading-back (Err (Refused (At c p))) = rw ((cause-low c).0, (cause-low c).1, (cause-low c).2) (ap (λ (x : Refusal). Err (Refused x)) (refusal-back (At c p)))

pub one-reading : (a b : Result Lengths ReadError) → reading_report a ≡ reading_report b → a ≡ b
one-reading a b e = sym (reading-back a) ∙ ap reading_in e ∙ reading-back b

unfoldable outlined_in : Report → Result ℕ OutlineError
outlined_in p = cond (eqb p.number 0) (Ok p.first) (cond (eqb p.number 10) (Err (NoRoom p.first)) (Err (Declined (refusal_in p))))

outlined-back : (r : Result ℕ OutlineError) → outlined_in (outlined_report r) ≡ r
unfolding outlined_in refusal_in place_in outlined_report refusal_report success refused_at refused_bare no_room
outlined-back (Ok m) = refl
outlined-back (Err (NoRoom m)) = refl
outlined-back (Err (Declined TooLong)) = refl
outlined-back (Err (Declined (At c p))) = rw ((cause-low c).0, (cause-low c).1) (ap (λ (x : Refusal). Err (Declined x)) (refusal-back (At c p)))

pub one-outlined : (a b : Result ℕ OutlineError) → outlined_report a ≡ outlined_report b → a ≡ b
one-outlined a b e = sym (outlined-back a) ∙ ap outlined_in e ∙ outlined-back b

unfoldable rendered_in : Report → Result ℕ RenderError
rendered_in p = cond (eqb p.number 0) (Ok p.first) (cond (eqb p.number 12) (Err NotSound) (cond (eqb p.number 1) (Err TooLongText) (Err (NoRoomText p.first))))

rendered-back : (r : Result ℕ RenderError) → rendered_in (rendered_report r) ≡ r
unfolding rendered_in rendered_report success refused_bare no_room
rendered-back (Ok n) = refl
rendered-back (Err NotSound) = refl
rendered-back (Err TooLongText) = refl
rendered-back (Err (NoRoomText n)) = refl

pub one-rendered : (a b : Result ℕ RenderError) → rendered_report a ≡ rendered_report b → a ≡ b
one-rendered a b e = sym (rendered-back a) ∙ ap rendered_in e ∙ rendered-back b

unfoldable decision_in : Told → Result Sizes Fault
decision_in d =
    cond d.is_read (Ok (record { store = d.store; outline = d.outline; area = d.area }))
    (Err (fault (cause_in d.number d.detail) d.offset))

decision-back : (d : Result Sizes Fault) → decision_in (told d) ≡ d
unfolding decision_in told refusal room
decision-back (Ok z) = refl
decision-back (Err e) = rw (cause-back e.cause)

pub one-decision : (a b : Result Sizes Fault) → told a ≡ told b → a ≡ b
one-decision a b e = sym (decision-back a) ∙ ap decision_in e ∙ decision-back b

unfoldable judged_in : Judgement → Result Sizes Refusal
judged_in j = cond j.is_read (Ok j.sizes) (Err (refusal_in j.report))

judged-back : (j : Result Sizes Refusal) → judged_in (judged_as j) ≡ j
unfolding judged_in judged_as
judged-back (Ok z) = refl
judged-back (Err r) = ap (λ (x : Refusal). Err x) (refusal-back r)

pub one-judged : (a b : Result Sizes Refusal) → judged_as a ≡ judged_as b → a ≡ b
one-judged a b e = sym (judged-back a) ∙ ap judged_in e ∙ judged-back b
