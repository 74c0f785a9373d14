-- Judging a text, before any room is looked at: a refusal, or the room that its records need. Assumes nothing.
use Rattle.std.specs.Prelude.{ℕ, Bool, true, false, cond, ◌≡◌, List, Result, Ok, Err}
use Rattle.rules.specs.declared.Reading.{Reading}
use Rattle.places.specs.declared.Report.{Report}
use Rattle.places.specs.Reports.{success}
use Rattle.grammar.specs.Machine.{Rec, Answer, refused, done}
use Rattle.decisions.specs.Decisions.{Told}
use Rattle.grammar.specs.Reading.{outline}
use Rattle.sizes.specs.Sizes.{sizes_of}
use Rattle.sizes.specs.declared.Sizes.{Sizes}
use Rattle.refusals.specs.Answers.{refusal, refusal_report}
use Rattle.refusals.specs.declared.Refusal.{Refusal}

pub record Judgement : Type 0 where
  pub is_read : Bool
  pub report : Report
  pub sizes : Sizes

unfoldable pub no_sizes : Sizes
no_sizes = record { store = 0; outline = 0; area = 0 }

unfoldable pub judgement : List ℕ → Answer → Judgement
judgement s (refused n o d) = record { is_read = false; report = refusal s n o d; sizes = no_sizes }
judgement s (done rs) = record { is_read = true; report = success 0 0; sizes = sizes_of rs }

unfoldable pub judged_as : Result Sizes Refusal → Judgement
judged_as (Ok z) = record { is_read = true; report = success 0 0; sizes = z }
judged_as (Err r) = record { is_read = false; report = refusal_report r; sizes = no_sizes }

-- the same from a decision's numbers
unfoldable pub declined : List ℕ → Told → Judgement
declined s t =
    cond t.is_read (record { is_read = true; report = success 0 0; sizes = record { store = t.store; outline = t.outline; area = t.area } })
    (record { is_read = false; report = refusal s t.number t.offset t.detail; sizes = no_sizes })

-- s is read, and its records take this room
pub record IsRead (r : Reading) (s : List ℕ) (z : Sizes) : Type 0 where
  pub records : List Rec
  pub answer : outline r s ≡ done records
  pub sizes : z ≡ sizes_of records
