-- What Read and Outline share: a refusal of the text, and what stands in a lent buffer afterwards (document 01). Assumes nothing.
use Rattle.std.specs.Prelude.{ℕ, Bool, cond, List, eqb}
use Rattle.places.specs.Places.{place_at}
use Rattle.places.specs.Reports.{refused_at, refused_bare}
use Rattle.places.specs.declared.Report.{Report}
use Rattle.records.specs.Put.{front}
use Rattle.refusals.specs.declared.Refusal.{Refusal}
use Rattle.refusals.specs.declared.Refusal.TheVariants.{TooLong, At}
use Rattle.grammar.specs.Causes.{cause_number, cause_detail}

-- 1 has no place, every other refusal of a text has one
unfoldable pub refusal : List ℕ → ℕ → ℕ → ℕ → Report
refusal s n o d = cond (eqb n 1) (refused_bare 1) (refused_at n (place_at s o) d)

-- document 01's numbers for each case of the code's answers
unfoldable pub refusal_report : Refusal → Report
refusal_report TooLong = refused_bare 1
refusal_report (At c p) = refused_at (cause_number c) p (cause_detail c)

-- what stands in a lent buffer of which `fits` says that all is written
unfoldable pub written_if : Bool → List ℕ → List ℕ → List ℕ
written_if fits bytes l = cond fits (front bytes l) l
