-- The decision on a text: document 01's number, offset, detail and lengths for each case. Assumes nothing.
use Rattle.std.specs.Prelude.{ℕ, Bool, true, false, Result, Ok, Err}
use Rattle.grammar.specs.declared.Fault.{Fault}
use Rattle.grammar.specs.Causes.{cause_number, cause_detail}
use Rattle.grammar.specs.Machine.{Answer, refused, done}
use Rattle.sizes.specs.declared.Sizes.{Sizes}
use Rattle.sizes.specs.Sizes.{store_size, outline_size, area_size}

-- an answer in document 01's numbers; the flag: the text is read
pub record Told : Type 0 where
  pub is_read : Bool
  pub number : ℕ
  pub offset : ℕ
  pub detail : ℕ
  pub store : ℕ
  pub outline : ℕ
  pub area : ℕ

unfoldable pub refusal : ℕ → ℕ → ℕ → Told
refusal n o d = record { is_read = false; number = n; offset = o; detail = d; store = 0; outline = 0; area = 0 }

unfoldable pub room : ℕ → ℕ → ℕ → Told
room m o a = record { is_read = true; number = 0; offset = 0; detail = 0; store = m; outline = o; area = a }

unfoldable pub told : Result Sizes Fault → Told
told (Ok z) = room z.store z.outline z.area
told (Err e) = refusal (cause_number e.cause) e.at (cause_detail e.cause)

unfoldable pub tells : Answer → Told
tells (refused n o d) = refusal n o d
tells (done rs) = room (store_size rs) (outline_size rs) (area_size rs)
