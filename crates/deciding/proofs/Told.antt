-- What reading a text comes to: by the two limits and its tokens, in document 01's numbers, and the room for its records. Assumes nothing.
use Prim.Native.Nat.{ℕ, ◌≤◌, ◌<◌}
use mathlib.Core.Path.{◌≡◌, refl}
use mathlib.Core.Bool.{Bool, true, false, cond}
use mathlib.Core.List.{List}
use native.Mathlib.Omega.{arith}
use borrow.Author.Tests.{lt-ltb, le-ltb, ltb-false}
use lib.Dec.{ltb}
use lib.ListN.{length}
use Rattle.rules.specs.declared.Reading.{Reading}
use Rattle.rules.specs.declared.Reading.TheVariants.{First, Strict}
use Rattle.std.specs.Prelude.{Result, Ok, Err}
use Rattle.lines.specs.declared.Flaw.{Flaw}
use Rattle.lines.specs.declared.Flaw.TheVariants.{LongLine, Control}
use Rattle.lines.specs.Lines.{screened}
use Rattle.text.specs.Bytes.{is_ascii}
use Rattle.text.specs.Runs.{span}
use Rattle.grammar.specs.Machine.{Rec, Answer, refused, done}
use Rattle.grammar.specs.Reading.{decided, screens, checked, outline}
use Rattle.text.specs.Limits.{limit}
use Rattle.sizes.specs.Sizes.{store_size, outline_size, area_size, sizes_of}
use Rattle.decisions.specs.Decisions.{refusal, room, tells}

-- a refusal tells its number, its offset and its detail
pub tells-refused : (n o d : ℕ) → tells (refused n o d) ≡ refusal n o d
unfolding tells
tells-refused n o d = refl

-- a text that is read tells the room that its records take
pub tells-done : (rs : List Rec) → tells (done rs) ≡ room (store_size rs) (outline_size rs) (area_size rs)
unfolding tells
tells-done rs = refl

-- that room, by its three lengths
pub sizes-of : (rs : List Rec) → sizes_of rs ≡ record { store = store_size rs; outline = outline_size rs; area = area_size rs }
unfolding sizes_of
sizes-of rs = refl

-- a text over the limit is refused by 1
pub outline-long : (r : Reading) (s : List ℕ) → limit < length s → outline r s ≡ refused 1 0 0
unfolding outline
outline-long r s h = rw (lt-ltb limit (length s) h)

-- one with a byte that is not ASCII by 2
pub outline-foreign : (r : Reading) (s : List ℕ) → length s ≤ limit → span is_ascii s < length s → outline r s ≡ refused 2 (span is_ascii s) 0
unfolding outline
outline-foreign r s h l = rw (le-ltb limit (length s) h, lt-ltb (span is_ascii s) (length s) l)

-- of every other text the lines and control bytes, where the reading asks for them, and then its tokens decide
pub outline-checked : (r : Reading) (s : List ℕ) → length s ≤ limit → length s ≤ span is_ascii s → outline r s ≡ checked r s (decided r s)
unfolding outline
outline-checked r s h l = rw (le-ltb limit (length s) h, le-ltb (span is_ascii s) (length s) l)

-- in the strict reading by what is found among the bytes
module _ (s : List ℕ) (a : Answer) where
  pub checked-fine : screened s ≡ Ok tt → checked Strict s a ≡ a
  unfolding screens
  checked-fine e = rw e

  pub checked-long : (o : ℕ) → screened s ≡ Err (LongLine o) → checked Strict s a ≡ refused 16 o 0
  unfolding screens
  checked-long o e = rw e

  pub checked-control : (o : ℕ) → screened s ≡ Err (Control o) → checked Strict s a ≡ refused 18 o 0
  unfolding screens
  checked-control o e = rw e

-- a text that is read keeps the limit, and its tokens say so
checked-read : (r : Reading) (s : List ℕ) (rs : List Rec) → checked r s (decided r s) ≡ done rs → decided r s ≡ done rs
unfolding screens
checked-read First s rs e = e
checked-read Strict s rs e = by (screened s) e
  where
    by : (x : Result (Unit {0}) Flaw) → screens x (decided Strict s) ≡ done rs → decided Strict s ≡ done rs
    by (Ok u) e = e
    by (Err (LongLine o)) e = let z : ◌≡◌ {A = ℕ} 0 1 = cc in absurd (omega arith)
    by (Err (Control o)) e = let z : ◌≡◌ {A = ℕ} 0 1 = cc in absurd (omega arith)

pub outline-read : (r : Reading) (s : List ℕ) (rs : List Rec) → outline r s ≡ done rs → (length s ≤ limit) × (decided r s ≡ done rs)
unfolding outline
outline-read r s rs e = pick (ltb limit (length s)) refl (ltb (span is_ascii s) (length s)) e
  where
    pick : (x : Bool) → ltb limit (length s) ≡ x → (y : Bool) → cond x (refused 1 0 0) (cond y (refused 2 (span is_ascii s) 0) (checked r s (decided r s))) ≡ done rs → (length s ≤ limit) × (decided r s ≡ done rs)
    pick true p y q = let z : ◌≡◌ {A = ℕ} 0 1 = cc in absurd (omega arith)
    pick false p true q = let z : ◌≡◌ {A = ℕ} 0 1 = cc in absurd (omega arith)
    pick false p false q = (ltb-false limit (length s) p, checked-read r s rs q)
