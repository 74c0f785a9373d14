-- What a judgement says: what a decision's numbers come to is what the answer comes to, and a text is read or refused by it. Assumes nothing.
use Prim.Native.Nat.{ℕ, ◌≤◌}
use mathlib.Core.Path.{◌≡◌, refl, sym, ap, ◌∙◌}
use mathlib.Core.Bool.{true≢false, false≢true}
use mathlib.Core.List.{List}
use Rattle.rules.specs.declared.Reading.{Reading}
use Rattle.rules.specs.declared.Reading.TheVariants.{Strict}
use Rattle.std.specs.Prelude.{Result, Ok, Err}
use Rattle.lines.specs.declared.Flaw.TheVariants.{LongLine, Control}
use native.Mathlib.Omega.{arith}
use lib.ListN.{length}
use Rattle.text.specs.Bytes.{is_ascii}
use Rattle.text.specs.Runs.{span}
use Rattle.lines.specs.Lines.{no_control, is_plain, screened}
use Rattle.lines.proofs.Lines.{span-wider, plain-ascii, plain-control}
use Rattle.grammar.specs.declared.Cause.TheVariants.{LongLine as LongLineCause, ControlByte}
use Rattle.grammar.specs.declared.Cause.{Cause}
use Rattle.grammar.specs.Causes.{fault, flawed}
use Rattle.grammar.proofs.Causes.{cause-has-place}
use Rattle.places.specs.Places.{place_at}
use Rattle.lines.specs.declared.Flaw.{Flaw}
use Rattle.refusals.specs.declared.Refusal.TheVariants.{At}
use Rattle.sizes.specs.declared.Sizes.{Sizes}
use Rattle.grammar.specs.Machine.{Answer, refused, done}
use Rattle.decisions.specs.Decisions.{told, tells, refusal as told_refusal, room}
use Rattle.grammar.specs.Reading.{decided, checked, outline}
use Rattle.deciding.proofs.Told.{tells-refused, tells-done, sizes-of, checked-fine, checked-long, checked-control}
use Rattle.refusals.specs.declared.Refusal.{Refusal}
use Rattle.refusals.specs.Answers.{refusal, refusal_report}
use Rattle.judging.specs.Judging.{Judgement, judgement, judged_as, declined, IsRead}

-- a decision's numbers, and the answer's
pub declined-judgement : (s : List ℕ) (a : Answer) → declined s (tells a) ≡ judgement s a
unfolding declined judgement told_refusal room
declined-judgement s (refused n o d) = rw (tells-refused n o d)
declined-judgement s (done rs) = rw (tells-done rs, sizes-of rs)

-- so a decision is judged as the answer: with its room, or with a fault's place
room-declined : (s : List ℕ) (z : Sizes) → judged_as (Ok z) ≡ declined s (told (Ok z))
unfolding judged_as declined told room
room-declined s z = refl

fault-declined : (s : List ℕ) (c : Cause) (o : ℕ) → judged_as (Err (At c (place_at s o))) ≡ declined s (told (Err (fault c o)))
unfolding judged_as declined told told_refusal refusal_report refusal
fault-declined s c o = rw (cause-has-place c)

pub judged-room : (s : List ℕ) (a : Answer) (z : Sizes) → told (Ok z) ≡ tells a → judged_as (Ok z) ≡ judgement s a
judged-room s a z e = room-declined s z ∙ ap (declined s) e ∙ declined-judgement s a

pub judged-fault : (s : List ℕ) (a : Answer) (c : Cause) (o : ℕ) → told (Err (fault c o)) ≡ tells a → judged_as (Err (At c (place_at s o))) ≡ judgement s a
judged-fault s a c o e = fault-declined s c o ∙ ap (declined s) e ∙ declined-judgement s a

-- a judgement that a text fits
fits : (g : Reading) (s : List ℕ) (a : Answer) (z : Sizes) → outline g s ≡ a → judged_as (Ok z) ≡ judgement s a → IsRead g s z
unfolding judged_as judgement
fits g s (refused n o d) z p e = absurd (true≢false (ap (λ (x : Judgement). x.is_read) e))
fits g s (done rs) z p e = record { records = rs; answer = p; sizes = ap (λ (x : Judgement). x.sizes) e }

pub fits_read : (g : Reading) (s : List ℕ) (j : Result Sizes Refusal) (z : Sizes) → judged_as j ≡ judgement s (outline g s) → j ≡ Ok z → IsRead g s z
fits_read g s j z e q = fits g s (outline g s) z refl (ap judged_as (sym q) ∙ e)

-- a judgement that it is refused
pub record Refuses (g : Reading) (s : List ℕ) (r : Refusal) : Type 0 where
  pub number : ℕ
  pub offset : ℕ
  pub detail : ℕ
  pub answer : outline g s ≡ refused number offset detail
  pub report : refusal_report r ≡ refusal s number offset detail

refuses : (g : Reading) (s : List ℕ) (a : Answer) (r : Refusal) → outline g s ≡ a → judged_as (Err r) ≡ judgement s a → Refuses g s r
unfolding judged_as judgement
refuses g s (refused n o d) r p e = record { number = n; offset = o; detail = d; answer = p; report = ap (λ (x : Judgement). x.report) e }
refuses g s (done rs) r p e = absurd (false≢true (ap (λ (x : Judgement). x.is_read) e))

pub declines-refuses : (g : Reading) (s : List ℕ) (j : Result Sizes Refusal) (r : Refusal) → judged_as j ≡ judgement s (outline g s) → j ≡ Err r → Refuses g s r
declines-refuses g s j r e q = refuses g s (outline g s) r refl (ap judged_as (sym q) ∙ e)

-- the strict reading's answer by what is found among the bytes
module _ (s : List ℕ) where
  pub screens-fine : screened s ≡ Ok tt → tells (decided Strict s) ≡ tells (checked Strict s (decided Strict s))
  screens-fine e = ap tells (sym (checked-fine s (decided Strict s) e))

  pub screens-long : (o : ℕ) → screened s ≡ Err (LongLine o) → told (Err (fault LongLineCause o)) ≡ tells (checked Strict s (decided Strict s))
  unfolding told
  screens-long o e = sym (ap tells (checked-long s (decided Strict s) o e) ∙ tells-refused 16 o 0)

  pub screens-control : (o : ℕ) → screened s ≡ Err (Control o) → told (Err (fault ControlByte o)) ≡ tells (checked Strict s (decided Strict s))
  unfolding told
  screens-control o e = sym (ap tells (checked-control s (decided Strict s) o e) ∙ tells-refused 18 o 0)

  pub screens-flawed : (f : Flaw) → screened s ≡ Err f → told (Err (flawed f)) ≡ tells (checked Strict s (decided Strict s))
  screens-flawed (LongLine o) e = screens-long o e
  screens-flawed (Control o) e = screens-control o e

  -- bytes that may all stand in a strict text are ASCII, and no control bytes
  pub plain-all : length s ≤ span is_plain s → length s ≤ span is_ascii s
  plain-all h = omega (arith, span-wider is_plain is_ascii plain-ascii s)

  pub plain-none : length s ≤ span is_plain s → length s ≤ span no_control s
  plain-none h = omega (arith, span-wider is_plain no_control plain-control s)
