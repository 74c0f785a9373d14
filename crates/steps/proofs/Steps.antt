-- Laws of the walk from name to name. Assumes nothing.
use Prim.Native.Nat.{ℕ, suc, ◌+◌, ◌-◌, ◌≤◌, ◌<◌, min}
use mathlib.Core.Path.{◌≡◌, refl, sym, ap, ◌∙◌}
use mathlib.Core.Bool.{Bool, true, false}
use mathlib.Core.List.{List, [], ◌∷◌}
use native.Mathlib.Omega.{arith}
use native.Mathlib.Numerals.{add-one}
use borrow.Author.Tests.{leb-true, leb-false}
use lib.Dec.{leb}
use lib.ListN.{length, take, drop, drop_of_length-le}
use Rattle.text.proofs.Parts.{part-clamped}
use Rattle.kinds.specs.Kinds.{number_of, marks_of}
use Rattle.entries.specs.declared.Entry.{Entry}
use Rattle.entries.specs.Entries.{entry_of, entry_at}
use Rattle.contents.specs.Contents.{content_bytes}
use Rattle.entries.proofs.Walking.{some-within, rest_over, rest-none, next-at}
use Rattle.entries.proofs.Walking.{rest-is, entries-first}
use Rattle.contents.proofs.Kept.{content-bytes}
use Rattle.names.specs.declared.Named.{Named}
use Rattle.names.specs.Names.{is_name_kind, names_from, names}
use Rattle.names.specs.Parts.{name_of}
use Rattle.text.specs.Parts.{part}
use Rattle.names.proofs.Lists.{drop-next}
use Rattle.steps.specs.declared.Spot.{Spot}
use Rattle.steps.specs.declared.Met.{Met}
use Rattle.steps.specs.Steps.{name_in, names_at, Counted, first, behind, listed, Kept, Ahead, Reached, Before}
use Rattle.std.specs.Prelude.{Option, Some, None}
use lib.Seq.{take-nil}

-- a record's content, cut off at the area's end
pub content-is : (ar : List ℕ) (e : Entry) (from n : ℕ) → from ≡ min e.fields.number (length ar) → n ≡ min (e.fields.token.length - marks_of e.kind) (length ar - from) →
    take (from + n - from) (drop from ar) ≡ content_bytes ar e.kind e.fields
unfolding part
content-is ar e from n p q = by (leb e.fields.number (length ar)) refl
  where
    by : (t : Bool) → leb e.fields.number (length ar) ≡ t → take (from + n - from) (drop from ar) ≡ content_bytes ar e.kind e.fields
    by true o =
        let h : e.fields.number ≤ length ar = leb-true e.fields.number (length ar) o in
        let f : from ≡ e.fields.number = omega arith in
        let size : from + n - from ≡ n = omega arith in
        rw (size, q, f, content-bytes ar e.kind e.fields) (part-clamped ar e.fields.number (e.fields.token.length - marks_of e.kind))
    by false o =
        let h : length ar < e.fields.number = leb-false e.fields.number (length ar) o in
        let none : drop e.fields.number ar ≡ [] = drop_of_length-le ar (omega arith) in
        let size : from + n - from ≡ 0 = omega arith in
        rw (size, content-bytes ar e.kind e.fields, none) (sym (take-nil (e.fields.token.length - marks_of e.kind)))

-- the walk so far: no name was met between a spot and another
module _ (st ar : List ℕ) (from : Spot) where
  pub record Walking (s : Spot) : Type 0 where
    pub names : names_at st ar from ≡ names_at st ar s
    pub counted : Counted s
    pub count : s.count ≡ from.count

  pub walking-first : Counted from → Walking from
  walking-first c = record { names = refl; counted = c; count = refl }

  -- no record is left
  pub walking-end : (s : Spot) → Walking s → entry_at st s.at ≡ None → Ahead st ar from None
  unfolding listed Kept names_at names_from
  walking-end s w q = record { names = w.names ∙ by (leb (length st) s.at) refl; kept = tt }
    where
      by : (t : Bool) → leb (length st) s.at ≡ t → names_at st ar s ≡ []
      by true o = rw (rest-is st s.at, rest_over st s.at (leb-true (length st) s.at o))
      by false o = rw (rest-is st s.at, rest-none st s.at (leb-false (length st) s.at o) q)

  module _ (s : Spot) (e : Entry) (w : Walking s) (q : entry_at st s.at ≡ Some e) where
    pub onwards : (s.at < length st) × (s.at < e.next)
    onwards =
        let h : s.at < length st = some-within st s.at e q in
        (h, (next-at st s.at e.kind e.fields e.next h q).onwards)

    behind-counted : Counted (behind e s)
    unfolding Counted
    behind-counted = (omega (arith, w.counted.0), omega (arith, w.counted.1, onwards.1))

    -- a record that holds no name, and one that does
    pub walking-other : is_name_kind (number_of e.kind) ≡ false → Walking (behind e s)
    unfolding names_at names_from is_name_kind
    walking-other o =
        record {
          names = w.names ∙ rw (rest-is st s.at, (next-at st s.at e.kind e.fields e.next onwards.0 q).here, o, rest-is st e.next, add-one);
          counted = behind-counted;
          count = w.count;
        }

    pub walking-name : (x : Named) (a : Spot) → name_of x ≡ name_in ar e s → a ≡ behind e s → is_name_kind (number_of e.kind) ≡ true →
        Ahead st ar from (Some (record { name = x; after = record a { count = s.count + 1 } }))
    unfolding names_at names_from is_name_kind listed Kept Counted
    walking-name x a n g o =
        record {
          names = w.names ∙ rw (n, g, rest-is st s.at, (next-at st s.at e.kind e.fields e.next onwards.0 q).here, o, rest-is st e.next, add-one);
          kept = rw g (omega (arith, w.count), (omega (arith, w.counted.0), omega (arith, w.counted.1, onwards.1)));
        }

-- what a step tells its caller
pub record Meets (st ar : List ℕ) (s : Spot) (x : Named) (after : Spot) : Type 0 where
  pub names : names_at st ar s ≡ name_of x ∷ names_at st ar after
  pub count : after.count ≡ s.count + 1
  pub counted : Counted after

pub met : (st ar : List ℕ) (s : Spot) (m : Met) → Ahead st ar s (Some m) → Meets st ar s m.name m.after
unfolding listed Kept
met st ar s m a = record { names = a.names; count = a.kept.0; counted = a.kept.1 }

pub ended : (st ar : List ℕ) (s : Spot) → Ahead st ar s None → names_at st ar s ≡ []
unfolding listed
ended st ar s a = a.names

-- a step that so many names bound
pub before-over : (st ar : List ℕ) (end : ℕ) (s : Spot) → end ≤ s.count → Before st ar end s None
before-over st ar end s l = record { ahead = λ k. absurd (omega arith); over = λ k. refl }

pub before-step : (st ar : List ℕ) (end : ℕ) (s : Spot) (r : Option Met) → s.count < end → Ahead st ar s r → Before st ar end s r
before-step st ar end s r l a = record { ahead = λ k. a; over = λ k. absurd (omega arith) }

pub record MeetsBefore (st ar : List ℕ) (end : ℕ) (s : Spot) (x : Named) (after : Spot) : Type 0 where
  pub meets : Meets st ar s x after
  pub within : s.count < end

pub met-before : (st ar : List ℕ) (end : ℕ) (s : Spot) (m : Met) → Before st ar end s (Some m) → MeetsBefore st ar end s m.name m.after
met-before st ar end s m b = by (leb end s.count) refl
  where
    by : (t : Bool) → leb end s.count ≡ t → MeetsBefore st ar end s m.name m.after
    by true o =
        let f : Some m ≡ None = b.over (leb-true end s.count o) in
        cc
    by false o =
        let l : s.count < end = leb-false end s.count o in
        record { meets = met st ar s m (b.ahead l); within = l }

-- the walk starts with all names
pub names-first : (st ar : List ℕ) → names st ar ≡ names_at st ar first
unfolding names names_at
names-first st ar = rw (entries-first st)

pub counted-first : Counted first
unfolding Counted
counted-first = (omega arith, omega arith)

pub reached-first : (st ar : List ℕ) → Reached st ar first
reached-first st ar = record { names = sym (names-first st ar); counted = counted-first }

pub reached-next : (st ar : List ℕ) (s : Spot) (x : Named) (after : Spot) → Reached st ar s → Meets st ar s x after → Reached st ar after
reached-next st ar s x after r m =
    record {
      names = sym (ap (λ (n : ℕ). drop n (names st ar)) m.count ∙ drop-next (names st ar) s.count _ _ (sym r.names ∙ m.names));
      counted = m.counted;
    }

-- fewer names are left
pub meets-less : (st ar : List ℕ) (s : Spot) (x : Named) (after : Spot) → Meets st ar s x after → length (names_at st ar after) < length (names_at st ar s)
meets-less st ar s x after m =
    let l : length (names_at st ar s) ≡ suc (length (names_at st ar after)) = ap length m.names in
    omega arith
