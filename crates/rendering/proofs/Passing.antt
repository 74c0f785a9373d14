-- Laws of the two walks over a sound store: one adds the lengths of the lines, one writes them. Assumes nothing.
use Prim.Native.Nat.{ℕ, ◌+◌, ◌-◌, ◌≤◌, ◌<◌}
use mathlib.Core.Path.{◌≡◌, sym, ap, ◌∙◌}
use mathlib.Core.Bool.{true}
use mathlib.Core.List.{List, [], ◌∷◌, ◌++◌}
use native.Mathlib.Omega.{arith}
use borrow.Author.Tests.{lt-ltb, le-ltb}
use lib.ListN.{length, take, drop, length-append, length-take, length-drop}
use lib.Seq.{take_all, take-add, drop-drop, take-append_seam, drop-append_seam}
use Rattle.rules.specs.declared.Reading.{Reading}
use Rattle.entries.specs.declared.Entry.{Entry}
use Rattle.kinds.specs.declared.Kind.{Kind}
use Rattle.entries.specs.declared.Fields.{Fields}
use Rattle.entries.specs.Entries.{entry_at, whole}
use Rattle.records.specs.Put.{front, put}
use Rattle.records.proofs.Putting.{length_front, front-none, front-next}
use Rattle.entries.specs.Walk.{entries}
use Rattle.contents.specs.Contents.{own_rule}
use Rattle.entries.proofs.Walking.{rest, rest_all, rest_over, rest-none, next-at}
use Rattle.rendering.specs.Rendering.{lines_of, rendering, limit}
use Rattle.record_lines.specs.Lines.{line_of}
use Rattle.record_lines.specs.Writing.{line_length}
use Rattle.rendering.specs.Rendering.{capped}
use Rattle.numerals.specs.Written.{Wrote}
use Rattle.stores.specs.Soundness.{Owned, more}
use Rattle.record_lines.proofs.Lines.{line-size}
use Rattle.std.specs.Prelude.{Option, None}

-- The lines from an offset of the store on

owned-first : (r : Reading) (ar : List ℕ) (k : Kind) (f : Fields) (n : ℕ) (es : List (Option Entry)) → Owned r ar (whole k f n ∷ es) → (own_rule r ar k f ≡ true) × Owned r ar es
owned-first r ar k f n es (more h o) = (h, o)

pub lines : (r : Reading) → List ℕ → List ℕ → ℕ → List ℕ
lines r st ar from = lines_of r ar (rest st from)

module _ (r : Reading) (st ar : List ℕ) (from : ℕ) where
  lines-over : length st ≤ from → lines r st ar from ≡ []
  unfolding lines lines_of
  lines-over h = rw (rest_over st from h)

  lines_none : from < length st → entry_at st from ≡ None → lines r st ar from ≡ []
  unfolding lines lines_of line_of
  lines_none h e = rw (rest-none st from h e)

  module _ (k : Kind) (f : Fields) (next : ℕ) (h : from < length st) (e : entry_at st from ≡ whole k f next) where
    lines_next : lines r st ar from ≡ line_of r ar (whole k f 0) ++ lines r st ar next
    unfolding lines lines_of line_of
    lines_next = rw (next-at st from k f next h e).here

    owned-next : Owned r ar (rest st from) → (own_rule r ar k f ≡ true) × Owned r ar (rest st next)
    owned-next o = owned-first r ar k f (next - from) (rest st next) (rw (next-at st from k f next h e).here at o)

-- The first walk: the lines so far have the total as their length, which keeps the limit

pub record Summing (r : Reading) (st ar : List ℕ) (from total : ℕ) : Type 0 where
  pub owned : Owned r ar (rest st from)
  pub few : total ≤ 16777216
  pub sum : length (rendering r st ar) ≡ total + length (lines r st ar from)

pub summing-first : (r : Reading) (st ar : List ℕ) → Owned r ar (entries st) → Summing r st ar 0 0
unfolding rendering lines
summing-first r st ar o =
    record { owned = rw (← rest_all st) o; few = omega arith; sum = omega (arith, ap (λ (es : List (Option Entry)). length (lines_of r ar es)) (rest_all st)) }

capped-few : (n : ℕ) → n ≤ 16777216 → n ≡ capped n
unfolding capped limit
capped-few n h = rw (le-ltb 16777216 n h)

capped-over : (n : ℕ) → 16777216 < n → 16777216 + 1 ≡ capped n
unfolding capped limit
capped-over n h = rw (lt-ltb 16777216 n h)

summed : (r : Reading) (st ar : List ℕ) (from total : ℕ) → lines r st ar from ≡ [] → Summing r st ar from total → total ≡ capped (length (rendering r st ar))
summed r st ar from total e w =
    let sum : length (rendering r st ar) ≡ total = w.sum ∙ rw e (omega arith) in
    rw sum (capped-few total w.few)

pub summing-end : (r : Reading) (st ar : List ℕ) (from total : ℕ) → length st ≤ from → Summing r st ar from total → total ≡ capped (length (rendering r st ar))
summing-end r st ar from total h w = summed r st ar from total (lines-over r st ar from h) w

pub summing-none : (r : Reading) (st ar : List ℕ) (from total : ℕ) → from < length st → entry_at st from ≡ None → Summing r st ar from total → total ≡ capped (length (rendering r st ar))
summing-none r st ar from total h e w = summed r st ar from total (lines_none r st ar from h e) w

module _ (r : Reading) (st ar : List ℕ) (from total : ℕ) (k : Kind) (f : Fields) (next : ℕ) (h : from < length st) (e : entry_at st from ≡ whole k f next) (w : Summing r st ar from total) where
  pub summing-own : own_rule r ar k f ≡ true
  summing-own = (owned-next r st ar from k f next h e w.owned).0

  -- the next line is one more of them
  more-lines : length (rendering r st ar) ≡ total + (line_length r ar k f + length (lines r st ar next))
  more-lines =
      let size = line-size r ar k f (owned-next r st ar from k f next h e w.owned).0 in
      let line : length (lines r st ar from) ≡ line_length r ar k f + length (lines r st ar next) =
      ap length (lines_next r st ar from k f next h e) ∙ (length-append (line_of r ar (whole k f 0)) (lines r st ar next) ∙ rw size) in
      omega (arith, w.sum, line)

  pub summing-over : 16777216 - total < line_length r ar k f → 16777216 + 1 ≡ capped (length (rendering r st ar))
  summing-over o = capped-over (length (rendering r st ar)) (omega (arith, more-lines, w.few))

  pub summing-more : line_length r ar k f ≤ 16777216 - total → Summing r st ar next (total + line_length r ar k f)
  summing-more o =
      record { owned = (owned-next r st ar from k f next h e w.owned).1; few = omega (arith, w.few); sum = omega (arith, more-lines) }

-- The second walk: the lines so far are written over l, which gives m, and the others are left

pub record Writing (r : Reading) (st ar l m : List ℕ) (from at : ℕ) : Type 0 where
  pub owned : Owned r ar (rest st from)
  pub room : length (rendering r st ar) ≤ length l
  pub within : at ≤ length (rendering r st ar)
  pub done : m ≡ front (take at (rendering r st ar)) l
  pub left : drop at (rendering r st ar) ≡ lines r st ar from

pub writing-first : (r : Reading) (st ar l : List ℕ) → Owned r ar (entries st) → length (rendering r st ar) ≤ length l → Writing r st ar l l 0 0
unfolding rendering lines
writing-first r st ar l o h =
    record {
      owned = rw (← rest_all st) o;
      room = h;
      within = omega arith;
      done = sym (front-none l);
      left = ap (lines_of r ar) (rest_all st);
    }

module _ (r : Reading) (st ar l m : List ℕ) (from at : ℕ) (w : Writing r st ar l m from at) where
  so_far : length (take at (rendering r st ar)) ≡ at
  so_far = omega (arith, w.within, length-take at (rendering r st ar))

  pub writing-length : length m ≡ length l
  writing-length = ap length w.done ∙ length_front (take at (rendering r st ar)) l (omega (arith, so_far, w.within, w.room))

  written : lines r st ar from ≡ [] → m ≡ front (rendering r st ar) l
  written e =
      let none : length (drop at (rendering r st ar)) ≡ 0 = ap length (w.left ∙ e) in
      w.done ∙ rw (take_all at (rendering r st ar) (omega (arith, length-drop at (rendering r st ar))))

  pub writing-end : length st ≤ from → m ≡ front (rendering r st ar) l
  writing-end h = written (lines-over r st ar from h)

  pub writing-none : from < length st → entry_at st from ≡ None → m ≡ front (rendering r st ar) l
  writing-none h e = written (lines_none r st ar from h e)

  module _ (k : Kind) (f : Fields) (next : ℕ) (h : from < length st) (e : entry_at st from ≡ whole k f next) where
    pub writing-own : own_rule r ar k f ≡ true
    writing-own = (owned-next r st ar from k f next h e w.owned).0

    line_first : drop at (rendering r st ar) ≡ line_of r ar (whole k f 0) ++ lines r st ar next
    line_first = w.left ∙ lines_next r st ar from k f next h e

    pub writing-room : at + length (line_of r ar (whole k f 0)) ≤ length m
    writing-room =
        omega (
          arith,
          w.within,
          w.room,
          writing-length,
          length-drop at (rendering r st ar),
          ap length line_first,
          length-append (line_of r ar (whole k f 0)) (lines r st ar next),
        )

    pub writing_more : (n : List ℕ) (q : ℕ) → Wrote at (line_of r ar (whole k f 0)) m n q → Writing r st ar l n next q
    writing_more n q p =
        let line = line_of r ar (whole k f 0) in
        let all = rendering r st ar in
        let taken : take q all ≡ take at all ++ line =
        ap (λ (i : ℕ). take i all) p.next ∙ (take-add at (length line) all ∙ rw (line_first, take-append_seam)) in
        record {
          owned = (owned-next r st ar from k f next h e w.owned).1;
          room = w.room;
          within = omega (arith, p.next, w.within, length-drop at all, ap length line_first, length-append line (lines r st ar next));
          done = p.bytes ∙ (ap (put at line) w.done ∙ (front-next at (take at all) line l so_far ∙ rw taken));
          left = ap (λ (i : ℕ). drop i all) p.next ∙ (sym (drop-drop (length line) at all) ∙ rw (line_first, drop-append_seam));
        }
