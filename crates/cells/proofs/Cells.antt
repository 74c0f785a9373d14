-- Laws of the values of a store: what stands at a spot, and where that leads; and that each value takes 17 bytes of the store or more. Assumes nothing.
use Prim.Native.Nat.{ℕ, zero, suc, ◌+◌, ◌-◌, ◌*◌, ◌/◌, ◌%◌, ◌≤◌, ◌<◌}
use mathlib.Core.Path.{◌≡◌, refl, sym, ap, ap₂, ◌∙◌}
use mathlib.Core.Bool.{Bool, true, false, cond, ◌&&◌, true≢false}
use mathlib.Core.List.{List, [], ◌∷◌}
use native.Mathlib.Omega.{arith}
use native.Mathlib.Numerals.{add-one}
use native.Mathlib.Nat.{zero-mod, mod-zero, mod_self, mod-lt, mod-eq_of_lt, mod-add-mod}
use borrow.Author.Tests.{leb-true, leb-false, eqb-true, ne_eqb}
use lib.Dec.{eqb, leb}
use lib.ListN.{length, drop}
use lib.Seq.{drop-drop}
use Rattle.text.proofs.Bools.{or_cases, and_l}
use Rattle.kinds.specs.declared.Kind.{Kind}
use Rattle.kinds.specs.declared.Kind.TheVariants.{NoKind, Block, FrameOpen, FrameClose, Tag, Loop, LoopTag}
use Rattle.kinds.specs.declared.Kind.TheVariants.{LoopEnd, Inapplicable, Unknown, Bare, SingleQuoted}
use Rattle.kinds.specs.declared.Kind.TheVariants.{DoubleQuoted, Multiline, Number, Uncertain, Quoted}
use Rattle.kinds.specs.Kinds.{kind_of, number_of, shape_of, shape_length}
use Rattle.kinds.proofs.Numbering.{kind-number}
use Rattle.entries.specs.declared.Fields.{Fields}
use Rattle.entries.specs.declared.Entry.{Entry}
use Rattle.entries.specs.Entries.{entry_at, whole}
use Rattle.entries.proofs.Entering.{found}
use Rattle.entries.proofs.Walking.{rest, rest_all, rest_over, rest-none, next-at}
use Rattle.kinds.specs.Kinds.{is_value_kind}
use Rattle.cells.specs.declared.Here.{Here}
use Rattle.cells.specs.declared.Found.{Found}
use Rattle.cells.specs.declared.Leap.{Leap}
use Rattle.cells.specs.declared.Met.{Met}
use Rattle.cells.specs.Cells.{Cell, Under, outset, under, cell, cells_from, cells}
use Rattle.cells.specs.Walk.{entries_at, IsAt, under_of, cells_at, first, Placed, opened, closed, tagged, looped, counted, passed, here_after, cell_of, Lies, Finds, listed, Kept, Ahead, leap_of, count_of}
use Rattle.cells.proofs.Offsets.{entries-rest, at_first, at_next, at-behind}
use Rattle.std.specs.Prelude.{Option, Some, None}

-- a kind of values
pub value-high : (k : ℕ) → is_value_kind k ≡ true → 8 ≤ k
unfolding is_value_kind
value-high k e =
    or_cases (leb 8 k && leb k 15) (eqb k 21) (λ h. leb-true 8 k (and_l (leb 8 k) (leb k 15) h)) (λ h. let t : k ≡ 21 = eqb-true k 21 h in omega arith) e

value-long : (k : Kind) → is_value_kind (number_of k) ≡ true → 16 ≤ shape_length (shape_of k)
unfolding is_value_kind shape_of shape_length
value-long NoKind e = absurd (true≢false (sym e))
value-long Block e = omega arith
value-long FrameOpen e = omega arith
value-long FrameClose e = omega arith
value-long Tag e = omega arith
value-long Loop e = omega arith
value-long LoopTag e = omega arith
value-long LoopEnd e = absurd (true≢false (sym e))
value-long Inapplicable e = omega arith
value-long Unknown e = omega arith
value-long Bare e = omega arith
value-long SingleQuoted e = omega arith
value-long DoubleQuoted e = omega arith
value-long Multiline e = omega arith
value-long Number e = omega arith
value-long Uncertain e = omega arith
value-long Quoted e = omega arith

-- the next column: the first one again behind the last
column-next : (c t : ℕ) → (c % t + 1 ≡ t → ⊥) → (c + 1) % t ≡ c % t + 1
column-next c zero d = mod-zero (c + 1) ∙ rw (mod-zero c)
column-next c (suc t) d =
    let l : c % suc t < suc t = mod-lt c (omega arith) in
    sym (mod-add-mod c (suc t) 1) ∙ mod-eq_of_lt (omega arith)

column_again : (c t : ℕ) → c % t + 1 ≡ t → (c + 1) % t ≡ 0
column_again c t e = sym (mod-add-mod c t 1) ∙ ap (λ (z : ℕ). z % t) e ∙ mod_self t

-- its tag
pub tag-again : (es : List (Option Entry)) (c t : ℕ) → c % t + 1 ≡ t → es ≡ drop ((c + 1) % t) es
tag-again es c t e = rw (column_again c t e)

pub tag-next : (es l m : List (Option Entry)) (c t : ℕ) → (c % t + 1 ≡ t → ⊥) → l ≡ drop (c % t) es → m ≡ drop 1 l → m ≡ drop ((c + 1) % t) es
tag-next es l m c t d p q = q ∙ ap (drop 1) p ∙ drop-drop 1 (c % t) es ∙ rw (column-next c t d)

-- a value counts
pub under-value : (k n i : ℕ) (u : Under) → is_value_kind k ≡ true → under k n i u ≡ record { frame = u.frame; header = u.header; tags = u.tags; count = suc u.count }
unfolding under
under-value k n i u e =
    let h : 8 ≤ k = value-high k e in
    rw (ne_eqb k 2 (λ (q : k ≡ 2). omega arith), ne_eqb k 3 (λ (q : k ≡ 3). omega arith), ne_eqb k 4 (λ (q : k ≡ 4). omega arith), ne_eqb k 5 (λ (q : k ≡ 5). omega arith), e)

-- any other record leads on
module _ (k n next : ℕ) (h : Here) where
  after-at : (here_after k n next h).at ≡ next
  unfolding here_after
  after-at = by (eqb k 2) (eqb k 3) (eqb k 4) (eqb k 5)
    where
      by : (a b c d : Bool) → (cond a (opened next h) (cond b (closed next h) (cond c (tagged next h) (cond d (looped n next h) (passed next h))))).at ≡ next
      by true b c d = refl
      by false true c d = refl
      by false false true d = refl
      by false false false true = refl
      by false false false false = refl

  after-number : (here_after k n next h).number ≡ suc h.number
  unfolding here_after
  after-number = by (eqb k 2) (eqb k 3) (eqb k 4) (eqb k 5) ∙ add-one h.number
    where
      by : (a b c d : Bool) → (cond a (opened next h) (cond b (closed next h) (cond c (tagged next h) (cond d (looped n next h) (passed next h))))).number ≡ h.number + 1
      by true b c d = refl
      by false true c d = refl
      by false false true d = refl
      by false false false true = refl
      by false false false false = refl

  after-under : is_value_kind k ≡ false → under_of (here_after k n next h) ≡ under k n h.number (under_of h)
  unfolding here_after under under_of
  after-under e = rw e (by (eqb k 2) (eqb k 3) (eqb k 4) (eqb k 5))
    where
      u : Under
      u = under_of h

      by :
          (a b c d : Bool) →
          under_of (cond a (opened next h) (cond b (closed next h) (cond c (tagged next h) (cond d (looped n next h) (passed next h))))) ≡
          cond a (record { frame = h.number; header = u.header; tags = u.tags; count = u.count })
          (cond b (record { frame = 0; header = u.header; tags = u.tags; count = u.count })
          (cond c (record { frame = u.frame; header = h.number; tags = 1; count = 0 }) (cond d (record { frame = u.frame; header = suc h.number; tags = n; count = 0 }) u)))
      by true b c d = refl
      by false true c d = refl
      by false false true d = refl
      by false false false true = rw (add-one h.number)
      by false false false false = refl

-- the values from a spot on, by its parts
cells-spot : (st : List ℕ) (h : Here) (at i : ℕ) (u : Under) → h.at ≡ at → h.number ≡ i → under_of h ≡ u → cells_at st h ≡ cells_from (rest st at) i u
unfolding cells_at
cells-spot st h at i u a b c =
    ap (λ (es : List (Option Entry)). cells_from es h.number (under_of h)) (ap (entries_at st) a ∙ entries-rest st at)
    ∙ ap (λ (n : ℕ). cells_from (rest st at) n (under_of h)) b
    ∙ ap (λ (v : Under). cells_from (rest st at) i v) c

-- what the walk meets at a spot
module _ (st : List ℕ) (h : Here) where
  pub cells_over : length st ≤ h.at → cells_at st h ≡ []
  unfolding cells_at cells_from
  cells_over l = rw (entries-rest st h.at, rest_over st h.at l)

  pub cells-none : h.at < length st → entry_at st h.at ≡ None → cells_at st h ≡ []
  unfolding cells_at cells_from
  cells-none l e = rw (entries-rest st h.at, rest-none st h.at l e)

  module _ (k : Kind) (f : Fields) (next : ℕ) (l : h.at < length st) (e : entry_at st h.at ≡ whole k f next) where
    pub cells-value : (name : ℕ) → is_value_kind (number_of k) ≡ true → cells_at st h ≡ cell h.number (under_of h) ∷ cells_at st (counted next name h)
    unfolding cells_at cells_from under_of
    cells-value name q = rw (entries-rest st h.at, (next-at st h.at k f next l e).here, q, under-value (number_of k) f.number h.number (under_of h) q, ← add-one h.number, ← add-one h.count, entries-rest st next)

    cells-pass : is_value_kind (number_of k) ≡ false → cells_at st h ≡ cells_from (rest st next) (suc h.number) (under (number_of k) f.number h.number (under_of h))
    unfolding cells_at cells_from
    cells-pass q = rw (entries-rest st h.at, (next-at st h.at k f next l e).here, q)

    pub cells-other : is_value_kind (number_of k) ≡ false → cells_at st h ≡ cells_at st (here_after (number_of k) f.number next h)
    cells-other q =
        cells-pass q
        ∙ sym (cells-spot st (here_after (number_of k) f.number next h) next _ _ (after-at (number_of k) f.number next h) (after-number (number_of k) f.number next h) (after-under (number_of k) f.number next h q))

    -- each record lies behind the one before
    pub onwards : h.at < next
    onwards = (next-at st h.at k f next l e).onwards

    pub placed-value : (name : ℕ) → entries_at st name ≡ drop ((h.count + 1) % h.tags) (entries_at st h.from) → Placed st h → Placed st (counted next name h)
    placed-value name n p =
        record {
          here = at_next st h.at h.number k f next l e p.here;
          frame = p.frame;
          header = p.header;
          column = n;
          counted = omega (arith, p.counted);
          within = omega (arith, p.within, onwards);
        }

    pub placed-after : (n : ℕ) → Placed st h → Placed st (here_after (number_of k) n next h)
    unfolding here_after
    placed-after n p = by (eqb (number_of k) 2) (eqb (number_of k) 3) (eqb (number_of k) 4) (eqb (number_of k) 5)
      where
        on : IsAt st next (h.number + 1)
        on = at_next st h.at h.number k f next l e p.here

        past : h.number + 1 ≤ next
        past = omega (arith, p.within, onwards)

        none : (n : ℕ) (es : List (Option Entry)) → es ≡ drop (0 % n) es
        none n es = rw (zero-mod n)

        by : (a b c d : Bool) → Placed st (cond a (opened next h) (cond b (closed next h) (cond c (tagged next h) (cond d (looped n next h) (passed next h)))))
        by true b c d = record { here = on; frame = p.here; header = p.header; column = p.column; counted = omega (arith, p.counted); within = past }
        by false true c d = record { here = on; frame = at_first st; header = p.header; column = p.column; counted = omega (arith, p.counted); within = past }
        by false false true d = record { here = on; frame = p.frame; header = p.here; column = refl; counted = omega arith; within = past }
        by false false false true = record { here = on; frame = p.frame; header = on; column = none n (entries_at st next); counted = omega arith; within = past }
        by false false false false = record { here = on; frame = p.frame; header = p.header; column = p.column; counted = omega (arith, p.counted); within = past }

-- the walk starts with all values
pub placed_first : (st : List ℕ) → Placed st first
placed_first st = record { here = at_first st; frame = at_first st; header = at_first st; column = refl; counted = omega arith; within = omega arith }

pub cells-first : (st : List ℕ) → cells st ≡ cells_at st first
unfolding cells cells_at under_of
cells-first st = rw (rest_all st, entries-rest st 0)

-- what a step tells its caller
pub record Meets (st : List ℕ) (h : Here) (x : Found) (after : Here) : Type 0 where
  pub values : cells_at st h ≡ cell_of x ∷ cells_at st after
  pub lies : Lies st x
  pub placed : Placed st after

pub met : (st : List ℕ) (h : Here) (r : Option Met) (m : Met) → Ahead st h r → r ≡ Some m → Meets st h m.value m.after
unfolding listed Kept
met st h r m a e =
    let k : Kept st (Some m) = rw e at a.kept in
    record { values = a.values ∙ rw e; lies = k.0; placed = k.1 }

pub ended : (st : List ℕ) (h : Here) (r : Option Met) → Ahead st h r → r ≡ None → cells_at st h ≡ []
unfolding listed
ended st h r a e = a.values ∙ rw e

pub ahead-end : (st : List ℕ) (h : Here) → cells_at st h ≡ [] → Ahead st h None
unfolding listed Kept
ahead-end st h e = record { values = e; kept = tt }

pub ahead-met : (st : List ℕ) (h : Here) (x : Found) (after : Here) → cells_at st h ≡ cell_of x ∷ cells_at st after → Lies st x → Placed st after → Ahead st h (Some (record { value = x; after = after }))
unfolding listed Kept
ahead-met st h x after e l p = record { values = e; kept = (l, p) }

-- fewer values are left
pub meets-less : (st : List ℕ) (h : Here) (x : Found) (after : Here) → Meets st h x after → length (cells_at st after) < length (cells_at st h)
meets-less st h x after m =
    let l : length (cells_at st h) ≡ suc (length (cells_at st after)) = ap length m.values in
    omega arith

-- each value takes 17 bytes or more
size_step :
    (st : List ℕ) (at i : ℕ) (u : Under) → ((next : ℕ) (v : Under) → at < next → at < length st → 17 * length (cells_from (rest st next) (suc i) v) ≤ length st - next) →
    17 * length (cells_from (rest st at) i u) ≤ length st - at
unfolding cells_from
size_step st at i u again = by (leb (length st) at) refl
  where
    each :
        (k : Kind) (f : Fields) (next : ℕ) → at < length st → entry_at st at ≡ whole k f next → (cs : List Cell) → 17 * length cs ≤ length st - next → (t : Bool) → is_value_kind (number_of k) ≡ t →
        17 * length (cond t (cell i u ∷ cs) cs) ≤ length st - at
    each k f next l q cs m true v = omega (arith, m, (found st at k f next q).after, value-long k v, (next-at st at k f next l q).within)
    each k f next l q cs m false v = omega (arith, m, (next-at st at k f next l q).onwards)

    within : at < length st → (x : Option Entry) → entry_at st at ≡ x → 17 * length (cells_from (rest st at) i u) ≤ length st - at
    within l None q = rw (rest-none st at l q) (omega arith)
    within l (Some e) q =
        let nx = next-at st at e.kind e.fields e.next l q in
        rw nx.here (each e.kind e.fields e.next l q (cells_from (rest st e.next) (suc i) (under (number_of e.kind) e.fields.number i u)) (again e.next (under (number_of e.kind) e.fields.number i u) nx.onwards l) (is_value_kind (number_of e.kind)) refl)

    by : (t : Bool) → leb (length st) at ≡ t → 17 * length (cells_from (rest st at) i u) ≤ length st - at
    by true q = rw (rest_over st at (leb-true (length st) at q)) (omega arith)
    by false q = within (leb-false (length st) at q) (entry_at st at) refl

size-from : (n : ℕ) (st : List ℕ) (at i : ℕ) (u : Under) → length st - at ≤ n → 17 * length (cells_from (rest st at) i u) ≤ length st - at
size-from zero st at i u m = size_step st at i u (λ next v l h. absurd (omega arith))
size-from (suc n) st at i u m = size_step st at i u (λ next v l h. size-from n st next (suc i) v (omega arith))

pub cells-size : (st : List ℕ) → 17 * length (cells st) ≤ length st
unfolding cells
cells-size st = rw (rest_all st) (omega (arith, size-from (length st) st 0 0 outset (omega arith)))

-- the value at a spot, by its column and its row
pub finds :
    (st : List ℕ) (h : Here) (column row : ℕ) → Placed st h → column ≡ h.count % h.tags → row ≡ h.count / h.tags →
    Finds st h (record { number = h.number; at = h.at; frame = h.frame; outer = h.outer; tag = h.header + column; name = h.name; row = row })
unfolding cell under_of
finds st h column row p c r =
    record {
      value = rw (c, r);
      lies = record { here = p.here; frame = p.frame; tag = at-behind st h.from h.header h.name column p.header (p.column ∙ rw (← c)) };
    }

-- a spot, at an offset, that a walk from another one has come to without a value between
pub record Comes (st : List ℕ) (from h : Here) (at : ℕ) : Type 0 where
  pub stands : h.at ≡ at
  pub placed : Placed st h
  pub values : cells_at st from ≡ cells_at st h

module _ (st : List ℕ) (from h : Here) (at : ℕ) (w : Comes st from h at) where
  pub come-over : length st ≤ at → Ahead st from None
  come-over l = ahead-end st from (w.values ∙ cells_over st h (rw w.stands l))

  pub come-none : at < length st → entry_at st at ≡ None → Ahead st from None
  come-none l e = ahead-end st from (w.values ∙ cells-none st h (rw w.stands l) (rw w.stands e))

  -- no more records than bytes
  pub come-number : h.number ≤ at
  come-number = rw w.stands at w.placed.within

  module _ (k : Kind) (f : Fields) (next : ℕ) (l : at < length st) (e : entry_at st at ≡ whole k f next) where
    here : entry_at st h.at ≡ whole k f next
    here = rw w.stands e

    inside : h.at < length st
    inside = rw w.stands l

    pub come-onwards : at < next
    come-onwards = (next-at st at k f next l e).onwards

    pub come-value :
        is_value_kind (number_of k) ≡ true → (x : Found) → Finds st h x → (name : ℕ) → entries_at st name ≡ drop ((h.count + 1) % h.tags) (entries_at st h.from) →
        Ahead st from (Some (record { value = x; after = counted next name h }))
    come-value q x f' name n =
        ahead-met st from x (counted next name h) (w.values ∙ cells-value st h k f next inside here name q ∙ ap (λ (c : Cell). c ∷ cells_at st (counted next name h)) (sym f'.value)) f'.lies
        (placed-value st h k f next inside here name n w.placed)

    pub come-other : is_value_kind (number_of k) ≡ false → Comes st from (here_after (number_of k) f.number next h) next
    come-other q =
        record {
          stands = after-at (number_of k) f.number next h;
          placed = placed-after st h k f next inside here f.number w.placed;
          values = w.values ∙ cells-other st h k f next inside here q;
        }

-- what a leap tells of the record
pub record Leapt (e : Option Entry) (l : Leap) : Type 0 where
  pub fields : Fields
  pub is : e ≡ whole l.kind fields l.next

pub leapt : (e : Option Entry) (l : Leap) → leap_of e ≡ Some l → Leapt e l
unfolding leap_of
leapt (Some e) l q =
    let a : e.kind ≡ l.kind = cc in
    let b : e.next ≡ l.next = cc in
    record { fields = e.fields; is = ap₂ (λ (k : Kind) (n : ℕ). whole k e.fields n) a b }
leapt None l q = cc

pub leapt-none : (e : Option Entry) → leap_of e ≡ None → e ≡ None
unfolding leap_of
leapt-none (Some e) q = cc
leapt-none None q = refl

-- kinds that are not the same have other numbers
pub other-number : (k j : Kind) → (k ≡ j → ⊥) → eqb (number_of k) (number_of j) ≡ false
other-number k j d = ne_eqb (number_of k) (number_of j) (λ e. d (sym (kind-number k) ∙ ap kind_of e ∙ kind-number j))

-- tags count for loops alone
counts-loop : (k n next : ℕ) (h : Here) → here_after k (cond (eqb k 5) n 0) next h ≡ here_after k n next h
unfolding here_after
counts-loop k n next h = by (eqb k 5)
  where
    by :
        (t : Bool) →
        cond (eqb k 2) (opened next h) (cond (eqb k 3) (closed next h) (cond (eqb k 4) (tagged next h) (cond t (looped (cond t n 0) next h) (passed next h)))) ≡
        cond (eqb k 2) (opened next h) (cond (eqb k 3) (closed next h) (cond (eqb k 4) (tagged next h) (cond t (looped n next h) (passed next h))))
    by true = refl
    by false = refl

pub after-leap : (e : Option Entry) (l : Leap) (t : Leapt e l) (h : Here) → here_after (number_of l.kind) (cond (eqb (number_of l.kind) 5) (count_of e) 0) l.next h ≡ here_after (number_of l.kind) t.fields.number l.next h
unfolding count_of
after-leap e l t h = counts-loop (number_of l.kind) (count_of e) l.next h ∙ rw t.is
