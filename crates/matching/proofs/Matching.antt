-- Laws of what is remembered: it stays true, whatever a search finds. Assumes nothing.
use Prim.Native.Nat.{ℕ, zero, suc, ◌<◌}
use mathlib.Core.Path.{◌≡◌, refl, sym, ap, subst, ◌∙◌}
use mathlib.Core.Bool.{true, false}
use mathlib.Core.List.{List, [], ◌∷◌, ◌++◌, append_assoc}
use mathlib.Core.Option.{none}
use Rattle.std.specs.Prelude.{Option as Maybe, Some, None}
use native.Mathlib.Omega.{arith}
use borrow.Author.Tests.{eqb-true, ltb-true}
use lib.Dec.{eqb}
use lib.ListN.{get_or, set, replicate}
use Rattle.text.proofs.Bools.{and_l, and_r}
use Rattle.cells.specs.declared.Here.{Here}
use Rattle.cells.specs.declared.Found.{Found}
use Rattle.cells.specs.declared.Met.{Met}
use Rattle.cells.specs.Cells.{Cell, cells}
use Rattle.cells.specs.Walk.{cells_at, first, Placed, cell_of, Ahead}
use Rattle.cells.proofs.Cells.{cells-first, placed_first, Meets, ended}
use Rattle.partners.specs.Partners.{meets, partner_in, partner, Matched}
use Rattle.soles.specs.Members.{In}
use Rattle.soles.specs.Singular.{Singular}
use Rattle.soles.proofs.Columns.{in-mid, met-partner, later-behind, none-later}
use Rattle.matching.specs.declared.Slot.{Slot}
use Rattle.matching.specs.declared.Sought.{Sought}
use Rattle.matching.specs.Matching.{Reached, is_for, partner_from, ReachedIf, Claim, blank, Asks, Behind, Searched, told_of, Finds, Remembers}

-- a slot is of the column, and of an earlier row
record For (s : Slot) (x : Cell) : Type 0 where
  tag : s.tag ≡ x.tag
  frame : s.frame ≡ x.frame
  row : s.row < x.row

for : (s : Slot) (x : Cell) → is_for s x ≡ true → For s x
unfolding is_for
for s x e =
    let rest = and_r (eqb s.tag x.tag) _ e in
    record {
      tag = eqb-true s.tag x.tag (and_l (eqb s.tag x.tag) _ e);
      frame = eqb-true s.frame x.frame (and_l (eqb s.frame x.frame) _ rest);
      row = ltb-true s.row x.row (and_r (eqb s.frame x.frame) _ rest);
    }

-- the first record's spot
pub reached-first : (st : List ℕ) → Reached st first
reached-first st = record { placed = placed_first st; before = []; values = cells-first st }

-- nothing is claimed where nothing is remembered
pub claim-blank : (st ar st' ar' : List ℕ) → Claim st ar st' ar' blank
unfolding partner partner_from ReachedIf
claim-blank st ar st' ar' = record { reached = reached-first st'; later = λ x e. ap (λ (ys : List Cell). partner_in st ar st' ar' ys x) (cells-first st') }

module _ (st : List ℕ) (h : Here) (r : Reached st h) (y : Found) (after : Here) (before : List Cell) (e : cells_at st h ≡ before ++ (cell_of y ∷ cells_at st after)) where
  -- a value behind a spot that is reached, among all
  all-values : cells st ≡ (r.before ++ before) ++ (cell_of y ∷ cells_at st after)
  all-values = r.values ∙ ap (λ (l : List Cell). r.before ++ l) e ∙ sym (append_assoc r.before before (cell_of y ∷ cells_at st after))

  among : In (cell_of y) (cells st)
  among = subst (λ (l : List Cell). In (cell_of y) l) (sym all-values) (in-mid (r.before ++ before) (cell_of y) (cells_at st after))

  -- and the spot behind it
  reached-after : Placed st after → Reached st after
  reached-after p =
      record {
        placed = p;
        before = (r.before ++ before) ++ (cell_of y ∷ []);
        values = all-values ∙ sym (append_assoc (r.before ++ before) (cell_of y ∷ []) (cells_at st after));
      }

module _ (st ar st' ar' : List ℕ) (x : Found) (g : Singular st' ar') where
  -- a search that found a value, from any spot that is reached
  pub finds-at : (from last : Here) (m : Met) → Reached st' from → Behind st ar st' ar' (cell_of x) from m.value m.after → Finds st ar st' ar' (cell_of x) (told_of x last (Some m))
  unfolding told_of Matched partner_from ReachedIf
  finds-at from last m r b =
      let ends = reached-after st' from r m.value m.after b.before b.values b.placed in
      record {
        partner = (met-partner st ar st' ar' g (cell_of x) (cell_of m.value) (among st' from r m.value m.after b.before b.values) b.meet, b.lies);
        claim =
            record {
              reached = ends;
              later = λ z e.
                  let f = for (record { tag = x.tag; frame = x.frame; row = x.row; spot = Some m.after }) z e in
                  later-behind st ar st' ar' g (cell_of x) z (sym f.tag) (sym f.frame) (cell_of m.value) (r.before ++ b.before) (cells_at st' m.after) (all-values st' from r m.value m.after b.before b.values) b.meet f.row;
            };
        last = ends;
      }

  -- there is none
  pub finds-none : (last : Here) → Reached st' last → partner st ar st' ar' (cell_of x) ≡ none → Finds st ar st' ar' (cell_of x) (told_of x last None)
  unfolding told_of Matched partner_from ReachedIf
  finds-none last l e =
      record {
        partner = e;
        claim =
            record {
              reached = tt;
              later = λ z q.
                  let f = for (record { tag = x.tag; frame = x.frame; row = x.row; spot = None }) z q in
                  none-later st ar st' ar' g (cell_of x) z (sym f.tag) (sym f.frame) (omega (arith, f.row)) e;
            };
        last = l;
      }

  -- what a search from the slot's spot, or from the first record, tells
  seen-finds : (from last : Here) → Reached st' from → Reached st' last → partner st ar st' ar' (cell_of x) ≡ partner_in st ar st' ar' (cells_at st' from) (cell_of x) →
      (s : Maybe Met) → Searched st ar st' ar' (cell_of x) from s → Finds st ar st' ar' (cell_of x) (told_of x last s)
  unfolding Searched
  seen-finds from last r l e (Some m) b = finds-at from last m r b
  seen-finds from last r l e None n = finds-none last l (e ∙ n)

  pub finds-first : (last : Here) → Reached st' last → (h : Here) → h ≡ first → (s : Maybe Met) → Searched st ar st' ar' (cell_of x) h s → Finds st ar st' ar' (cell_of x) (told_of x last s)
  unfolding partner
  finds-first last l h e s q =
      seen-finds first last (reached-first st') l (ap (λ (ys : List Cell). partner_in st ar st' ar' ys (cell_of x)) (cells-first st')) s (subst (λ (z : Here). Searched st ar st' ar' (cell_of x) z s) e q)

module _ (st ar st' ar' : List ℕ) (x : Found) (slot : Slot) (last : Here) (a : Asks st ar st' ar' x slot last) where
  -- the slot's spot is one that a walk comes to
  pub spot-reached : (h : Here) → slot.spot ≡ Some h → Reached st' h
  unfolding ReachedIf
  spot-reached h q = rw q at a.claim.reached

  -- what the slot claims of later rows it claims of this one
  pub finds-behind : is_for slot (cell_of x) ≡ true → (h : Here) → slot.spot ≡ Some h → (s : Maybe Met) → Searched st ar st' ar' (cell_of x) h s → Finds st ar st' ar' (cell_of x) (told_of x last s)
  unfolding partner_from
  finds-behind e h q s b = seen-finds st ar st' ar' x a.singular h last (spot-reached h q) a.reached (a.claim.later (cell_of x) e ∙ rw q) s b

  pub finds-gone : is_for slot (cell_of x) ≡ true → slot.spot ≡ None → Finds st ar st' ar' (cell_of x) (record { partner = None; slot = slot; last = last })
  unfolding Matched partner_from
  finds-gone e q = record { partner = a.claim.later (cell_of x) e ∙ rw q; claim = a.claim; last = a.reached }

  -- the value directly behind the last one
  pub finds-next : (m : Met) → Meets st' last m.value m.after → meets st ar st' ar' (cell_of x) (cell_of m.value) ≡ true → Finds st ar st' ar' (cell_of x) (record { partner = Some m.value; slot = slot; last = m.after })
  unfolding Matched
  finds-next m k e =
      record {
        partner = (met-partner st ar st' ar' a.singular (cell_of x) (cell_of m.value) (among st' last a.reached m.value m.after [] k.values) e, k.lies);
        claim = a.claim;
        last = reached-after st' last a.reached m.value m.after [] k.values k.placed;
      }

-- a search, value by value: none of those that were passed over is met
module _ (st ar st' ar' : List ℕ) (x : Cell) (from : Here) where
  pub record Seeks (h : Here) : Type 0 where
    pub placed : Placed st' h
    pub before : List Cell
    pub values : cells_at st' from ≡ before ++ cells_at st' h
    pub left : partner_in st ar st' ar' (cells_at st' from) x ≡ partner_in st ar st' ar' (cells_at st' h) x

  pub seek-first : Placed st' from → Seeks from
  seek-first p = record { placed = p; before = []; values = refl; left = refl }

  module _ (h : Here) (s : Seeks h) where
    pub seek-end : (r : Maybe Met) → Ahead st' h r → r ≡ None → Searched st ar st' ar' x from None
    unfolding partner_in Searched
    seek-end r a e = s.left ∙ rw (ended st' h r a e)

    module _ (n : Met) (m : Meets st' h n.value n.after) where
      pub seek_hit : meets st ar st' ar' x (cell_of n.value) ≡ true → Searched st ar st' ar' x from (Some n)
      unfolding Searched
      seek_hit q = record { before = s.before; values = s.values ∙ ap (λ (l : List Cell). s.before ++ l) m.values; meet = q; lies = m.lies; placed = m.placed }

      pub seek-miss : meets st ar st' ar' x (cell_of n.value) ≡ false → Seeks n.after
      unfolding partner_in
      seek-miss q =
          record {
            placed = m.placed;
            before = s.before ++ (cell_of n.value ∷ []);
            values = s.values ∙ ap (λ (l : List Cell). s.before ++ l) m.values ∙ sym (append_assoc s.before (cell_of n.value ∷ []) (cells_at st' n.after));
            left = s.left ∙ rw (m.values, q);
          }

-- where a search found a value
pub searched-at : (st ar st' ar' : List ℕ) (x : Cell) (from : Here) (s : Maybe Met) (m : Met) → Searched st ar st' ar' x from s → s ≡ Some m → Behind st ar st' ar' x from m.value m.after
unfolding Searched
searched-at st ar st' ar' x from s m h e = rw e at h

-- slots: what holds of each holds where one is stored, and of as many as there are of one
set-each : (P : Slot → Type 0) (l : List Slot) (i : ℕ) (v : Slot) → ((j : ℕ) → P (get_or l j blank)) → P v → (j : ℕ) → P (get_or (set l i v) j blank)
set-each P [] i v h q j = h j
set-each P (x ∷ l) zero v h q zero = q
set-each P (x ∷ l) zero v h q (suc j) = h (suc j)
set-each P (x ∷ l) (suc i) v h q zero = h zero
set-each P (x ∷ l) (suc i) v h q (suc j) = set-each P l i v (λ k. h (suc k)) q j

same-each : (P : Slot → Type 0) (n : ℕ) (v : Slot) → P v → P blank → (j : ℕ) → P (get_or (replicate n v) j blank)
same-each P zero v q d j = d
same-each P (suc n) v q d zero = q
same-each P (suc n) v q d (suc j) = same-each P n v q d j

module _ (st ar st' ar' : List ℕ) where
  pub remembers-first : (n : ℕ) (e : Slot) (h : Here) → e ≡ blank → h ≡ first → Remembers st ar st' ar' (replicate n e) h
  remembers-first n e h p q =
      record {
        claims = same-each (λ (s : Slot). Claim st ar st' ar' s) n e (rw p (claim-blank st ar st' ar')) (claim-blank st ar st' ar');
        reached = rw q (reached-first st');
      }

  pub remembers-next : (slots : List Slot) (last : Here) (i : ℕ) (x : Cell) (r : Sought) → Remembers st ar st' ar' slots last → Finds st ar st' ar' x r → Remembers st ar st' ar' (set slots i r.slot) r.last
  remembers-next slots last i x r m f = record { claims = set-each (λ (s : Slot). Claim st ar st' ar' s) slots i r.slot m.claims f.claim; reached = f.last }
