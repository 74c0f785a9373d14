-- Laws of the list of changes: one entry at most for each value, so that its bytes are no more than the store's; entry by entry, counted and written. Assumes nothing.
use Prim.Native.Nat.{ℕ, zero, suc, ◌+◌, ◌*◌, ◌%◌, ◌≤◌, ◌<◌}
use mathlib.Core.Path.{◌≡◌, refl, sym, ap, ◌∙◌}
use mathlib.Core.Bool.{Bool, true, false, cond}
use mathlib.Core.List.{List, [], ◌∷◌, ◌++◌, append_assoc, append-nil}
use mathlib.Core.Option.{Option, none, some}
use native.Mathlib.Omega.{arith}
use lib.Dec.{eqb}
use lib.ListN.{length, set, get_or, replicate, length-append, take-append-drop}
use Rattle.records.specs.Bytes.{le64}
use Rattle.records.specs.Put.{front, put}
use Rattle.records.proofs.Forms.{length-long}
use Rattle.records.proofs.Putting.{put-more, length-put}
use Rattle.kinds.specs.declared.Kind.{Kind}
use Rattle.entries.specs.declared.Fields.{Fields}
use Rattle.entries.specs.declared.Entry.{Entry}
use Rattle.entries.specs.Entries.{entry_at, whole}
use Rattle.entries.specs.Walk.{entries}
use Rattle.cells.specs.declared.Here.{Here}
use Rattle.cells.specs.declared.Found.{Found}
use Rattle.cells.specs.declared.Met.{Met}
use Rattle.cells.specs.Cells.{Cell, cells}
use Rattle.cells.specs.Walk.{IsAt, cells_at, first, cell_of, Lies, Ahead}
use Rattle.cells.proofs.Offsets.{entries-rest}
use Rattle.cells.proofs.Cells.{cells-first, placed_first, Meets, ended, cells-size}
use Rattle.stores.specs.Content.{nth}
use Rattle.stores.proofs.Numbered.{nth-at}
use Rattle.cases.specs.Cases.{case_of}
use Rattle.number_cases.specs.declared.Case.{Case}
use Rattle.number_cases.specs.declared.Case.TheVariants.{Same, OnlyOld, OnlyNew, Different, OldLarger, NewLarger, Uncertainty, Rewritten}
use Rattle.number_cases.specs.Numbers.{case_number}
use Rattle.matching.specs.declared.Sought.{Sought}
use Rattle.matching.specs.declared.Slot.{Slot}
use Rattle.matching.specs.Matching.{blank, Asks, Finds}
use Rattle.matching.proofs.Matching.{remembers-first, remembers-next}
use Rattle.partners.specs.Partners.{partner, Matched}
use Rattle.changes.specs.declared.Change.{Change}
use Rattle.changes.specs.declared.Walk.{Walk}
use Rattle.changes.specs.Steps.{Comparable, bytes_at, outset, Walks, Stepped}
use Rattle.changes.specs.Changes.{change, listed, of_old, of_new, of_side, of_all, side_of, change_bytes, changes_bytes}
use Rattle.std.specs.Prelude.{Option as Maybe, Some, None}
use Rattle.std.specs.Borrow.{MutBor}
use Rattle.std.proofs.lemmas.List.{length-replicate, length-set}

-- nothing put over a list leaves it as it is
pub put-none : (at : ℕ) (l : List ℕ) → put at [] l ≡ l
unfolding put front
put-none at l = take-append-drop at l

-- an entry's bytes, field by field
pub entry-put : (at : ℕ) (c : Change) (l : List ℕ) → at + 17 ≤ length l → put (at + 9) (le64 c.new) (put (at + 1) (le64 c.old) (put at (case_number c.case ∷ []) l)) ≡ put at (change_bytes c) l
unfolding change_bytes
entry-put at c l h =
    let nine : at + 9 ≡ at + length (case_number c.case ∷ le64 c.old) = omega (arith, length-long c.old) in
    ap (put (at + 9) (le64 c.new)) (put-more at (case_number c.case ∷ []) (le64 c.old) l (omega arith))
    ∙ ap (λ (n : ℕ). put n (le64 c.new) (put at (case_number c.case ∷ le64 c.old) l)) nine
    ∙ put-more at (case_number c.case ∷ le64 c.old) (le64 c.new) l (omega arith)

-- LENGTHS
bytes-long : (c : Change) → length (change_bytes c) ≡ 17
unfolding change_bytes
bytes-long c = ap suc (length-append (le64 c.old) (le64 c.new) ∙ rw (length-long c.old, length-long c.new))

pub bytes-append : (cs ds : List Change) → changes_bytes (cs ++ ds) ≡ changes_bytes cs ++ changes_bytes ds
unfolding changes_bytes
bytes-append [] ds = refl
bytes-append (c ∷ cs) ds = ap (λ (l : List ℕ). change_bytes c ++ l) (bytes-append cs ds) ∙ sym (append_assoc (change_bytes c) (changes_bytes cs) (changes_bytes ds))

pub bytes-length : (cs : List Change) → length (changes_bytes cs) ≡ 17 * length cs
unfolding changes_bytes
bytes-length [] = refl
bytes-length (c ∷ cs) =
    let more = bytes-length cs in
    let both = length-append (change_bytes c) (changes_bytes cs) in
    omega (arith, bytes-long c)

change-few : (n : Case) (i j : ℕ) → length (change n i j) ≤ 1
unfolding change
change-few n i j = by (eqb (case_number n) 0)
  where
    one : Change
    one = record { case = n; old = i; new = j }

    by : (t : Bool) → length (cond t [] (one ∷ [])) ≤ 1
    by true = omega arith
    by false = omega arith

-- whatever stands for what is missing, where nothing is
get-any : (l : List Slot) (i : ℕ) (d e : Slot) → i < length l → get_or l i d ≡ get_or l i e
get-any [] i d e h = absurd (omega arith)
get-any (x ∷ l) zero d e h = refl
get-any (x ∷ l) (suc i) d e h = get-any l i d e (omega arith)

-- what a search for the partner of the next value asks
pub asks-next :
    (st ar st' ar' : List ℕ) → Comparable st ar st' ar' → (w : Walk) → Walks st ar st' ar' w → (x : Found) (after : Here) → Meets st w.here x after → (d : Slot) →
    Asks st ar st' ar' x (get_or w.slots.now (x.tag % 128) d) w.last
asks-next st ar st' ar' c w k x after m d =
    let b : x.tag % 128 < length w.slots.now = omega (arith, k.sized) in
    record {
      lies = m.lies;
      singular = c.singular;
      claim = rw (get-any w.slots.now (x.tag % 128) d blank b) (k.remembers.claims (x.tag % 128));
      reached = k.remembers.reached;
    }

module _ (old : Bool) (st ar st' ar' : List ℕ) where
  side-few : (x : Cell) → length (of_side old st ar st' ar' x) ≤ 1
  unfolding of_side of_old of_new
  side-few x = by old (partner st ar st' ar' x) refl
    where
      by : (b : Bool) (o : Option Cell) → partner st ar st' ar' x ≡ o → length (of_side b st ar st' ar' x) ≤ 1
      by true none q = rw q (change-few OnlyOld x.number 0)
      by true (some y) q = rw q (change-few _ _ _)
      by false none q = rw q (change-few OnlyNew 0 x.number)
      by false (some y) q = rw q (omega arith)

  all-few : (xs : List Cell) → length (of_all old st ar st' ar' xs) ≤ length xs
  unfolding of_all
  all-few [] = omega arith
  all-few (x ∷ xs) =
      let one = side-few x in
      let more = all-few xs in
      let both = length-append (of_side old st ar st' ar' x) (of_all old st ar st' ar' xs) in
      omega arith

  -- the list takes no more bytes than the store
  pub side-fits : length (changes_bytes (side_of old st ar st' ar')) ≤ length st
  unfolding side_of
  side-fits = omega (arith, bytes-length (of_all old st ar st' ar' (cells st)), all-few (cells st), cells-size st)

  -- ENTRY BY ENTRY: the bytes of the values from a spot on
  abbrev pub all : List ℕ
  all = changes_bytes (side_of old st ar st' ar')

  abbrev pub rest : Here → List ℕ
  rest = bytes_at old st ar st' ar'

  rest-first : rest first ≡ all
  unfolding side_of bytes_at
  rest-first = rw (cells-first st)

  pub rest-end : (h : Here) (r : Maybe Met) → Ahead st h r → r ≡ None → rest h ≡ []
  unfolding bytes_at of_all changes_bytes
  rest-end h r a e = rw (ended st h r a e)

  rest_next : (h : Here) (x : Found) (after : Here) → Meets st h x after → (c : Maybe Change) → listed c ≡ of_side old st ar st' ar' (cell_of x) → rest h ≡ changes_bytes (listed c) ++ rest after
  unfolding bytes_at of_all
  rest_next h x after m c e = rw (m.values, e) (bytes-append (of_side old st ar st' ar' (cell_of x)) (of_all old st ar st' ar' (cells_at st after)))

  -- the walk's start, and behind a value
  pub walks-first : (s : MutBor (List Slot)) → s.now ≡ replicate 128 blank → Walks st ar st' ar' (outset s)
  walks-first s e = record { placed = placed_first st; remembers = rw e (remembers-first st ar st' ar' 128 blank first refl refl); sized = rw e (length-replicate 128 blank) }

  module _ (w : Walk) (k : Walks st ar st' ar' w) (x : Found) (after : Here) (m : Meets st w.here x after) (i : ℕ) (r : Sought) (f : Finds st ar st' ar' (cell_of x) r) where
    pub walks-next : Walks st ar st' ar' (record { here = after; last = r.last; slots = record w.slots { now = set w.slots.now i r.slot } })
    walks-next = record { placed = m.placed; remembers = remembers-next st ar st' ar' w.slots.now w.last i (cell_of x) r k.remembers f; sized = length-set w.slots.now i r.slot ∙ k.sized }

    pub rest-same : listed None ≡ of_side old st ar st' ar' (cell_of x) → rest w.here ≡ rest after
    unfolding listed changes_bytes
    rest-same e = rest_next w.here x after m None e

    pub step-some : (from : Walk) → rest from.here ≡ rest w.here → (c : Change) → listed (Some c) ≡ of_side old st ar st' ar' (cell_of x) → Stepped old st ar st' ar' from (Some c) (record { here = after; last = r.last; slots = record w.slots { now = set w.slots.now i r.slot } })
    unfolding Stepped listed changes_bytes
    step-some from q c e = (walks-next, q ∙ rest_next w.here x after m (Some c) e ∙ ap (λ (l : List ℕ). l ++ rest after) (append-nil (change_bytes c)))

  pub step-none : (from w w' : Walk) → rest from.here ≡ rest w.here → (r : Maybe Met) → Ahead st w.here r → r ≡ None → Stepped old st ar st' ar' from None w'
  unfolding Stepped
  step-none from w w' q r a e = q ∙ rest-end w.here r a e

  -- counted so far, with what is left, is all
  pub record Counts (w : Walk) (total : ℕ) : Type 0 where
    pub walks : Walks st ar st' ar' w
    pub sum : total + length (rest w.here) ≡ length all

  pub count-first : (s : MutBor (List Slot)) → s.now ≡ replicate 128 blank → Counts (outset s) 0
  count-first s e = record { walks = walks-first s e; sum = omega (arith, ap length rest-first) }

  pub count-end : (w w' : Walk) (total : ℕ) (r : Maybe Change) → Counts w total → Stepped old st ar st' ar' w r w' → r ≡ None → total ≡ length all
  unfolding Stepped
  count-end w w' total r k s e = let z : rest w.here ≡ [] = rw e at s in omega (arith, k.sum, ap length z)

  module _ (w w' : Walk) (c : Change) (s : Stepped old st ar st' ar' w (Some c) w') where
    -- an entry takes its 17 bytes of what is left
    pub stepped-less : length (rest w.here) ≡ 17 + length (rest w'.here)
    unfolding Stepped
    stepped-less = ap length s.1 ∙ length-append (change_bytes c) (rest w'.here) ∙ ap (λ (n : ℕ). n + length (rest w'.here)) (bytes-long c)

    stepped-walks : Walks st ar st' ar' w'
    unfolding Stepped
    stepped-walks = s.0

    stepped-rest : rest w.here ≡ change_bytes c ++ rest w'.here
    unfolding Stepped
    stepped-rest = s.1

    pub count-within : (total : ℕ) → Counts w total → total + 17 ≤ length st
    count-within total k = omega (arith, k.sum, stepped-less, side-fits)

    pub count_next : (total : ℕ) → Counts w total → Counts w' (total + 17)
    count_next total k = record { walks = stepped-walks; sum = omega (arith, k.sum, stepped-less) }

  -- written so far, with what is left, is all
  pub record Writes (from : ℕ) (l₀ l : List ℕ) (w : Walk) (at : ℕ) : Type 0 where
    pub walks : Walks st ar st' ar' w
    pub done : List ℕ
    pub stands : at ≡ from + length done
    pub holds : l ≡ put from done l₀
    pub whole : done ++ rest w.here ≡ all
    pub room : from + length all ≤ length l₀

  pub write-first : (s : MutBor (List Slot)) → s.now ≡ replicate 128 blank → (from : ℕ) (l : List ℕ) → from + length all ≤ length l → Writes from l l (outset s) from
  write-first s e from l r = record { walks = walks-first s e; done = []; stands = omega arith; holds = sym (put-none from l); whole = rest-first; room = r }

  pub write-length : (from : ℕ) (l₀ l : List ℕ) (w : Walk) (at : ℕ) → Writes from l₀ l w at → length l ≡ length l₀
  write-length from l₀ l w at k = ap length k.holds ∙ length-put from k.done l₀ (omega (arith, length-append k.done (rest w.here), ap length k.whole, k.room))

  pub write-end : (from : ℕ) (l₀ l : List ℕ) (w w' : Walk) (at : ℕ) (r : Maybe Change) → Writes from l₀ l w at → Stepped old st ar st' ar' w r w' → r ≡ None → l ≡ put from all l₀
  unfolding Stepped
  write-end from l₀ l w w' at r k s e =
      let z : rest w.here ≡ [] = rw e at s in
      k.holds ∙ ap (λ (d : List ℕ). put from d l₀) (sym (append-nil k.done) ∙ ap (λ (b : List ℕ). k.done ++ b) (sym z) ∙ k.whole)

  module _ (from : ℕ) (l₀ l : List ℕ) (w : Walk) (at : ℕ) (k : Writes from l₀ l w at) (w' : Walk) (c : Change) (s : Stepped old st ar st' ar' w (Some c) w') where
    so_far : length k.done + (17 + length (rest w'.here)) ≡ length all
    so_far = ap (λ (n : ℕ). length k.done + n) (sym (stepped-less w w' c s)) ∙ sym (length-append k.done (rest w.here)) ∙ ap length k.whole

    pub write-room : at + 17 ≤ length l
    write-room = omega (arith, so_far, k.room, k.stands, write-length from l₀ l w at k)

    pub write-next : (l' : List ℕ) → l' ≡ put at (change_bytes c) l → Writes from l₀ l' w' (at + 17)
    write-next l' p =
        record {
          walks = stepped-walks w w' c s;
          done = k.done ++ change_bytes c;
          stands = omega (arith, k.stands, length-append k.done (change_bytes c), bytes-long c);
          holds = p ∙ ap (λ (i : ℕ). put i (change_bytes c) l) k.stands ∙ ap (put (from + length k.done) (change_bytes c)) k.holds ∙ put-more from k.done (change_bytes c) l₀ (omega (arith, so_far, k.room, bytes-long c));
          whole = append_assoc k.done (change_bytes c) (rest w'.here) ∙ ap (λ (b : List ℕ). k.done ++ b) (sym (stepped-rest w w' c s)) ∙ k.whole;
          room = k.room;
        }

-- ONE VALUE
pub same-number : (c : Case) → c ≡ Same → case_number c ≡ 0
unfolding case_number
same-number c e = ap case_number e

pub other-same : (c : Case) → (c ≡ Same → ⊥) → eqb (case_number c) 0 ≡ false
unfolding case_number
other-same Same d = absurd (d refl)
other-same OnlyOld d = refl
other-same OnlyNew d = refl
other-same Different d = refl
other-same OldLarger d = refl
other-same NewLarger d = refl
other-same Uncertainty d = refl
other-same Rewritten d = refl

module _ (st ar st' ar' : List ℕ) (x : Found) (r : Maybe Found) (o : Matched st' r (partner st ar st' ar' (cell_of x))) where
  pub old-missing : r ≡ None → listed (Some (record { case = OnlyOld; old = x.number; new = 0 })) ≡ of_side true st ar st' ar' (cell_of x)
  unfolding of_side of_old Matched listed change case_number
  old-missing e =
      let n : Matched st' None (partner st ar st' ar' (cell_of x)) = rw e at o in
      rw n

  pub new-missing : r ≡ None → listed (Some (record { case = OnlyNew; old = 0; new = x.number })) ≡ of_side false st ar st' ar' (cell_of x)
  unfolding of_side of_new Matched listed change case_number
  new-missing e =
      let n : Matched st' None (partner st ar st' ar' (cell_of x)) = rw e at o in
      rw n

  module _ (y : Found) (e : r ≡ Some y) where
    is-partner : Matched st' (Some y) (partner st ar st' ar' (cell_of x))
    is-partner = rw e at o

    pub partner-lies : Lies st' y
    unfolding Matched
    partner-lies = is-partner.1

    pub new_is : listed None ≡ of_side false st ar st' ar' (cell_of x)
    unfolding of_side of_new Matched listed
    new_is = rw is-partner.0

    any-end : (u v : List ℕ) (e' : Maybe Entry) (k : Kind) (f : Fields) (n m : ℕ) → case_of u v (whole k f n) e' ≡ case_of u v (whole k f m) e'
    unfolding case_of
    any-end u v None k f n m = refl
    any-end u v (Some e) k f n m = refl

    any-other : (u v : List ℕ) (e' : Maybe Entry) (k : Kind) (f : Fields) (n m : ℕ) → case_of u v e' (whole k f n) ≡ case_of u v e' (whole k f m)
    unfolding case_of
    any-other u v None k f n m = refl
    any-other u v (Some e) k f n m = refl

    case-by : Lies st x → case_of ar ar' (entry_at st x.at) (entry_at st' y.at) ≡ case_of ar ar' (nth (entries st) x.number) (nth (entries st') y.number)
    unfolding IsAt
    case-by l =
        nth-at (λ (z : Maybe Entry). case_of ar ar' z (entry_at st' y.at)) (any-end ar ar' (entry_at st' y.at)) st x.at x.number (sym (entries-rest st x.at) ∙ l.here)
        ∙ nth-at (case_of ar ar' (nth (entries st) x.number)) (any-other ar ar' (nth (entries st) x.number)) st' y.at y.number (sym (entries-rest st' y.at) ∙ partner-lies.here)

    old-by : (c : Case) → Lies st x → c ≡ case_of ar ar' (entry_at st x.at) (entry_at st' y.at) → change c x.number y.number ≡ of_side true st ar st' ar' (cell_of x)
    unfolding of_side of_old Matched
    old-by c l q = rw is-partner.0 (ap (λ (n : Case). change n x.number y.number) (q ∙ case-by l))

    pub old-same : (c : Case) → c ≡ Same → Lies st x → c ≡ case_of ar ar' (entry_at st x.at) (entry_at st' y.at) → listed None ≡ of_side true st ar st' ar' (cell_of x)
    unfolding listed change case_number
    old-same c d l q = old-by Same l (sym d ∙ q)

    pub old-is : (c : Case) → (c ≡ Same → ⊥) → Lies st x → c ≡ case_of ar ar' (entry_at st x.at) (entry_at st' y.at) → listed (Some (record { case = c; old = x.number; new = y.number })) ≡ of_side true st ar st' ar' (cell_of x)
    unfolding listed change
    old-is c d l q = sym (rw (other-same c d)) ∙ old-by c l q
