-- Laws of the table: what is known stays known. Assumes nothing.
use Prim.Native.Nat.{ℕ, zero, suc, ◌+◌, ◌≤◌, ◌<◌}
use mathlib.Core.Path.{◌≡◌, refl, sym, ◌∙◌}
use mathlib.Core.Bool.{Bool, true, false, cond, ◌||◌, true≢false}
use mathlib.Core.List.{List}
use native.Mathlib.Omega.{arith}
use native.Mathlib.Numerals.{add-one}
use borrow.Author.Tests.{eqb-true, ne_eqb}
use lib.Dec.{eqb}
use lib.ListN.{get_or, set, take, drop}
use lib.Seq.{get_or-set_other}
use Rattle.std.proofs.Common.{get_or-take, get_or-drop}
use Rattle.std.specs.Prelude.{Option, Some, None}
use Rattle.slots.specs.Slots.{slot_of, mark_of, holds_in, free_in, marked, known, entered}

pub within : (many : Bool) (h : ℕ) → slot_of many h + 16 ≤ 12288
unfolding slot_of
within true h = omega arith
within false h = omega arith

mark-some : (h : ℕ) → mark_of h ≡ 0 → ⊥
unfolding mark_of
mark-some h e = omega arith

-- one slot more that is looked at, of a part of the table
pub holds-next : (t : List ℕ) (n i slot mark : ℕ) → i < n → holds_in t (i + 1) slot mark ≡ (holds_in t i slot mark || eqb (get_or (take n (drop slot t)) i 0) mark)
unfolding holds_in
holds-next t n i slot mark l = rw (add-one, get_or-take, get_or-drop)

-- a slot that is empty, one that is not, none left
pub free-here : (t : List ℕ) (n slot : ℕ) → 0 < n → get_or t slot 0 ≡ 0 → free_in t n slot ≡ Some slot
unfolding free_in
free-here t zero slot h e = absurd (omega arith)
free-here t (suc n) slot h e = rw e

pub free_more : (t : List ℕ) (n m slot : ℕ) → n ≡ suc m → (get_or t slot 0 ≡ 0 → ⊥) → free_in t n slot ≡ free_in t m (slot + 1)
unfolding free_in
free_more t n m slot h d = rw (h, ne_eqb (get_or t slot 0) 0 d)

pub free-none : (t : List ℕ) (n slot : ℕ) → n ≡ 0 → free_in t n slot ≡ None
unfolding free_in
free-none t n slot h = rw h

-- a slot that is found is one of them
pub found-within : (t : List ℕ) (n slot s : ℕ) → free_in t n slot ≡ Some s → s < slot + n
unfolding free_in
found-within t zero slot s h = cc
found-within t (suc n) slot s h = by (eqb (get_or t slot 0) 0) h (found-within t n (slot + 1) s)
  where
    by : (b : Bool) → cond b (Some slot) (free_in t n (slot + 1)) ≡ Some s → (free_in t n (slot + 1) ≡ Some s → s < slot + 1 + n) → s < slot + suc n
    by true l f = let o : slot ≡ s = cc in omega arith
    by false l f = omega (arith, f l)

-- a slot that is found is empty
found-empty : (t : List ℕ) (n slot s : ℕ) → free_in t n slot ≡ Some s → get_or t s 0 ≡ 0
unfolding free_in
found-empty t zero slot s h = cc
found-empty t (suc n) slot s h = by (eqb (get_or t slot 0) 0) refl h (found-empty t n (slot + 1) s)
  where
    by : (b : Bool) → eqb (get_or t slot 0) 0 ≡ b → cond b (Some slot) (free_in t n (slot + 1)) ≡ Some s → (free_in t n (slot + 1) ≡ Some s → get_or t s 0 ≡ 0) → get_or t s 0 ≡ 0
    by true e l f = let o : slot ≡ s = cc in rw (← o) (eqb-true (get_or t slot 0) 0 e)
    by false e l f = f l

or_right : (a b : Bool) → b ≡ true → (a || b) ≡ true
or_right true b e = refl
or_right false b e = e

-- an empty slot is filled: a mark that is held is held still
holds-keeps : (t : List ℕ) (s v mark : ℕ) → get_or t s 0 ≡ 0 → (mark ≡ 0 → ⊥) → (n slot : ℕ) → holds_in t n slot mark ≡ true → holds_in (set t s v) n slot mark ≡ true
unfolding holds_in
holds-keeps t s v mark z d zero slot e = e
holds-keeps t s v mark z d (suc n) slot e = by (holds_in t n slot mark) refl (eqb (get_or t (slot + n) 0) mark) refl e (holds-keeps t s v mark z d n slot)
  where
    by : (a : Bool) → holds_in t n slot mark ≡ a → (b : Bool) → eqb (get_or t (slot + n) 0) mark ≡ b → (a || b) ≡ true → (holds_in t n slot mark ≡ true → holds_in (set t s v) n slot mark ≡ true) →
        (holds_in (set t s v) n slot mark || eqb (get_or (set t s v) (slot + n) 0) mark) ≡ true
    by true p b q f g = rw (g p)
    by false p false q f g = absurd (true≢false (sym f))
    by false p true q f g =
        let m : get_or t (slot + n) 0 ≡ mark = eqb-true (get_or t (slot + n) 0) mark q in
        let o : get_or (set t s v) (slot + n) 0 ≡ get_or t (slot + n) 0 = get_or-set_other t s (slot + n) v 0 (λ k. d (sym m ∙ rw k z)) in
        or_right (holds_in (set t s v) n slot mark) (eqb (get_or (set t s v) (slot + n) 0) mark) (rw o q)

-- what is known stays known
pub entered-keeps : (t : List ℕ) (many : Bool) (h g : ℕ) → known t many g ≡ true → known (entered t many h) many g ≡ true
unfolding entered known marked
entered-keeps t many h g e = by (free_in t 16 (slot_of many h)) refl
  where
    by : (o : Option ℕ) → free_in t 16 (slot_of many h) ≡ o → holds_in (marked t o (mark_of h)) 16 (slot_of many g) (mark_of g) ≡ true
    by None q = e
    by (Some s) q = holds-keeps t s (mark_of h) (mark_of g) (found-empty t 16 (slot_of many h) s q) (mark-some g) 16 (slot_of many g) e
