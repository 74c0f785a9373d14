-- Laws of tables: what a table knows stays other than what it does not. Assumes nothing.
use Prim.Native.Nat.{ℕ, ◌+◌, ◌≤◌, ◌<◌}
use mathlib.Core.Path.{◌≡◌, refl, sym, ◌∙◌}
use mathlib.Core.Bool.{Bool, true, false, cond, true≢false}
use mathlib.Core.List.{List, ◌∷◌}
use native.Mathlib.Omega.{arith}
use borrow.Author.Tests.{eqb-true, eqb-false, eq-eqb, ne_eqb, leb-true, ltb-true, ltb-false}
use lib.Dec.{eqb, leb, ltb}
use lib.ListN.{length, drop}
use Rattle.slots.specs.Slots.{known, entered}
use Rattle.slots.proofs.Slots.{entered-keeps}
use Rattle.steps.specs.declared.Spot.{Spot}
use Rattle.names.specs.declared.Named.{Named}
use Rattle.names.specs.Names.{Name, names, same_both}
use Rattle.names.specs.Numbers.{hash_of}
use Rattle.names.specs.Parts.{name_of}
use Rattle.steps.specs.declared.Met.{Met}
use Rattle.steps.specs.Steps.{names_at, Reached, Before}
use Rattle.std.specs.Prelude.{Option, Some, None}
use Rattle.names.proofs.Lists.{same_head}
use Rattle.text.proofs.Bools.{never_true}
use Rattle.names.proofs.Same.{same-scope, same_bytes}
use Rattle.names.proofs.Numbers.{same-hash}
use Rattle.steps.proofs.Steps.{Meets, MeetsBefore, met-before, meets-less, reached-next}
use Rattle.sorted.specs.Found.{find_in}
use Rattle.sorted.proofs.Found.{find-same}
use Rattle.tables.specs.declared.Scope.{Scope}
use Rattle.tables.specs.Tables.{marked_with, found_by, past, last_after, Entering, Apart, AllMet, NoneMet, Starts, Walked, Owned, Passed}

-- a table answers for names that are the same alike
unfoldable pub Respects : (Name → Bool) → Type 0
Respects met = (x y : Name) → same_both x y ≡ true → met x ≡ met y

pub marked-same : (t : List ℕ) (many : Bool) (s : ℕ) → Respects (marked_with t many s)
unfolding Respects marked_with
marked-same t many s x y e = rw (same-hash x y e, same-scope x y e)

pub found-same : (w : Scope) (t : List ℕ) → Respects (found_by w t)
unfolding Respects found_by
found-same w t x y e = rw (find-same w.store.now w.area.now t x.bytes y.bytes (same_bytes x y e), same-scope x y e)

-- two names that are apart
pub apart-at : (xs : List Name) (s b m e : ℕ) → Apart xs s b m e → (i j : ℕ) (x y : Name) (p q : List Name) → b ≤ i → i < m → i < j → j < e → drop i xs ≡ x ∷ p → drop j xs ≡ y ∷ q → x.scope ≡ s → same_both x y ≡ false
unfolding Apart
apart-at xs s b m e a = a

-- no name yet
pub apart-first : (xs : List Name) (s b e : ℕ) → Apart xs s b b e
unfolding Apart
apart-first xs s b e i j x y p q l m = absurd (omega arith)

pub all_first : (xs : List Name) (s b : ℕ) (met : Name → Bool) → AllMet xs s met b b
unfolding AllMet
all_first xs s b met i x p l m = absurd (omega arith)

pub none_first : (xs : List Name) (b : ℕ) (met : Name → Bool) → NoneMet xs met b b
unfolding NoneMet
none_first xs b met j y q l m = absurd (omega arith)

-- one name more
module _ (xs : List Name) (n : ℕ) (x : Name) (r : List Name) (here : drop n xs ≡ x ∷ r) where
  pub none-next : (b : ℕ) (met : Name → Bool) → NoneMet xs met b n → met x ≡ false → NoneMet xs met b (n + 1)
  unfolding NoneMet
  none-next b met f e j y q l m d = by (eqb j n) refl
    where
      by : (t : Bool) → eqb j n ≡ t → met y ≡ false
      by true o =
          let i : j ≡ n = eqb-true j n o in
          let h : y ≡ x = same_head (drop n xs) y x q r (rw i at d) here in
          rw h e
      by false o =
          let i : ¬ (j ≡ n) = eqb-false j n o in
          f j y q l (omega arith) d

  pub all-next : (s b : ℕ) (met : Name → Bool) → AllMet xs s met b n → (x.scope ≡ s → met x ≡ true) → AllMet xs s met b (n + 1)
  unfolding AllMet
  all-next s b met f e j y q l m d c = by (eqb j n) refl
    where
      by : (t : Bool) → eqb j n ≡ t → met y ≡ true
      by true o =
          let i : j ≡ n = eqb-true j n o in
          let h : y ≡ x = same_head (drop n xs) y x q r (rw i at d) here in
          rw h (e (rw h at c))
      by false o =
          let i : ¬ (j ≡ n) = eqb-false j n o in
          f j y q l (omega arith) d c

-- what is met by one table is met by another
pub all_up : (xs : List Name) (s b n : ℕ) (f g : Name → Bool) → ((y : Name) → f y ≡ true → g y ≡ true) → AllMet xs s f b n → AllMet xs s g b n
unfolding AllMet
all_up xs s b n f g u a i x p l m d c = u x (a i x p l m d c)

-- names that are not met are other than those that are
pub apart-join : (xs : List Name) (s b m e : ℕ) (met : Name → Bool) → Respects met → Apart xs s b m m → AllMet xs s met b m → NoneMet xs met m e → Apart xs s b m e
unfolding Apart AllMet NoneMet Respects
apart-join xs s b m e met k a f g i j x y p q l o v w d c z = by (ltb j m) refl
  where
    by : (t : Bool) → ltb j m ≡ t → same_both x y ≡ false
    by true h = a i j x y p q l o v (ltb-true j m h) d c z
    by false h =
        never_true (same_both x y)
        (λ u. true≢false (sym (f i x p l o d z) ∙ (k x y u ∙ g j y q (ltb-false j m h) w c)))

-- behind the last name stands none
pub apart-last : (xs : List Name) (s b n : ℕ) → Apart xs s b n (n + 1) → Apart xs s b (n + 1) (n + 1)
unfolding Apart
apart-last xs s b n a i j x y p q l o v w d c z = a i j x y p q l (omega arith) v w d c z

-- up to an earlier name
pub apart-less : (xs : List Name) (s b m n e f : ℕ) → m ≤ n → f ≤ e → Apart xs s b n e → Apart xs s b m f
unfolding Apart
apart-less xs s b m n e f h k a i j x y p q l o v w d c z = a i j x y p q l (omega arith) v (omega arith) d c z

-- where all names are compared
pub apart-all : (xs : List Name) (s b m e : ℕ) → e ≤ m → Apart xs s b m e → Apart xs s b e e
unfolding Apart
apart-all xs s b m e h a i j x y p q l o v w d c z = a i j x y p q l (omega arith) v w d c z

-- two windows, the second from where the first ends
pub apart-two : (xs : List Name) (s b c m d e : ℕ) → d ≤ e → Apart xs s b c e → Apart xs s c m d → Apart xs s b m d
unfolding Apart
apart-two xs s b c m d e h f g i j x y p q l o v w u k z = by (ltb i c) refl
  where
    by : (t : Bool) → ltb i c ≡ t → same_both x y ≡ false
    by true a = f i j x y p q l (ltb-true i c a) v (omega arith) u k z
    by false a = g i j x y p q (ltb-false i c a) o v w u k z

-- one name more that is the same as none before it
apart-one : (xs : List Name) (s b n : ℕ) (x : Name) (r : List Name) → drop n xs ≡ x ∷ r → Apart xs s b n n →
    ((i : ℕ) (y : Name) (p : List Name) → b ≤ i → i < n → drop i xs ≡ y ∷ p → y.scope ≡ s → same_both y x ≡ false) → Apart xs s b (n + 1) (n + 1)
unfolding Apart
apart-one xs s b n x r here a f i j y z p q l o v w d c g = by (eqb j n) refl
  where
    by : (t : Bool) → eqb j n ≡ t → same_both y z ≡ false
    by true h =
        let e : j ≡ n = eqb-true j n h in
        let k : z ≡ x = same_head (drop n xs) z x q r (rw e at c) here in
        rw k (f i y p l (omega arith) d g)
    by false h =
        let e : ¬ (j ≡ n) = eqb-false j n h in
        a i j y z p q l (omega arith) v (omega arith) d c g

-- what is known stays known where a name is entered
marked-keeps : (t : List ℕ) (many : Bool) (s h : ℕ) (y : Name) → marked_with t many s y ≡ true → marked_with (entered t many h) many s y ≡ true
unfolding marked_with
marked-keeps t many s h y e = by (eqb y.scope s) e
  where
    by : (b : Bool) → cond b (known t many (hash_of y)) false ≡ true → cond b (known (entered t many h) many (hash_of y)) false ≡ true
    by true f = entered-keeps t many h (hash_of y) f
    by false f = f

-- a name of another scope, one that was met, and one that was not
module _ (t : List ℕ) (many : Bool) (s : ℕ) (x : Name) where
  pub enter_other : (x.scope ≡ s → ⊥) → Entering t many s x false t
  unfolding marked_with
  enter_other d = record { keeps = λ y e. e; new = λ e. rw (ne_eqb x.scope s d); there = λ e f. absurd (d f) }

  pub enter_met : Entering t many s x true t
  enter_met = record { keeps = λ y e. e; new = λ f. absurd (true≢false f); there = λ f g. absurd (true≢false f) }

  pub enter_new : (h : ℕ) (u : List ℕ) (a b r : Bool) → x.scope ≡ s → h ≡ hash_of x → a ≡ known t many h → a ≡ false → u ≡ entered t many h → b ≡ known u many h → (r ≡ false → b ≡ true) → Entering t many s x r u
  unfolding marked_with
  enter_new h u a b r c e k f v w g =
      record {
        keeps = λ y o. rw v (marked-keeps t many s h y o);
        new = λ o. rw (eq-eqb x.scope s c, ← e, ← k, f);
        there = λ o l. rw (eq-eqb x.scope s c, ← e, ← w, g o);
      }

-- the walk of a window
pub walked-first : (st ar : List ℕ) (end : ℕ) (s : Spot) → Reached st ar s → s.count ≤ end → Walked st ar end s s
walked-first st ar end s r l = record { reached = r; onwards = omega arith; within = l }

pub walked_next : (st ar : List ℕ) (end : ℕ) (from s : Spot) (x : Named) (after : Spot) → Walked st ar end from s → MeetsBefore st ar end s x after → Walked st ar end from after
walked_next st ar end from s x after w m =
    record {
      reached = reached-next st ar s x after w.reached m.meets;
      onwards = omega (arith, m.meets.count, w.onwards);
      within = omega (arith, m.meets.count, m.within);
    }

-- the name that is met stands behind those that were passed
here-is : (st ar : List ℕ) (s : Spot) (x : Named) (after : Spot) → Reached st ar s → Meets st ar s x after → drop s.count (names st ar) ≡ name_of x ∷ names_at st ar after
here-is st ar s x after r m = sym r.names ∙ m.names

-- names that are passed, and names that are entered
module _ (w : Scope) where
  abbrev xs : List Name
  xs = names w.store.now w.area.now

  pub passed_first : (met : Name → Bool) (s : Spot) → Starts w s → Passed w met s s
  passed_first met s r = record { walked = walked-first w.store.now w.area.now w.end s r.0 r.1; none = none_first xs s.count met }

  pub passed-next : (met : Name → Bool) (from s : Spot) (m : Met) (b : Bool) → Passed w met from s → Before w.store.now w.area.now w.end s (Some m) → b ≡ met (name_of m.name) → b ≡ false → Passed w met from m.after
  passed-next met from s m b p q e f =
      let k = met-before w.store.now w.area.now w.end s m q in
      record {
        walked = walked_next w.store.now w.area.now w.end from s m.name m.after p.walked k;
        none = rw k.meets.count (none-next xs s.count (name_of m.name) _ (here-is w.store.now w.area.now s m.name m.after p.walked.reached k.meets) from.count met p.none (sym e ∙ f));
      }

  pub owned-first : (met : Name → Bool) (h : Spot) → Starts w h → Owned w met h h
  owned-first met h r =
      record {
        walked = walked-first w.store.now w.area.now w.end h r.0 r.1;
        all = all_first xs w.number h.count met;
        apart = apart-first xs w.number h.count h.count;
      }

  -- one name more that is none of those in the table
  pub owned-next : (met more : Name → Bool) (from h : Spot) (m : Met) → Respects met → Owned w met from h → MeetsBefore w.store.now w.area.now w.end h m.name m.after → ((y : Name) → met y ≡ true → more y ≡ true) →
      met (name_of m.name) ≡ false → (m.name.scope ≡ w.number → more (name_of m.name) ≡ true) → Owned w more from m.after
  owned-next met more from h m k o q u e f =
      let x = name_of m.name in
      let here = here-is w.store.now w.area.now h m.name m.after o.walked.reached q.meets in
      let one : NoneMet xs met h.count (h.count + 1) = none-next xs h.count x _ here h.count met (none_first xs h.count met) e in
      record {
        walked = walked_next w.store.now w.area.now w.end from h m.name m.after o.walked q;
        all = rw q.meets.count (all-next xs h.count x _ here w.number from.count more (all_up xs w.number from.count h.count met more u o.all) f);
        apart = rw q.meets.count (apart-last xs w.number from.count h.count (apart-join xs w.number from.count h.count (h.count + 1) met k o.apart o.all one));
      }

  pub owned-enter : (many : Bool) (t u : List ℕ) (b : Bool) (from h : Spot) (m : Met) → Owned w (marked_with t many w.number) from h → Before w.store.now w.area.now w.end h (Some m) →
      Entering t many w.number (name_of m.name) b u → b ≡ false → Owned w (marked_with u many w.number) from m.after
  owned-enter many t u b from h m o q e f =
      owned-next (marked_with t many w.number) (marked_with u many w.number) from h m (marked-same t many w.number) o (met-before w.store.now w.area.now w.end h m q) e.keeps (e.new f) (e.there f)

  -- those before a name that was met stay known
  pub owned-kept : (many : Bool) (t u : List ℕ) (b : Bool) (x : Name) (from h : Spot) → Owned w (marked_with t many w.number) from h → Entering t many w.number x b u → Owned w (marked_with u many w.number) from h
  owned-kept many t u b x from h o e =
      record {
        walked = o.walked;
        all = all_up xs w.number from.count h.count (marked_with t many w.number) (marked_with u many w.number) e.keeps o.all;
        apart = o.apart;
      }

  -- a name that the walk meets is followed by fewer
  pub fewer : (s : Spot) (m : Met) → Before w.store.now w.area.now w.end s (Some m) → length (names_at w.store.now w.area.now m.after) < length (names_at w.store.now w.area.now s)
  fewer s m q = meets-less w.store.now w.area.now s m.name m.after (met-before w.store.now w.area.now w.end s m q).meets

  -- the names found so far: none behind the last of them
  module _ (t : List ℕ) (from : Spot) where
    abbrev found : Name → Option ℕ
    found y = find_in w.store.now w.area.now t y.bytes

    pub record Finding (last : ℕ) (h : Spot) : Type 0 where
      pub owned : Owned w (found_by w t) from h
      pub behind : (i : ℕ) (y : Name) (p : List Name) (at : ℕ) → from.count ≤ i → i < h.count → drop i xs ≡ y ∷ p → y.scope ≡ w.number → found y ≡ Some at → at < last

    pub finding-first : Starts w from → Finding 0 from
    finding-first r = record { owned = owned-first (found_by w t) from r; behind = λ i y p at a b. absurd (omega arith) }

    -- one name more, of the scope or not
    found-next : (last at : ℕ) (h : Spot) (m : Met) → Finding last h → MeetsBefore w.store.now w.area.now w.end h m.name m.after → m.name.scope ≡ w.number → found (name_of m.name) ≡ Some at → last ≤ at → Finding (at + 1) m.after
    unfolding found_by
    found-next last at h m f q c g l =
        let x = name_of m.name in
        let here = here-is w.store.now w.area.now h m.name m.after f.owned.walked.reached q.meets in
        record {
          owned =
              record {
                walked = walked_next w.store.now w.area.now w.end from h m.name m.after f.owned.walked q;
                all = rw q.meets.count (all-next xs h.count x _ here w.number from.count (found_by w t) f.owned.all (λ z. rw (eq-eqb m.name.scope w.number c, g)));
                apart =
                    rw q.meets.count
                    (apart-one xs w.number from.count h.count x _ here f.owned.apart
                    (λ i y p a b d z. never_true (same_both y x)
                    (λ u. let s : found y ≡ Some at = find-same w.store.now w.area.now t y.bytes x.bytes (same_bytes y x u) ∙ g in absurd (omega (arith, f.behind i y p at a b d z s)))));
              };
          behind = λ i y p n a b d z s. by here i y p n a b d z s (eqb i h.count) refl;
        }
      where
        by : drop h.count xs ≡ name_of m.name ∷ names_at w.store.now w.area.now m.after → (i : ℕ) (y : Name) (p : List Name) (n : ℕ) → from.count ≤ i → i < m.after.count → drop i xs ≡ y ∷ p → y.scope ≡ w.number → found y ≡ Some n → (b : Bool) →
            eqb i h.count ≡ b → n < at + 1
        by here i y p n a b d z s true e =
            let o : i ≡ h.count = eqb-true i h.count e in
            let k : y ≡ name_of m.name = same_head (drop h.count xs) y (name_of m.name) p _ (rw o at d) here in
            let v : Some n ≡ Some at = sym s ∙ rw k g in
            let same : n ≡ at = cc in
            omega arith
        by here i y p n a b d z s false e =
            let o : ¬ (i ≡ h.count) = eqb-false i h.count e in
            omega (arith, f.behind i y p n a (omega (arith, q.meets.count)) d z s)

    other-next : (last : ℕ) (h : Spot) (m : Met) → Finding last h → MeetsBefore w.store.now w.area.now w.end h m.name m.after → (m.name.scope ≡ w.number → ⊥) → Finding last m.after
    other-next last h m f q c =
        let x = name_of m.name in
        let here = here-is w.store.now w.area.now h m.name m.after f.owned.walked.reached q.meets in
        record {
          owned =
              record {
                walked = walked_next w.store.now w.area.now w.end from h m.name m.after f.owned.walked q;
                all = rw q.meets.count (all-next xs h.count x _ here w.number from.count (found_by w t) f.owned.all (λ z. absurd (c z)));
                apart = rw q.meets.count (apart-one xs w.number from.count h.count x _ here f.owned.apart (λ i y p a b d z. never_true (same_both y x) (λ u. c (sym (same-scope y x u) ∙ z))));
              };
          behind = λ i y p n a b d z s. by here i y p n a b d z s (eqb i h.count) refl;
        }
      where
        by : drop h.count xs ≡ name_of m.name ∷ names_at w.store.now w.area.now m.after → (i : ℕ) (y : Name) (p : List Name) (n : ℕ) → from.count ≤ i → i < m.after.count → drop i xs ≡ y ∷ p → y.scope ≡ w.number → found y ≡ Some n → (b : Bool) →
            eqb i h.count ≡ b → n < last
        by here i y p n a b d z s true e =
            let o : i ≡ h.count = eqb-true i h.count e in
            let k : y ≡ name_of m.name = same_head (drop h.count xs) y (name_of m.name) p _ (rw o at d) here in
            absurd (c (rw k at z))
        by here i y p n a b d z s false e =
            let o : ¬ (i ≡ h.count) = eqb-false i h.count e in
            f.behind i y p n a (omega (arith, q.meets.count)) d z s

    pub finding-next : (last next : ℕ) (h : Spot) (m : Met) → Finding last h → Before w.store.now w.area.now w.end h (Some m) → Some next ≡ last_after w t last (name_of m.name) → Finding next m.after
    unfolding last_after past
    finding-next last next h m f q e = by (eqb m.name.scope w.number) refl (found (name_of m.name)) refl e
      where
        k : MeetsBefore w.store.now w.area.now w.end h m.name m.after
        k = met-before w.store.now w.area.now w.end h m q

        by : (a : Bool) → eqb m.name.scope w.number ≡ a → (o : Option ℕ) → found (name_of m.name) ≡ o → Some next ≡ cond a (past last o) (Some last) → Finding next m.after
        by true p None g v = cc
        by true p (Some at) g v = to (leb last at) refl v
          where
            to : (b : Bool) → leb last at ≡ b → Some next ≡ cond b (Some (at + 1)) None → Finding next m.after
            to true l z =
                let n : next ≡ at + 1 = cc in
                rw n (found-next last at h m f k (eqb-true m.name.scope w.number p) g (leb-true last at l))
            to false l z = cc
        by false p o g v =
            let n : next ≡ last = cc in
            rw n (other-next last h m f k (eqb-false m.name.scope w.number p))
