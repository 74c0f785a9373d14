-- Laws of scopes: a block's frames one after the other, with its own names all of the block's, and block after block all names. Assumes nothing.
use Prim.Native.Nat.{ℕ, ◌≤◌, ◌<◌}
use mathlib.Core.Path.{◌≡◌, refl, sym, ap, ◌∙◌}
use mathlib.Core.Bool.{Bool, true, false, ◌||◌}
use mathlib.Core.List.{List, ◌∷◌}
use native.Mathlib.Omega.{arith}
use borrow.Author.Tests.{eqb-true, eqb-false, ltb-true, ltb-false}
use lib.Dec.{eqb, ltb}
use lib.ListN.{length, drop, length-drop}
use Rattle.steps.specs.declared.Spot.{Spot}
use Rattle.names.specs.declared.Named.{Named}
use Rattle.names.specs.Names.{Name, names, same_both}
use Rattle.names.specs.Parts.{name_of}
use Rattle.steps.specs.Steps.{first, Reached}
use Rattle.names.proofs.Lists.{same_head}
use Rattle.text.proofs.Bools.{never_true, or_cases}
use Rattle.names.proofs.Same.{same-scope}
use Rattle.steps.proofs.Steps.{Meets, reached-first, reached-next}
use Rattle.windows.specs.Windows.{Ran}
use Rattle.tables.specs.declared.Scope.{Scope}
use Rattle.tables.specs.Tables.{Apart, Walked}
use Rattle.tables.proofs.Tables.{apart-at}
use Rattle.scopes.specs.declared.Blocked.{Blocked}
use Rattle.scopes.specs.Scopes.{OfScope, Between, Stretch, Framed, FramesApart, Frames, AllApart, Fresh}

-- a stretch of names
pub stretch-first : (st ar : List ℕ) (s : ℕ) (from : Spot) → Reached st ar from → Stretch st ar s from from
unfolding OfScope
stretch-first st ar s from r = record { reached = r; onwards = omega arith; all = λ j y q l m. absurd (omega arith) }

pub stretch-next : (st ar : List ℕ) (s : ℕ) (from h : Spot) (x : Named) (after : Spot) → Stretch st ar s from h → Meets st ar h x after → x.scope ≡ s → Stretch st ar s from after
unfolding OfScope
stretch-next st ar s from h x after w m c =
    record {
      reached = reached-next st ar h x after w.reached m;
      onwards = omega (arith, m.count, w.onwards);
      all = λ j y q l k d. by j y q l k d (eqb j h.count) refl;
    }
  where
    by : (j : ℕ) (y : Name) (q : List Name) → from.count ≤ j → j < after.count → drop j (names st ar) ≡ y ∷ q → (b : Bool) → eqb j h.count ≡ b → y.scope ≡ s
    by j y q l k d true e =
        let o : j ≡ h.count = eqb-true j h.count e in
        let v : y ≡ name_of x = same_head (drop h.count (names st ar)) y (name_of x) q _ (rw o at d) (sym w.reached.names ∙ m.names) in
        rw v c
    by j y q l k d false e =
        let o : ¬ (j ≡ h.count) = eqb-false j h.count e in
        w.all j y q l (omega (arith, m.count)) d

-- a frame: up to an earlier spot its names are of one scope too
pub framed : (scope : Scope) (from last r : Spot) → Stretch scope.store.now scope.area.now scope.number from last → scope.end ≡ last.count → Ran scope from r → Framed scope.store.now scope.area.now scope.number from r
unfolding OfScope
framed scope from last r w e n =
    record {
      stretch = record { reached = n.walked.reached; onwards = n.walked.onwards; all = λ j y q l k d. w.all j y q l (omega (arith, n.walked.within)) d };
      apart = n.apart;
    }

-- what stands before a spot, or between it and another
module _ (st ar : List ℕ) where
  -- a block's names so far: its frames' are other than each other, and the highest of their scopes is known
  pub framing-first : (s : ℕ) (from : Spot) → Reached st ar from → Frames st ar s from (record { end = from; top = s })
  unfolding FramesApart Between
  framing-first s from r =
      record { reached = r; onwards = omega arith; between = λ j y q l m. absurd (omega arith); above = omega arith; apart = λ i j x y p q b l m. absurd (omega arith) }

  -- names of the block's own behind them
  pub framing-block : (s top : ℕ) (from h r : Spot) → Frames st ar s from (record { end = h; top = top }) → Stretch st ar s h r → Frames st ar s from (record { end = r; top = top })
  unfolding FramesApart OfScope Between
  framing-block s top from h r f w =
      record {
        reached = w.reached;
        onwards = omega (arith, f.onwards, w.onwards);
        between = λ j y q b l d. low j y q b l d (ltb j h.count) refl;
        above = f.above;
        apart = λ i j x y p q b l m d e z. by i j x y p q b l m d e z (ltb j h.count) refl;
      }
    where
      low : (j : ℕ) (y : Name) (q : List Name) → from.count ≤ j → j < r.count → drop j (names st ar) ≡ y ∷ q → (t : Bool) → ltb j h.count ≡ t → (s ≤ y.scope) × (y.scope ≤ top)
      low j y q b l d true e = f.between j y q b (ltb-true j h.count e) d
      low j y q b l d false e =
          let o : y.scope ≡ s = w.all j y q (ltb-false j h.count e) l d in
          (omega arith, omega (arith, f.above))

      by : (i j : ℕ) (x y : Name) (p q : List Name) → from.count ≤ i → i < j → j < r.count → drop i (names st ar) ≡ x ∷ p → drop j (names st ar) ≡ y ∷ q → (x.scope ≡ s → ⊥) → (t : Bool) → ltb j h.count ≡ t →
          same_both x y ≡ false
      by i j x y p q b l m d e z true o = f.apart i j x y p q b l (ltb-true j h.count o) d e z
      by i j x y p q b l m d e z false o = never_true (same_both x y) (λ u. z (same-scope x y u ∙ w.all j y q (ltb-false j h.count o) m e))

  -- a frame behind them
  pub framing-frame : (s top t : ℕ) (from h r : Spot) → Frames st ar s from (record { end = h; top = top }) → top < t → Framed st ar t h r → Frames st ar s from (record { end = r; top = t })
  unfolding FramesApart OfScope Between
  framing-frame s top t from h r f g w =
      record {
        reached = w.stretch.reached;
        onwards = omega (arith, f.onwards, w.stretch.onwards);
        between = λ j y q b l d. low j y q b l d (ltb j h.count) refl;
        above = omega (arith, f.above);
        apart = λ i j x y p q b l m d e z. by i j x y p q b l m d e z (ltb j h.count) refl (ltb i h.count) refl;
      }
    where
      low : (j : ℕ) (y : Name) (q : List Name) → from.count ≤ j → j < r.count → drop j (names st ar) ≡ y ∷ q → (c : Bool) → ltb j h.count ≡ c → (s ≤ y.scope) × (y.scope ≤ t)
      low j y q b l d true e =
          let o = f.between j y q b (ltb-true j h.count e) d in
          (o.0, omega (arith, o.1))
      low j y q b l d false e =
          let o : y.scope ≡ t = w.stretch.all j y q (ltb-false j h.count e) l d in
          (omega (arith, f.above), omega arith)

      by : (i j : ℕ) (x y : Name) (p q : List Name) → from.count ≤ i → i < j → j < r.count → drop i (names st ar) ≡ x ∷ p → drop j (names st ar) ≡ y ∷ q → (x.scope ≡ s → ⊥) → (c : Bool) → ltb j h.count ≡ c → (a : Bool) →
          ltb i h.count ≡ a → same_both x y ≡ false
      by i j x y p q b l m d e z true o a v = f.apart i j x y p q b l (ltb-true j h.count o) d e z
      by i j x y p q b l m d e z false o true v =
          never_true (same_both x y)
          (λ u. absurd (omega (arith, (f.between i x p b (ltb-true i h.count v) d).1, w.stretch.all j y q (ltb-false j h.count o) m e, same-scope x y u)))
      by i j x y p q b l m d e z false o false v =
          apart-at (names st ar) t h.count r.count r.count w.apart i j x y p q (ltb-false i h.count v) (omega arith) l m d e (w.stretch.all i x p (ltb-false i h.count v) (omega arith) d)

  -- a name is met before the end
  pub meets-within : (h : Spot) (x : Named) (after : Spot) → Reached st ar h → Meets st ar h x after → h.count < length (names st ar)
  meets-within h x after r m = omega (arith, length-drop h.count (names st ar), ap length (sym r.names ∙ m.names))

  -- the blocks so far: no name is the same as another, and none is of a scope above the last
  pub record Blocks (top : ℕ) (h : Spot) : Type 0 where
    pub fresh : Fresh st ar h
    pub below : (j : ℕ) (y : Name) (q : List Name) → j < h.count → drop j (names st ar) ≡ y ∷ q → y.scope ≤ top

  pub blocks-first : (h : Spot) → h ≡ first → Blocks 0 h
  unfolding AllApart
  blocks-first h e =
      rw e (record { fresh = record { reached = reached-first st ar; apart = λ i j x y p q l m. absurd (omega arith) }; below = λ j y q l. absurd (omega arith) })

  -- one block more: its frames' names and its own are all of its names, and no block before it has one of their scopes
  module _ (top s end : ℕ) (h r : Spot) (g : Blocked) (w : Blocks top h) (o : (eqb h.count 0 || ltb top s) ≡ true) (f : Frames st ar s h g) (e : end ≡ g.end.count) (way : Walked st ar end h r) (own : Apart (names st ar) s h.count r.count r.count) where
    before : (i : ℕ) → i < h.count → top < s
    before i l = or_cases (eqb h.count 0) (ltb top s) (λ z. absurd (omega (arith, eqb-true h.count 0 z))) (λ z. ltb-true top s z) o

    apart_more : (m : ℕ) → m ≤ r.count → AllApart (names st ar) m
    unfolding AllApart FramesApart Between
    apart_more m k i j x y p q l u d c = by (ltb j h.count) refl (ltb i h.count) refl (eqb x.scope s) refl
      where
        within : j < g.end.count
        within = omega (arith, way.within)

        by : (a : Bool) → ltb j h.count ≡ a → (b : Bool) → ltb i h.count ≡ b → (t : Bool) → eqb x.scope s ≡ t → same_both x y ≡ false
        by true a b v t z = w.fresh.apart i j x y p q l (ltb-true j h.count a) d c
        by false a true v t z =
            let i-before : i < h.count = ltb-true i h.count v in
            never_true (same_both x y)
            (λ same. absurd (omega (arith, before i i-before, w.below i x p i-before d, (f.between j y q (ltb-false j h.count a) within c).0, same-scope x y same)))
        by false a false v true z =
            apart-at (names st ar) s h.count r.count r.count own i j x y p q (ltb-false i h.count v) (omega arith) l (omega arith) d c (eqb-true x.scope s z)
        by false a false v false z = f.apart i j x y p q (ltb-false i h.count v) l within d c (eqb-false x.scope s z)

    -- up to the first repeat in it
    pub fresh-more : Fresh st ar r
    fresh-more = record { reached = way.reached; apart = apart_more r.count (omega arith) }

    -- or up to its end
    pub blocks_more : end ≤ r.count → Blocks g.top g.end
    unfolding Between
    blocks_more k = record { fresh = record { reached = f.reached; apart = apart_more g.end.count (omega arith) }; below = λ j y q l d. low j y q l d (ltb j h.count) refl }
      where
        low : (j : ℕ) (y : Name) (q : List Name) → j < g.end.count → drop j (names st ar) ≡ y ∷ q → (t : Bool) → ltb j h.count ≡ t → y.scope ≤ g.top
        low j y q l d true a = omega (arith, before j (ltb-true j h.count a), w.below j y q (ltb-true j h.count a) d, f.above)
        low j y q l d false a = (f.between j y q (ltb-false j h.count a) l d).1

  -- two names before the spot
  pub fresh_at : (r : Spot) → Fresh st ar r → (i j : ℕ) (x y : Name) (p q : List Name) → i < j → j < r.count → drop i (names st ar) ≡ x ∷ p → drop j (names st ar) ≡ y ∷ q → same_both x y ≡ false
  unfolding AllApart
  fresh_at r f = f.apart
