-- Laws of a search among the names before one, and of the earliest repeat. Assumes nothing.
use Prim.Native.Nat.{ℕ, zero, suc, ◌+◌, ◌-◌, ◌≤◌, ◌<◌}
use mathlib.Core.Path.{◌≡◌, refl, sym, ap, ◌∙◌}
use mathlib.Core.Bool.{true, false}
use mathlib.Core.List.{List, [], ◌∷◌}
use mathlib.Core.Option.{Option, none, some}
use native.Mathlib.Omega.{arith}
use native.Mathlib.Numerals.{add-one}
use lib.ListN.{length, take, drop}
use lib.Seq.{take-nil}
use Rattle.rules.specs.declared.Reading.{Reading}
use Rattle.stores.specs.Soundness.{sound}
use Rattle.steps.specs.declared.Spot.{Spot}
use Rattle.names.specs.Names.{Name, names, same_both}
use Rattle.names.specs.declared.Named.{Named}
use Rattle.names.specs.Parts.{name_of}
use Rattle.steps.specs.declared.Met.{Met}
use Rattle.steps.specs.Steps.{names_at, first, Counted, Ahead}
use Rattle.steps.proofs.Steps.{names-first, counted-first, met as step-met, ended as step-ended}
use Rattle.scopes.specs.Scopes.{Fresh}
use Rattle.scopes.proofs.Scopes.{fresh_at}
use Rattle.names.proofs.Lists.{drop-next, take_next}
use Rattle.naming.specs.declared.NameError.TheVariants.{NotSound, Repeated}
use Rattle.naming.specs.Search.{maybe, Tells, Follows}
use Rattle.std.specs.Prelude.{Some, None, Ok, Err}
use Rattle.naming.specs.Names.{first_same, repeat_or, repeat_from, first_repeat, naming_of, name_check}

-- a search among the first n names
module _ (x : Name) where
  pub first-over : (ys : List Name) (n : ℕ) → n ≤ 0 → first_same (take n ys) x ≡ none
  unfolding first_same
  first-over ys zero h = refl
  first-over ys (suc n) h = absurd (omega arith)

  pub first-end : (n : ℕ) (ys : List Name) → ys ≡ [] → first_same (take n ys) x ≡ none
  unfolding first_same
  first-end n ys e = rw (e, take-nil n)

  pub first-hit : (n : ℕ) (l : List Name) (y : Name) (ys : List Name) → 0 < n → l ≡ y ∷ ys → same_both y x ≡ true → first_same (take n l) x ≡ some y.number
  unfolding first_same
  first-hit zero l y ys h e s = absurd (omega arith)
  first-hit (suc n) l y ys h e s = rw (e, s)

  pub first-miss : (n m : ℕ) (l : List Name) (y : Name) (ys : List Name) → n ≡ suc m → l ≡ y ∷ ys → same_both y x ≡ false → first_same (take n l) x ≡ first_same (take m ys) x
  unfolding first_same
  first-miss n m l y ys h e s = rw (h, e, s)

-- a repeat among the names from the n-th on
module _ (xs : List Name) (n : ℕ) where
  pub repeat-end : (l : List Name) → l ≡ [] → naming_of (repeat_from (take n xs) l) ≡ Ok tt
  unfolding repeat_from naming_of
  repeat-end l e = rw e

  pub repeat-hit : (l : List Name) (y : Name) (ys : List Name) (i : ℕ) → l ≡ y ∷ ys → first_same (take n xs) y ≡ some i → naming_of (repeat_from (take n xs) l) ≡ Err (Repeated i y.number)
  unfolding repeat_from repeat_or naming_of
  repeat-hit l y ys i e s = rw (e, s)

  pub repeat-miss : (l : List Name) (y : Name) (ys : List Name) → l ≡ drop n xs → l ≡ y ∷ ys → first_same (take n xs) y ≡ none → repeat_from (take n xs) l ≡ repeat_from (take (n + 1) xs) ys
  unfolding repeat_from repeat_or
  repeat-miss l y ys d e s = rw (e, s, take_next xs n y ys (sym d ∙ e))

-- a search's answer taken apart
maybe-some : (o : Option ℕ) (i : ℕ) → Some i ≡ maybe o → o ≡ some i
unfolding maybe
maybe-some none i e = cc
maybe-some (some j) i e = let h : j ≡ i = cc in rw h

maybe-none : (o : Option ℕ) → None ≡ maybe o → o ≡ none
unfolding maybe
maybe-none none e = refl
maybe-none (some j) e = cc

-- a walk, whatever its names are
module _ {W : Type 0} (rest : W → List Name) (ready : W → Type 0) (passed : W → ℕ) where
  -- what a step tells: a name and where the walk stands behind it, or none
  pub record Meets (s : W) (m : Named × W) : Type 0 where
    pub names : rest s ≡ name_of m.0 ∷ rest m.1
    pub come : ready m.1
    pub count : passed m.1 ≡ passed s + 1

  pub met : (s : W) (m : Named × W) → Tells rest ready passed s (Some m) → Meets s m
  unfolding Tells
  met s m t = record { names = t.0; come = t.1; count = t.2 }

  pub ended : (s : W) → Tells rest ready passed s None → rest s ≡ []
  unfolding Tells
  ended s t = t

  -- fewer names are left
  pub meets-less : (s : W) (m : Named × W) → Tells rest ready passed s (Some m) → length (rest m.1) < length (rest s)
  meets-less s m t =
      let l : length (rest s) ≡ suc (length (rest m.1)) = ap length (met s m t).names in
      omega arith

  pub follows-first : (s : W) → ready s → passed s ≡ 0 → Follows rest ready passed s s
  follows-first s r z = record { begun = r; come = r; names = rw z }

  pub follows-next : (start s : W) (m : Named × W) → Follows rest ready passed start s → Tells rest ready passed s (Some m) → Follows rest ready passed start m.1
  follows-next start s m f t =
      let k = met s m t in
      record { begun = f.begun; come = k.come; names = sym (rw k.count (drop-next (rest start) (passed s) _ _ (sym f.names ∙ k.names))) }

  -- a search among the first n names, n - i of which are left
  module _ (x : Name) (n : ℕ) (start s : W) (i : ℕ) where
    pub record Seeking : Type 0 where
      pub come : ready s
      pub left : first_same (take n (rest start)) x ≡ first_same (take (n - i) (rest s)) x

  pub seek-first : (x : Name) (n : ℕ) (s : W) → ready s → Seeking x n s s 0
  seek-first x n s r =
      let z : n - 0 ≡ n = omega arith in
      record { come = r; left = rw z }

  pub seek-over : (x : Name) (n : ℕ) (start s : W) (i : ℕ) → Seeking x n start s i → n ≤ i → None ≡ maybe (first_same (take n (rest start)) x)
  unfolding maybe
  seek-over x n start s i k l = rw (k.left, first-over x (rest s) (n - i) (omega arith))

  pub seek-end : (x : Name) (n : ℕ) (start s : W) (i : ℕ) → Seeking x n start s i → Tells rest ready passed s None → None ≡ maybe (first_same (take n (rest start)) x)
  unfolding maybe
  seek-end x n start s i k t = rw (k.left, first-end x (n - i) (rest s) (ended s t))

  pub seek-hit : (x : Name) (n : ℕ) (start s : W) (i : ℕ) (m : Named × W) → Seeking x n start s i → Tells rest ready passed s (Some m) → i < n → same_both (name_of m.0) x ≡ true →
      Some m.0.number ≡ maybe (first_same (take n (rest start)) x)
  unfolding maybe
  seek-hit x n start s i m k t l e = rw (k.left, first-hit x (n - i) (rest s) (name_of m.0) (rest m.1) (omega arith) (met s m t).names e)

  pub seek-miss : (x : Name) (n : ℕ) (start s : W) (i : ℕ) (m : Named × W) → Seeking x n start s i → Tells rest ready passed s (Some m) → i < n → same_both (name_of m.0) x ≡ false → Seeking x n start m.1 (i + 1)
  seek-miss x n start s i m k t l e =
      let o = met s m t in
      record { come = o.come; left = k.left ∙ first-miss x (n - i) (n - (i + 1)) (rest s) (name_of m.0) (rest m.1) (omega arith) o.names e }

  -- the earliest repeat from a place on is that from here on
  module _ (start from : W) where
    pub record Searching (s : W) : Type 0 where
      pub follows : Follows rest ready passed start s
      pub same : repeat_from (take (passed from) (rest start)) (rest from) ≡ repeat_from (take (passed s) (rest start)) (rest s)

    pub search-first : Follows rest ready passed start from → Searching from
    search-first f = record { follows = f; same = refl }

    pub search-end : (s : W) → Searching s → Tells rest ready passed s None → Ok tt ≡ naming_of (repeat_from (take (passed from) (rest start)) (rest from))
    search-end s k t = rw k.same (sym (repeat-end (rest start) (passed s) (rest s) (ended s t)))

    pub search-hit : (s : W) (m : Named × W) (i : ℕ) → Searching s → Tells rest ready passed s (Some m) → Some i ≡ maybe (first_same (take (passed s) (rest start)) (name_of m.0)) →
        Err (Repeated i m.0.number) ≡ naming_of (repeat_from (take (passed from) (rest start)) (rest from))
    search-hit s m i k t e = rw k.same (sym (repeat-hit (rest start) (passed s) (rest s) (name_of m.0) (rest m.1) i (met s m t).names (maybe-some _ i e)))

    pub search-miss : (s : W) (m : Named × W) → Searching s → Tells rest ready passed s (Some m) → None ≡ maybe (first_same (take (passed s) (rest start)) (name_of m.0)) → Searching m.1
    search-miss s m k t e =
        let o = met s m t in
        record {
          follows = follows-next start s m k.follows t;
          same = k.same ∙ repeat-miss (rest start) (passed s) (rest s) (name_of m.0) (rest m.1) k.follows.names o.names (maybe-none _ e) ∙ rw o.count;
        }

-- a name that is the same as none of the first n
pub first-none : (xs : List Name) (n : ℕ) (x : Name) → ((j : ℕ) (y : Name) (r : List Name) → j < n → drop j xs ≡ y ∷ r → same_both y x ≡ false) → first_same (take n xs) x ≡ none
unfolding first_same
first-none [] zero x f = refl
first-none [] (suc n) x f = refl
first-none (y ∷ xs) zero x f = refl
first-none (y ∷ xs) (suc n) x f =
    let s : same_both y x ≡ false = f 0 y xs (omega arith) refl in
    rw s (first-none xs n x (λ j z r l e. f (suc j) z r (omega arith) e))

drop-end : (xs : List Name) (n : ℕ) → drop n xs ≡ [] → drop (suc n) xs ≡ []
drop-end [] n e = refl
drop-end (x ∷ xs) zero e = absurd (let z : ◌≡◌ {A = ℕ} 0 1 = cc in omega arith)
drop-end (x ∷ xs) (suc n) e = drop-end xs n e

-- where no name before is a repeat, the earliest repeat is that from here on
pub fresh-repeat : (xs : List Name) (n : ℕ) → ((j : ℕ) (x : Name) (r : List Name) → j < n → drop j xs ≡ x ∷ r → first_same (take j xs) x ≡ none) → repeat_from (take n xs) (drop n xs) ≡ repeat_from [] xs
unfolding repeat_from
fresh-repeat xs zero f = refl
fresh-repeat xs (suc n) f = by (drop n xs) refl (fresh-repeat xs n (λ j x r l e. f j x r (omega arith) e))
  where
    by : (l : List Name) → drop n xs ≡ l → repeat_from (take n xs) (drop n xs) ≡ repeat_from [] xs → repeat_from (take (suc n) xs) (drop (suc n) xs) ≡ repeat_from [] xs
    by [] e h = rw (drop-end xs n e) (rw e at h)
    by (x ∷ r) e h =
        let o : drop (suc n) xs ≡ r = rw add-one at (drop-next xs n x r e) in
        let m : repeat_from (take n xs) (drop n xs) ≡ repeat_from (take (suc n) xs) r = rw add-one at (repeat-miss xs n (drop n xs) x r refl e (f n x r (omega arith) e)) in
        rw o (sym m ∙ h)

pub fresh-from : (st ar : List ℕ) (s : Spot) → Fresh st ar s → repeat_from (take s.count (names st ar)) (names_at st ar s) ≡ first_repeat (names st ar)
unfolding first_repeat
fresh-from st ar s f =
    rw f.reached.names
    (fresh-repeat (names st ar) s.count
    (λ j x p l d. first-none (names st ar) j x (λ i y q k o. fresh_at st ar s f i j y x q p k l o d)))

-- a step from spot to spot is one of a walk
pub spot-some : (st ar : List ℕ) (s : Spot) (m : Met) → Ahead st ar s (Some m) → Tells (names_at st ar) Counted (λ (t : Spot). t.count) s (Some (m.name, m.after))
unfolding Tells
spot-some st ar s m a =
    let k = step-met st ar s m a in
    (k.names, k.counted, k.count)

pub spot-none : (st ar : List ℕ) (s : Spot) → Ahead st ar s None → Tells (names_at st ar) Counted (λ (t : Spot). t.count) s None
unfolding Tells
spot-none st ar s a = step-ended st ar s a

pub fresh-follows : (st ar : List ℕ) (s : Spot) → Fresh st ar s → Follows (names_at st ar) Counted (λ (t : Spot). t.count) first s
fresh-follows st ar s f = record { begun = counted-first; come = f.reached.counted; names = f.reached.names ∙ rw (names-first st ar) }

-- the service by its two steps
pub check-unsound : (r : Reading) (st ar : List ℕ) → sound r st ar ≡ false → Err NotSound ≡ name_check r st ar
unfolding name_check
check-unsound r st ar e = rw e

pub check_sound : (r : Reading) (st ar : List ℕ) (s : Spot) → sound r st ar ≡ true → Fresh st ar s → naming_of (repeat_from (take s.count (names_at st ar first)) (names_at st ar s)) ≡ name_check r st ar
unfolding name_check
check_sound r st ar s e f = rw (e, ← names-first st ar) (ap naming_of (fresh-from st ar s f))
