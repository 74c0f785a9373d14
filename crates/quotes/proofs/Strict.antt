-- Laws of a quote by the reading. In the strict one it closes where the plain search ends that is taken up again behind each mark which no space follows. Assumes nothing.
use Prim.Native.Nat.{ℕ, zero, suc, ◌+◌, ◌-◌, ◌≤◌, ◌<◌}
use mathlib.Core.Path.{◌≡◌, refl, sym, ap, ◌∙◌}
use mathlib.Core.Bool.{Bool, true, false, cond, ◌&&◌, true≢false}
use mathlib.Core.List.{List, [], ◌∷◌}
use mathlib.Core.Option.{Option, none, some}
use native.Mathlib.Omega.{arith}
use borrow.Author.Tests.{eqb-true}
use lib.Dec.{eqb}
use lib.ListN.{length, drop, get_or, length-drop}
use lib.Seq.{drop-drop}
use Rattle.rules.specs.declared.Reading.{Reading}
use Rattle.rules.specs.declared.Reading.TheVariants.{First, Strict}
use Rattle.text.specs.Bytes.{is, is_eol}
use Rattle.text.proofs.Bools.{and_l}
use Rattle.std.specs.Prelude.{Some, None}
use Rattle.quotes.specs.Quotes.{more, quoted, ends_here, strict_quoted, closes, quoted_by}
use Rattle.quotes.specs.Answers.{closing, mark_end, quote_end}
use Rattle.quotes.proofs.Quotes.{Ends, mark-behind, mark-nothing, ends-step, quote-ends, quote-plain}

-- in the first reading the next mark closes
first-mark : (m : ℕ) (s : List ℕ) (o : ℕ) → quote_end First m s o ≡ mark_end m s o
unfolding mark_end quote_end
first-mark m s o = refl

-- the search taken up again

unfoldable further : ℕ → Option ℕ → Option ℕ
further n none = none
further n (some k) = some (n + k)

-- a mark is found n bytes on: it closes the quote, or the search goes on behind it
unfoldable again : ℕ → List ℕ → Option ℕ → Option ℕ
again m s none = none
again m s (some n) = let on = further n (strict_quoted m (drop n s)) in cond (ends_here (drop n s)) (some n) on

more-further : (n : ℕ) (r : Option ℕ) → more (further n r) ≡ further (suc n) r
unfolding more further
more-further n none = refl
more-further n (some k) = let e : suc (n + k) ≡ suc n + k = omega arith in ap some e

more-cond : (t : Bool) (x y : Option ℕ) → more (cond t x y) ≡ cond t (more x) (more y)
more-cond true x y = refl
more-cond false x y = refl

one_more : (r : Option ℕ) → further 1 r ≡ more r
unfolding more further
one_more none = refl
one_more (some k) = let e : 1 + k ≡ suc k = omega arith in ap some e

again-more : (m b : ℕ) (s : List ℕ) (r : Option ℕ) → more (again m s r) ≡ again m (b ∷ s) (more r)
unfolding again more
again-more m b s none = refl
again-more m b s (some n) =
    more-cond (ends_here (drop n s)) (some n) (further n (strict_quoted m (drop n s)))
    ∙ ap (λ y. cond (ends_here (drop n s)) (some (suc n)) y) (more-further n (strict_quoted m (drop n s)))

strict-again : (m : ℕ) → is_eol m ≡ false → (s : List ℕ) → strict_quoted m s ≡ again m s (quoted m s)
unfolding strict_quoted quoted again is
strict-again m e [] = refl
strict-again m e (b ∷ s) = by (eqb b m) refl (is_eol b) refl (strict-again m e s)
  where
    by : (t : Bool) → eqb b m ≡ t → (u : Bool) → is_eol b ≡ u → strict_quoted m s ≡ again m s (quoted m s)
        → cond (t && ends_here s) (some 1) (cond u none (more (strict_quoted m s))) ≡ again m (b ∷ s) (cond t (some 1) (cond u none (more (quoted m s))))
    by true p true q ih = absurd (true≢false (sym q ∙ ap is_eol (eqb-true b m p) ∙ e))
    by true p false q ih = ap (λ y. cond (ends_here s) (some 1) y) (sym (one_more (strict_quoted m s)))
    by false p true q ih = refl
    by false p false q ih = ap more ih ∙ again-more m b s (quoted m s)

-- the same by offsets: no mark on the line; a mark before space; any other mark

closing-further : (o n : ℕ) (r : Option ℕ) → closing o (further n r) ≡ closing (o + n) r
unfolding closing further
closing-further o n none = refl
closing-further o n (some k) = ap Some (omega arith)

module _ (m : ℕ) (p : is_eol m ≡ false) (s : List ℕ) (o : ℕ) where
  strict_none : mark_end m s o ≡ None → quote_end Strict m s o ≡ None
  unfolding quote_end again closing
  strict_none e = rw (strict-again m p (drop o s), mark-nothing m s o e)

  -- where the next mark stands
  pub mark-lies : (e : ℕ) → mark_end m s o ≡ Some e → (o < e) × (e ≤ length s)
  mark-lies e q =
      let b = mark-behind m s o e q in
      let i : Ends m (drop o s) (e - o) = quote-ends m (drop o s) (e - o) b.1 in
      (omega (arith, i.pos), omega (arith, b.0, i.pos, i.fits, length-drop o s))

  on : (e : ℕ) → mark_end m s o ≡ Some e → quote_end Strict m s o ≡ cond (ends_here (drop e s)) (Some e) (quote_end Strict m s e)
  unfolding quote_end again closing
  on e q =
      let b = mark-behind m s o e q in
      let z : o + (e - o) ≡ e = omega (arith, b.0) in
      rw (strict-again m p (drop o s), b.1, drop-drop (e - o) o s, z) (by (ends_here (drop e s)))
    where
      by : (t : Bool) → closing o (cond t (some (e - o)) (further (e - o) (strict_quoted m (drop e s)))) ≡ cond t (Some e) (closing e (strict_quoted m (drop e s)))
      by true = ap Some (omega (arith, (mark-behind m s o e q).0))
      by false =
          let z : o + (e - o) ≡ e = omega (arith, (mark-behind m s o e q).0) in
          rw z at (closing-further o (e - o) (strict_quoted m (drop e s)))

-- by the reading: no mark on the line; a mark that closes; any other mark
module _ (r : Reading) (m : ℕ) (p : is_eol m ≡ false) (s : List ℕ) (o : ℕ) where
  pub quoted-none : mark_end m s o ≡ None → quote_end r m s o ≡ None
  quoted-none = by r
    where
      by : (t : Reading) → mark_end m s o ≡ None → quote_end t m s o ≡ None
      by First e = first-mark m s o ∙ e
      by Strict e = strict_none m p s o e

  pub quoted-here : (e : ℕ) → mark_end m s o ≡ Some e → closes r (drop e s) ≡ true → quote_end r m s o ≡ Some e
  quoted-here e = by r
    where
      by : (t : Reading) → mark_end m s o ≡ Some e → closes t (drop e s) ≡ true → quote_end t m s o ≡ Some e
      by First q c = first-mark m s o ∙ q
      by Strict q c = on m p s o e q ∙ rw c

  pub quoted-on : (e : ℕ) → mark_end m s o ≡ Some e → closes r (drop e s) ≡ false → quote_end r m s o ≡ quote_end r m s e
  quoted-on e = by r
    where
      by : (t : Reading) → mark_end m s o ≡ Some e → closes t (drop e s) ≡ false → quote_end t m s o ≡ quote_end t m s e
      by First q c = absurd (true≢false c)
      by Strict q c = on m p s o e q ∙ rw c

-- where a quote ends, and that it stays on its line, in either reading

strict-ends : (m : ℕ) (s : List ℕ) (n : ℕ) → strict_quoted m s ≡ some n → Ends m s n
unfolding strict_quoted is
strict-ends m [] n e =
    let z : ◌≡◌ {A = ℕ} 0 1 = cc in
    absurd (omega arith)
strict-ends m (b ∷ s) n e =
    ends-step m b s n (is m b && ends_here s) (is_eol b) (strict_quoted m s) (λ t. eqb-true b m (and_l (eqb b m) (ends_here s) t)) (strict-ends m s) e

pub quoted-ends : (r : Reading) (m : ℕ) (s : List ℕ) (n : ℕ) → quoted_by r m s ≡ some n → Ends m s n
quoted-ends First m s n e = quote-ends m s n e
quoted-ends Strict m s n e = strict-ends m s n e

strict-plain : (m : ℕ) → is_eol m ≡ false → (s : List ℕ) (n : ℕ) → strict_quoted m s ≡ some n → (k : ℕ) → k < n → is_eol (get_or s k 0) ≡ false
unfolding strict_quoted more is
strict-plain m p [] n e k l =
    let z : ◌≡◌ {A = ℕ} 0 1 = cc in
    absurd (omega arith)
strict-plain m p (b ∷ s) n e k l = by (is m b && ends_here s) (is_eol b) (strict_quoted m s) k (λ t. eqb-true b m (and_l (eqb b m) (ends_here s) t)) refl (strict-plain m p s) e l
  where
    by : (t u : Bool) (r : Option ℕ) (k : ℕ) → (t ≡ true → b ≡ m) → is_eol b ≡ u → ((n : ℕ) → r ≡ some n → (k : ℕ) → k < n → is_eol (get_or s k 0) ≡ false) → cond t (some 1) (cond u none (more r)) ≡ some n → k < n → is_eol (get_or (b ∷ s) k 0) ≡ false
    by true u r zero i j f e l = rw (i refl) p
    by true u r (suc k) i j f e l =
        let q : 1 ≡ n = cc in
        absurd (omega arith)
    by false true r k i j f e l =
        let z : ◌≡◌ {A = ℕ} 0 1 = cc in
        absurd (omega arith)
    by false false none k i j f e l =
        let z : ◌≡◌ {A = ℕ} 0 1 = cc in
        absurd (omega arith)
    by false false (some d) zero i j f e l = j
    by false false (some d) (suc k) i j f e l =
        let q : suc d ≡ n = cc in
        f d refl k (omega arith)

pub quoted-plain : (r : Reading) (m : ℕ) → is_eol m ≡ false → (s : List ℕ) (n : ℕ) → quoted_by r m s ≡ some n → (k : ℕ) → k < n → is_eol (get_or s k 0) ≡ false
quoted-plain First m p s n e k l = quote-plain m p s n e k l
quoted-plain Strict m p s n e k l = strict-plain m p s n e k l
