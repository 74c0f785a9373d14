-- Proved: a word that is a number of the first reading is a numeric of CIF 1.1, or has an exponent without digits,
-- or a bracket without digits (number-is-cif); one that is a number of the strict reading is a numeric
-- (numeric-is-cif). Assumes nothing.
use Prim.Native.Nat.{ℕ}
use mathlib.Core.Path.{◌≡◌, refl, sym, ap, ◌∙◌, subst}
use mathlib.Core.Bool.{Bool, true, false, not, ◌&&◌, true≢false, false≢true}
use mathlib.Core.List.{List, [], ◌∷◌, ◌++◌, append_assoc, append-nil}
use Rattle.text.proofs.Bools.{and_l, and_r}
use Rattle.numbers.specs.Parts.{digits, sign, point, Part, is_empty, exponent, bracket, parts, is_number, written, is_numeric}
use Rattle.numbers.specs.Cif.{all_digits, Sign, Unsigned, exp, CifOptional, without, with-exp, CifNumber, integer, float-exp, float-frac, float-point, CifNumeric, exact, uncertain}
use Rattle.numbers.proofs.Spell.{Bracket, unbracketed, bracketed, Exponent, unscaled, scaled, Point, whole, pointed, empty-nil, digits-split, digits-got, sign-split, sign-got, bracket-view, exponent-view, point-view}

-- fine, or one of the two ways in which more is read here
pub data Out (A : Type 0) (e u : Part) : Type 0 where
  fine : A → Out A e u
  empty-exponent : e.here ≡ true → is_empty e.run ≡ true → Out A e u
  empty-bracket : u.here ≡ true → is_empty u.run ≡ true → Out A e u

data CifBracket : List ℕ → List ℕ → Bool → Type 0 where
  no-bracket : CifBracket [] [] false
  bracket-of : (u : List ℕ) → Unsigned u → CifBracket (40 ∷ u ++ 41 ∷ []) u true

record Ends (b : List ℕ) : Type 0 where
  run : List ℕ
  here : Bool
  is : CifBracket b run here

record Tail (x : List ℕ) : Type 0 where
  esg : List ℕ
  e : List ℕ
  xb : List ℕ
  b : List ℕ
  joins : x ≡ xb ++ b
  scale : CifOptional esg e xb
  ends : Ends b

-- a word that CIF 1.1 calls a numeric
pub record Standard (w : List ℕ) : Type 0 where
  pub sg : List ℕ
  pub i : List ℕ
  pub f : List ℕ
  pub esg : List ℕ
  pub e : List ℕ
  pub u : List ℕ
  pub b : Bool
  pub is : CifNumeric sg i f esg e u b w

by-empty : {A : Type 0} (ds : List ℕ) → (is_empty ds ≡ true → A) → (is_empty ds ≡ false → A) → A
unfolding is_empty
by-empty [] p q = p refl
by-empty (d ∷ ds) p q = q refl

bracket-out : {b : List ℕ} {e u : Part} → Bracket b u → Out (Ends b) e u
bracket-out unbracketed = fine (record { run = []; here = false; is = no-bracket })
bracket-out (bracketed ds a) = by-empty ds (λ z. empty-bracket refl z) (λ n. fine (record { run = ds; here = true; is = bracket-of ds (record { all = a; some = n }) }))

map-out : {A B : Type 0} {e u : Part} → (A → B) → Out A e u → Out B e u
map-out f (fine a) = fine (f a)
map-out f (empty-exponent h r) = empty-exponent h r
map-out f (empty-bracket h r) = empty-bracket h r

exponent-out : {x : List ℕ} {e u : Part} → Exponent x e u → Out (Tail x) e u
exponent-out (unscaled {w = w} k) = map-out (λ t. record { esg = []; e = []; xb = []; b = w; joins = refl; scale = without; ends = t }) (bracket-out k)
exponent-out (scaled c {sg} {w} ds l s a n k) =
    by-empty ds (λ z. empty-exponent refl z)
    (λ m. map-out (λ t. record { esg = sg; e = ds; xb = c ∷ sg ++ ds; b = w; joins = sym (append_assoc (c ∷ sg) ds w); scale = with-exp (exp c l s (record { all = a; some = m })); ends = t }) (bracket-out k))

number-ends : {sg i f esg e w b : List ℕ} → CifNumber sg i f esg e w → Ends b → Standard (w ++ b)
number-ends {sg} {i} {f} {esg} {e} {w} {b} n t = go t.is
  where
    go : {c r : List ℕ} {h : Bool} → CifBracket c r h → Standard (w ++ c)
    go no-bracket = record { sg = sg; i = i; f = f; esg = esg; e = e; u = []; b = false; is = rw append-nil (exact n) }
    go (bracket-of u d) = record { sg = sg; i = i; f = f; esg = esg; e = e; u = u; b = true; is = uncertain u n d }

-- an integer's digits and an optional exponent
plain-number : {sg i esg e x : List ℕ} → Sign sg → Unsigned i → CifOptional esg e x → CifNumber sg i [] esg e ((sg ++ i) ++ x)
plain-number s d without = rw append-nil (integer s d)
plain-number s d (with-exp x) = float-exp s d x

not-both : (i : List ℕ) (f : List ℕ) → not (is_empty i && is_empty f) ≡ true → is_empty f ≡ true → is_empty i ≡ false
unfolding is_empty
not-both [] [] n z = absurd (false≢true n)
not-both [] (b ∷ f) n z = absurd (false≢true z)
not-both (c ∷ i) f n z = refl

whole_out : {sg w : List ℕ} (i : List ℕ) → Sign sg → Unsigned i → Tail w → Standard (sg ++ (i ++ w))
whole_out {sg} i s d t =
    rw t.joins (subst Standard (simp append_assoc) (number-ends (plain-number s d t.scale) t.ends))

pointed-out : {sg w : List ℕ} (i f : List ℕ) → Sign sg → all_digits i ≡ true → all_digits f ≡ true → not (is_empty i && is_empty f) ≡ true → Tail w → Standard (sg ++ (i ++ (46 ∷ f ++ w)))
pointed-out {sg} i f s a c n t =
    by-empty f
    (λ z. rw (empty-nil f z, t.joins) (subst Standard (simp append_assoc) (number-ends (float-point s (record { all = a; some = not-both i f n z }) t.scale) t.ends)))
    (λ m. rw t.joins (subst Standard (simp append_assoc) (number-ends (float-frac s a (record { all = c; some = m }) t.scale) t.ends)))

point-out : {sg w f : List ℕ} {e u : Part} (i : List ℕ) → Sign sg → all_digits i ≡ true → not (is_empty i && is_empty f) ≡ true → Point w f e u → Out (Standard (sg ++ (i ++ w))) e u
unfolding is_empty
point-out i s a n (whole x) = map-out (whole_out i s (record { all = a; some = not-both i [] n refl })) (exponent-out x)
point-out i s a n (pointed f c x) = map-out (pointed-out i f s a c n) (exponent-out x)

pub number-is-cif : (w : List ℕ) → is_number (parts w) ≡ true → Out (Standard w) (parts w).exp (parts w).unc
unfolding is_number parts
number-is-cif w h =
    let s = sign w in
    let i = digits s.left in
    let f = point i.left in
    let e = exponent f.left in
    let q = bracket-view e.left (and_l (is_empty (bracket e.left).left) (not (is_empty i.got && is_empty f.got)) h) in
    let n = and_r (is_empty (bracket e.left).left) (not (is_empty i.got && is_empty f.got)) h in
    let j : w ≡ s.got ++ (i.got ++ i.left) = sign-split w ∙ ap (λ r. s.got ++ r) (digits-split s.left) in
    subst (λ r. Out (Standard r) e (bracket e.left)) (sym j)
    (point-out i.got (sign-got w) (digits-got s.left) n (point-view i.left (exponent-view f.left q)))

-- what the first reading takes beyond CIF 1.1 the strict one does not

unwritten : (p : Part) → p.here ≡ true → is_empty p.run ≡ true → written p ≡ true → ⊥
unfolding written
unwritten p h e w = true≢false (sym w ∙ rw (h, e))

pub numeric-is-cif : (w : List ℕ) → is_numeric (parts w) ≡ true → Standard w
unfolding is_numeric
numeric-is-cif w e = by (number-is-cif w (and_l (is_number (parts w)) _ e))
  where
    both : (written (parts w).exp && written (parts w).unc) ≡ true
    both = and_r (is_number (parts w)) _ e

    by : Out (Standard w) (parts w).exp (parts w).unc → Standard w
    by (fine s) = s
    by (empty-exponent h r) = absurd (unwritten (parts w).exp h r (and_l (written (parts w).exp) _ both))
    by (empty-bracket h r) = absurd (unwritten (parts w).unc h r (and_r (written (parts w).exp) _ both))
