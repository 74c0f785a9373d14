-- Proved: each numeric of CIF 1.1 is a number here, in either reading, and its parts are the numeric's pieces
-- (cif-is-number); within the digit limits it is read as the number that it means (cif-means), and beyond them
-- refused as over a limit (cif-over). Assumes nothing.
use Prim.Native.Nat.{ℕ}
use mathlib.Core.Path.{◌≡◌, refl}
use mathlib.Core.Bool.{Bool, true, false, ◌&&◌, and-false}
use mathlib.Core.List.{List, [], ◌++◌, append_assoc, append-nil}
use Rattle.numbers.specs.declared.Number.TheVariants.{Is, Over}
use Rattle.numbers.specs.Meaning.{meaning, judged, number_of}
use Rattle.rules.specs.declared.Reading.{Reading}
use Rattle.rules.specs.declared.Reading.TheVariants.{First, Strict}
use Rattle.numbers.specs.Parts.{within, Part, absent, is_empty, Parts, parts, is_number, written, is_numeric, counts_as}
use Rattle.numbers.specs.Cif.{all_digits, CifExponent, exp, CifOptional, without, with-exp, CifNumber, integer, float-exp, float-frac, float-point, CifNumeric, exact, uncertain, cif_meaning, cif_within}
use Rattle.numbers.proofs.Spell.{Bracket, unbracketed, bracketed, Exponent, unscaled, scaled, whole, pointed, parts-spell, not-empty}

-- a word is a number here, in either reading, with these parts
pub record Means (w sg i f esg e u : List ℕ) (b : Bool) : Type 0 where
  pub counts : (r : Reading) → counts_as r (parts w) ≡ true
  pub sgn : (parts w).sgn ≡ sg
  pub int : (parts w).int ≡ i
  pub frac : (parts w).frac ≡ f
  pub esgn : (parts w).exp.signed ≡ esg
  pub exp : (parts w).exp.run ≡ e
  pub unc : (parts w).unc.run ≡ u
  pub here : (parts w).unc.here ≡ b

-- what an exponent's bytes, and a bracket behind, spell
record Spelled (esg e x b : List ℕ) (u : Part) : Type 0 where
  part : Part
  bytes : Exponent (x ++ b) part u
  its-sign : part.signed ≡ esg
  its-run : part.run ≡ e
  its-digits : written part ≡ true

exp-spelled : {esg e x b : List ℕ} {u : Part} → CifExponent esg e x → Bracket b u → Spelled esg e x b u
unfolding written
exp-spelled {b = b} (exp c {sg} {ds} l s d) k = record {
  part = record { here = true; signed = sg; run = ds; left = b };
  bytes = rw append_assoc (scaled c ds l s d.all (not-empty sg ds b d.some) k);
  its-sign = refl;
  its-run = refl;
  its-digits = rw d.some;
}

opt-spelled : {esg e x b : List ℕ} {u : Part} → CifOptional esg e x → Bracket b u → Spelled esg e x b u
unfolding absent written
opt-spelled {b = b} without k = record { part = absent b; bytes = unscaled k; its-sign = refl; its-run = refl; its-digits = refl }
opt-spelled (with-exp x) k = exp-spelled x k

-- a bracket has nothing behind it
nothing_left : {b : List ℕ} {u : Part} → Bracket b u → u.left ≡ []
unfolding absent
nothing_left unbracketed = refl
nothing_left (bracketed ds a) = refl

-- nothing is left over, and each part that is there has digits
counted : (p : Parts) → is_number p ≡ true → written p.exp ≡ true → written p.unc ≡ true → (r : Reading) → counts_as r p ≡ true
unfolding is_numeric
counted p n x u First = n
counted p n x u Strict = rw (n, x, u)

module _ {sg i f esg e b : List ℕ} {u : Part} where
  means : (w : List ℕ) (p : Part) → parts w ≡ record { sgn = sg; int = i; frac = f; exp = p; unc = u } → is_empty i && is_empty f ≡ false
      → Bracket b u → p.signed ≡ esg → p.run ≡ e → written p ≡ true → written u ≡ true → Means w sg i f esg e u.run u.here
  unfolding is_number is_empty
  means w p h n k q r x y = record
      { counts = counted (parts w) (rw (h, nothing_left k, n)) (rw h x) (rw h y); sgn = rw h; int = rw h; frac = rw h; esgn = rw h q; exp = rw h r; unc = rw h; here = rw h }

some-i : (i f : List ℕ) → is_empty i ≡ false → is_empty i && is_empty f ≡ false
some-i i f h = rw h

some-f : (i f : List ℕ) → is_empty f ≡ false → is_empty i && is_empty f ≡ false
some-f i f h = rw h (and-false (is_empty i))

cif-number : {sg i f esg e w b : List ℕ} {u : Part} → CifNumber sg i f esg e w → Bracket b u → written u ≡ true → Means (w ++ b) sg i f esg e u.run u.here
unfolding absent written
cif-number {b = b} (integer {sg} {i} s d) k y =
    means _ (absent b) (rw append_assoc (parts-spell i s d.all (whole (unscaled k)))) (some-i i [] d.some) k refl refl refl y
cif-number {b = b} (float-exp {sg} {i} s d x) k y =
    let r = exp-spelled x k in
    means _ r.part (simp append_assoc (parts-spell i s d.all (whole r.bytes))) (some-i i [] d.some) k r.its-sign r.its-run r.its-digits y
cif-number (float-frac {sg} {i} {f} s a d x) k y =
    let r = opt-spelled x k in
    means _ r.part (simp append_assoc (parts-spell i s a (pointed f d.all r.bytes))) (some-f i f d.some) k r.its-sign r.its-run r.its-digits y
cif-number (float-point {sg} {i} s d x) k y =
    let r = opt-spelled x k in
    means _ r.part (simp append_assoc (parts-spell i s d.all (pointed [] (unfold all_digits in refl) r.bytes))) (some-i i [] d.some) k r.its-sign r.its-run r.its-digits y

-- each numeric of CIF 1.1 is a number here, in either reading, with its parts
pub cif-is-number : {sg i f esg e u w : List ℕ} {b : Bool} → CifNumeric sg i f esg e u b w → Means w sg i f esg e u b
unfolding absent written
cif-is-number (exact {w = w} n) = rw append-nil at (cif-number n unbracketed refl)
cif-is-number (uncertain u n d) = cif-number n (bracketed u d.all) (rw d.some)

module _ {sg i f esg e u w : List ℕ} {b : Bool} where
  pub within-cif : Means w sg i f esg e u b → within (parts w) ≡ cif_within i f e u
  unfolding within cif_within
  within-cif m = rw (m.int, m.frac, m.exp, m.unc)

  meaning-cif : Means w sg i f esg e u b → meaning (parts w) ≡ cif_meaning sg i f esg e u b
  unfolding meaning cif_meaning
  meaning-cif m = rw (m.sgn, m.int, m.frac, m.esgn, m.exp, m.here, m.unc)

  -- each numeric within the limits is a number here with its meaning
  pub cif-means : (r : Reading) → CifNumeric sg i f esg e u b w → cif_within i f e u ≡ true → number_of r w ≡ Is (cif_meaning sg i f esg e u b)
  unfolding number_of judged
  cif-means r n h = let m = cif-is-number n in rw (m.counts r, within-cif m, h, meaning-cif m)

  -- each other is a number over a limit
  pub cif-over : (r : Reading) → CifNumeric sg i f esg e u b w → cif_within i f e u ≡ false → number_of r w ≡ Over
  unfolding number_of judged
  cif-over r n h = let m = cif-is-number n in rw (m.counts r, within-cif m, h)
