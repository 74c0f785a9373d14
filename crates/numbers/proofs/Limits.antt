-- What the cuts of a word say of it: whether it is a number, and whether its digits keep their limits. Assumes nothing.
use Prim.Native.Nat.{ℕ, ◌-◌, ◌≤◌}
use mathlib.Core.Path.{◌≡◌, sym, ◌∙◌}
use mathlib.Core.Bool.{true, not, ◌&&◌, ◌||◌, not-not}
use mathlib.Core.List.{List}
use lib.Dec.{leb, ltb}
use lib.ListN.{length}
use borrow.Author.Tests.{leb-true}
use Rattle.text.proofs.Bools.{and_l, and_r, not-and}
use Rattle.cuts.specs.declared.Cuts.{Cuts}
use Rattle.cuts.specs.Cuts.{Sound}
use Rattle.cuts.proofs.DigitRuns.{piece-length}
use Rattle.numbers.specs.Parts.{is_number, written, within}
use Rattle.numbers.specs.Pieces.{part_of, parts_of}
use Rattle.numbers.proofs.Pieces.{piece-empty, rest_test}

-- the word is a number, by its cuts
pub number-cuts : (w : List ℕ) (k : Cuts) → Sound w k →
    is_number (parts_of w k) ≡ (leb (length w) k.bracket.next && (ltb k.sign k.integer || ltb k.point k.fraction))
unfolding is_number parts_of part_of
number-cuts w k s =
    rw (rest_test w k.bracket.next, piece-empty w k.sign k.integer s.integer.to, piece-empty w k.point k.fraction s.fraction.to, not-and, not-not, not-not)

-- exponent and bracket have digits where they are there, by its cuts
pub written-cuts : (w : List ℕ) (k : Cuts) → Sound w k →
    (written (parts_of w k).exp ≡ (not k.exponent.here || ltb k.exponent.digits k.exponent.end))
    × (written (parts_of w k).unc ≡ (not k.bracket.here || ltb k.bracket.digits k.bracket.end))
unfolding written parts_of part_of
written-cuts w k s =
    (rw (piece-empty w k.exponent.digits k.exponent.end s.exponent.to, not-not), rw (piece-empty w k.bracket.digits k.bracket.end s.uncertainty.to, not-not))

-- its digits keep the limits, by its cuts
pub within-cuts : (w : List ℕ) (k : Cuts) → Sound w k →
    within (parts_of w k)
    ≡ (leb (k.integer - k.sign) 9 && leb (k.fraction - k.point) 18 && leb (k.exponent.end - k.exponent.digits) 9 && leb (k.bracket.end - k.bracket.digits) 9)
unfolding within parts_of part_of
within-cuts w k s =
    rw (
      piece-length w k.sign k.integer s.integer.to,
      piece-length w k.point k.fraction s.fraction.to,
      piece-length w k.exponent.digits k.exponent.end s.exponent.to,
      piece-length w k.bracket.digits k.bracket.end s.uncertainty.to,
    )

-- what the code's tests of cuts go by
pub ruleset cut_tests = (number-cuts, written-cuts, within-cuts)

-- what the limits say of cuts
pub record Limits (k : Cuts) : Type 0 where
  pub integer : k.integer - k.sign ≤ 9
  pub fraction : k.fraction - k.point ≤ 18
  pub exponent : k.exponent.end - k.exponent.digits ≤ 9
  pub uncertainty : k.bracket.end - k.bracket.digits ≤ 9

pub limits : (w : List ℕ) (k : Cuts) → Sound w k → within (parts_of w k) ≡ true → Limits k
limits w k s e =
    let i = leb (k.integer - k.sign) 9 in
    let f = leb (k.fraction - k.point) 18 in
    let x = leb (k.exponent.end - k.exponent.digits) 9 in
    let u = leb (k.bracket.end - k.bracket.digits) 9 in
    let e4 : (i && f && x && u) ≡ true = sym (within-cuts w k s) ∙ e in
    let e3 : (i && f && x) ≡ true = and_l (i && f && x) u e4 in
    let e2 : (i && f) ≡ true = and_l (i && f) x e3 in
    record {
      integer = leb-true _ _ (and_l i f e2);
      fraction = leb-true _ _ (and_r i f e2);
      exponent = leb-true _ _ (and_r (i && f) x e3);
      uncertainty = leb-true _ _ (and_r (i && f && x) u e4);
    }
