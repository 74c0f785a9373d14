-- Laws of the cases of two values: by what stands at their offsets. Assumes nothing.
use Prim.Native.Nat.{ℕ, suc, ◌+◌, ◌-◌}
use mathlib.Core.Path.{◌≡◌, refl, sym, ap, ◌∙◌}
use mathlib.Core.Bool.{Bool, true, false, cond, ◌&&◌, ◌||◌}
use mathlib.Core.List.{List}
use native.Mathlib.Omega.{arith}
use borrow.Author.Tests.{eqb-false, leb-true}
use lib.Dec.{leb}
use lib.ListN.{drop}
use Rattle.kinds.specs.declared.Kind.{Kind}
use Rattle.kinds.specs.declared.Kind.TheVariants.{Bare, SingleQuoted, DoubleQuoted, Multiline, Quoted}
use Rattle.kinds.specs.Kinds.{number_of}
use Rattle.cells.proofs.Cells.{other-number}
use Rattle.entries.specs.declared.Fields.{Fields}
use Rattle.entries.specs.declared.Entry.{Entry}
use Rattle.entries.specs.Entries.{whole}
use Rattle.amounts.specs.Exact.{Kept}
use Rattle.steps.specs.Steps.{held_by}
use Rattle.number_cases.specs.declared.Case.TheVariants.{Same, Different}
use Rattle.number_cases.specs.Numbers.{numbers_case}
use Rattle.cases.specs.Cases.{is_number, is_text, unmarked, agree, others_case, case_of, Orderly}
use Rattle.std.specs.Prelude.{Option, None}

-- any other kind is no text
pub other-text : (k : Kind) → (k ≡ Bare → ⊥) → (k ≡ SingleQuoted → ⊥) → (k ≡ DoubleQuoted → ⊥) → (k ≡ Multiline → ⊥) → (k ≡ Quoted → ⊥) → false ≡ is_text (number_of k)
unfolding is_text
other-text k a b c d e =
    let n = number_of k in
    rw (other-number k Quoted e) (by (leb 10 n) (leb n 13) refl refl)
  where
    by : (s t : Bool) → leb 10 (number_of k) ≡ s → leb (number_of k) 13 ≡ t → false ≡ ((s && t) || false)
    by false t p q = refl
    by true false p q = refl
    by true true p q =
        let n = number_of k in
        let ten = eqb-false n 10 (other-number k Bare a) in
        let eleven = eqb-false n 11 (other-number k SingleQuoted b) in
        let twelve = eqb-false n 12 (other-number k DoubleQuoted c) in
        let thirteen = eqb-false n 13 (other-number k Multiline d) in
        let low = leb-true 10 n p in
        let high = leb-true n 13 q in
        absurd (omega arith)

-- a text without marks
pub unmarked-other : (k : Kind) (s : List ℕ) → (k ≡ Quoted → ⊥) → s ≡ unmarked (number_of k) s
unfolding unmarked
unmarked-other k s d = rw (other-number k Quoted d)

pub unmarked-quoted : (k : Kind) (s : List ℕ) → k ≡ Quoted → drop 1 s ≡ unmarked (number_of k) s
unfolding unmarked
unmarked-quoted k s e = rw e

-- the parts of a number
pub orderly-parts : (e : Option Entry) (k : Kind) (f : Fields) (n : ℕ) → e ≡ whole k f n → Orderly e → is_number (number_of k) ≡ true → Kept f.parts
unfolding Orderly
orderly-parts e k f n q o t = (rw q at o) t

-- two records
module _ (ar ar' : List ℕ) (e e' : Option Entry) where
  pub case-none : e ≡ None → Different ≡ case_of ar ar' e e'
  unfolding case_of
  case-none q = rw q

  module _ (k : Kind) (f : Fields) (n : ℕ) (q : e ≡ whole k f n) where
    pub case-alone : e' ≡ None → Different ≡ case_of ar ar' e e'
    unfolding case_of
    case-alone p = rw (q, p)

    module _ (j : Kind) (g : Fields) (m : ℕ) (p : e' ≡ whole j g m) where
      pub case-numbers : (is_number (number_of k) && is_number (number_of j)) ≡ true → case_of ar ar' e e' ≡ numbers_case (number_of k) (number_of j) f.parts g.parts
      unfolding case_of
      case-numbers t = rw (q, p, t)

      case-texts : (is_number (number_of k) && is_number (number_of j)) ≡ false → case_of ar ar' e e' ≡ others_case (number_of k) (number_of j) (held_by ar e) (held_by ar' e')
      unfolding case_of held_by
      case-texts t = rw (q, p, t)

      pub case-others :
          (is_number (number_of k) && is_number (number_of j)) ≡ false → (x y : List ℕ) → x ≡ held_by ar e → y ≡ held_by ar' e' → (v : Bool) →
          v ≡ agree (number_of k) (number_of j) x y → cond v Same Different ≡ case_of ar ar' e e'
      unfolding others_case
      case-others t x y a b v w = sym (case-texts t ∙ rw (← a, ← b, w))
