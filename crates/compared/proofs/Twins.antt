-- STORES THAT SAY THE SAME, compared, give an empty list: places and the order of the area do not count. Assumes nothing.
use Prim.Native.Nat.{ℕ}
use mathlib.Core.Path.{◌≡◌, refl, sym, ap, ap₂, subst, ◌∙◌}
use mathlib.Core.Bool.{Bool, true, false, cond, ◌&&◌}
use mathlib.Core.List.{List, [], ◌∷◌, ◌++◌}
use mathlib.Core.Option.{some}
use borrow.Author.Tests.{eqb-false}
use lib.Dec.{eqb}
use Rattle.std.specs.Prelude.{Ok}
use Rattle.rules.specs.declared.Reading.{Reading}
use Rattle.folding.specs.Folding.{same_name, equal_bytes}
use Rattle.kinds.specs.declared.Kind.{Kind}
use Rattle.kinds.specs.Kinds.{number_of}
use Rattle.entries.specs.declared.Fields.{Fields}
use Rattle.contents.specs.Contents.{content_bytes}
use Rattle.cells.specs.Cells.{Cell, cells, name_of}
use Rattle.number_cases.specs.declared.Case.TheVariants.{Same, Different}
use Rattle.number_cases.specs.Numbers.{case_number}
use Rattle.cases.specs.Cases.{is_number, is_text, unmarked, agree, others_case, case_of}
use Rattle.partners.specs.Partners.{same_frame, meets, partner}
use Rattle.changes.specs.declared.Change.{Change}
use Rattle.changes.specs.Changes.{change, of_old, of_new, of_side, of_all, side_of, changes}
use Rattle.comparing.specs.Comparing.{judged}
use Rattle.soles.specs.Members.{In, here, there, Sole}
use Rattle.compared.specs.Twins.{Twins}
use Rattle.compared.proofs.Selves.{meets-self, numbers-self, others-self}
use Rattle.soles.proofs.Meeting.{meets-turned, meets-through, partner-is}
use Rattle.compared.proofs.Itself.{judged-sole}
use Rattle.entries.specs.Entries.{whole}

module _ (st ar st' ar' : List ℕ) (s : Sole st ar) (t : Twins st ar st' ar') where
  -- a value meets its twin
  frame-twin : (x : Cell) → In x (cells st) → same_frame st ar st ar x.frame x.frame ≡ same_frame st ar st' ar' x.frame x.frame
  unfolding same_frame
  frame-twin x m = by (eqb x.frame 0) refl
    where
      by :
          (b : Bool) → eqb x.frame 0 ≡ b →
          cond b b (cond b false (same_name (name_of st ar x.frame) (name_of st ar x.frame))) ≡ cond b b (cond b false (same_name (name_of st ar x.frame) (name_of st' ar' x.frame)))
      by true q = refl
      by false q = ap (same_name (name_of st ar x.frame)) (t.opens x m (eqb-false x.frame 0 q))

  meets-twin : (x : Cell) → In x (cells st) → meets st ar st' ar' x x ≡ true
  unfolding meets
  meets-twin x m =
      ap₂ (λ (n : List ℕ) (b : Bool). eqb x.row x.row && (same_name (name_of st ar x.tag) n && b)) (sym (t.tags x m)) (sym (frame-twin x m)) ∙ meets-self st ar x

  among : (x : Cell) → In x (cells st) → In x (cells st')
  among x m = subst (λ (l : List Cell). In x l) t.same m

  back : (x : Cell) → In x (cells st') → In x (cells st)
  back x m = subst (λ (l : List Cell). In x l) (sym t.same) m

  -- and no other
  partner-twin : (x : Cell) → In x (cells st) → partner st ar st' ar' x ≡ some x
  unfolding partner Sole
  partner-twin x m =
      partner-is st ar st' ar' x (cells st') x (among x m) (meets-twin x m)
      (λ z p e. s x z m (back z p) (meets-through st ar st' ar' st ar x z z e (meets-turned st ar st' ar' z z (meets-twin z (back z p)))))

  partner-turned : (x : Cell) → In x (cells st) → partner st' ar' st ar x ≡ some x
  unfolding partner Sole
  partner-turned x m =
      partner-is st' ar' st ar x (cells st) x m (meets-turned st ar st' ar' x x (meets-twin x m))
      (λ z p e. s x z m p (meets-through st ar st' ar' st ar x x z (meets-twin x m) e))

  old-none : (x : Cell) → In x (cells st) → of_side true st ar st' ar' x ≡ []
  unfolding of_side of_old change case_number
  old-none x m = rw (partner-twin x m, t.values x m)

  new_none : (x : Cell) → In x (cells st) → of_side false st' ar' st ar x ≡ []
  unfolding of_side of_new
  new_none x m = rw (partner-turned x m)

  all_none : (old : Bool) (u v u' v' : List ℕ) → ((x : Cell) → In x (cells st) → of_side old u v u' v' x ≡ []) → (xs : List Cell) → ((x : Cell) → In x xs → In x (cells st)) → of_all old u v u' v' xs ≡ []
  unfolding of_all
  all_none old u v u' v' each [] sub = refl
  all_none old u v u' v' each (x ∷ xs) sub = ap₂ (λ (a b : List Change). a ++ b) (each x (sub x (here refl))) (all_none old u v u' v' each xs (λ y q. sub y (there q)))

  twins-sole : changes st ar st' ar' ≡ []
  unfolding changes side_of
  twins-sole = ap₂ (λ (a b : List Change). a ++ b) (all_none true st ar st' ar' old-none (cells st) (λ x q. q)) (all_none false st' ar' st ar new_none (cells st') back)

-- THE LIST OF TWO STORES THAT SAY THE SAME IS EMPTY
pub twins-empty : (r : Reading) (st ar st' ar' : List ℕ) → judged r st ar ≡ Ok tt → Twins st ar st' ar' → changes st ar st' ar' ≡ []
twins-empty r st ar st' ar' e t = twins-sole st ar st' ar' (judged-sole r st ar e) t

-- records of one kind with equal parts and, if they are texts, equal contents are the same
texts-twin : (k : ℕ) (c d : List ℕ) → (is_text k ≡ true → c ≡ d) → others_case k k c d ≡ Same
unfolding others_case agree
texts-twin k c d h = by (is_text k) refl
  where
    by : (b : Bool) → is_text k ≡ b → cond (cond (is_text k && is_text k) (equal_bytes (unmarked k c) (unmarked k d)) (eqb k k)) Same Different ≡ Same
    by true q = ap (λ (l : List ℕ). others_case k k c l) (sym (h q)) ∙ others-self k c
    by false q = rw q (rw q at (others-self k c))

pub case_twin : (ar ar' : List ℕ) (k : Kind) (f g : Fields) (n m : ℕ) → f.parts ≡ g.parts → (is_text (number_of k) ≡ true → content_bytes ar k f ≡ content_bytes ar' k g) → case_of ar ar' (whole k f n) (whole k g m) ≡ Same
unfolding case_of
case_twin ar ar' k f g n m p h = rw (texts-twin (number_of k) (content_bytes ar k f) (content_bytes ar' k g) h, ← p, numbers-self (number_of k) f.parts) (by (is_number (number_of k) && is_number (number_of k)))
  where
    by : (t : Bool) → cond t Same Same ≡ Same
    by true = refl
    by false = refl
