-- The values of a nested store go by the kinds of its records alone: a loop counts the tags that follow it. So stores with equal kinds have the same values. Assumes nothing.
use Prim.Native.Nat.{ℕ, zero, suc}
use mathlib.Core.Path.{◌≡◌, refl, sym, ap, ◌∙◌}
use mathlib.Core.Bool.{Bool, true, false, cond, true≢false}
use mathlib.Core.List.{List, [], ◌∷◌}
use native.Mathlib.Omega.{arith}
use borrow.Author.Tests.{eqb-true}
use lib.Dec.{eqb}
use Rattle.rules.specs.declared.Reading.{Reading}
use Rattle.kinds.specs.Kinds.{number_of, is_value_kind}
use Rattle.entries.specs.declared.Entry.{Entry}
use Rattle.entries.specs.Walk.{entries}
use Rattle.nesting.specs.declared.Where.{Where}
use Rattle.nesting.specs.declared.Where.TheVariants.{Start, Names, Values}
use Rattle.nesting.specs.declared.Standing.{Standing}
use Rattle.nesting.specs.Nesting.{standing, after_name, at_names, at_values, ended, follow, nested_from, nested}
use Rattle.cells.specs.Cells.{Cell, Under, outset, under, cell, cells_from, cells}
use Rattle.soles.proofs.Leads.{Leads, block, tag, loop, frame, close, name, last, value, end, single, leads}
use Rattle.std.specs.Prelude.{Option, Some, None}

-- the kinds of entries, by number
unfoldable pub kinds_of : List (Option Entry) → List ℕ
kinds_of [] = []
kinds_of (None ∷ es) = []
kinds_of (Some e ∷ es) = number_of e.kind ∷ kinds_of es

-- how many tags of a loop stand first
run : List ℕ → ℕ
run [] = 0
run (k ∷ ks) = let more = suc (run ks) in cond (eqb k 6) more 0

-- the values by kinds alone
cells_by : List ℕ → ℕ → Under → List Cell
cells_by [] i u = []
cells_by (k ∷ ks) i u = let more = cells_by ks (suc i) (under k (run ks) i u) in cond (is_value_kind k) (cell i u ∷ more) more

-- behind a loop's tags stands none
run-values : (r : Reading) (es : List (Option Entry)) (g : Bool) (all j : ℕ) → nested_from r es g (Values all j) ≡ true → run (kinds_of es) ≡ 0
unfolding nested_from standing at_values follow kinds_of run is_value_kind
run-values r [] g all j n = refl
run-values r (None ∷ es) g all j n = refl
run-values r (Some x ∷ es) g all j n = by (eqb (number_of x.kind) 6) refl
  where
    by : (t : Bool) → eqb (number_of x.kind) 6 ≡ t → cond t (suc (run (kinds_of es))) 0 ≡ 0
    by false q = refl
    by true q =
        let e : number_of x.kind ≡ 6 = eqb-true (number_of x.kind) 6 q in
        let falls : follow (standing r g (Values all j) 6 x.fields.number) (λ f' w'. nested_from r es f' w') ≡ true = rw e at n in
        absurd (true≢false (sym falls))

-- among them stand as many as are left
run-names : (r : Reading) (es : List (Option Entry)) (g : Bool) (all left : ℕ) → nested_from r es g (Names all left) ≡ true → run (kinds_of es) ≡ left
unfolding nested_from standing at_names after_name follow ended kinds_of run
run-names r [] g all left n = absurd (true≢false (sym n))
run-names r (None ∷ es) g all left n = absurd (true≢false (sym n))
run-names r (Some e ∷ es) g all zero n = absurd (true≢false (sym n))
run-names r (Some e ∷ es) g all (suc left) n = by left (eqb (number_of e.kind) 6) n (λ l q. run-names r es g all l q)
  where
    by :
        (left : ℕ) (t : Bool) → follow (cond t (after_name g all left) None) (λ f' w'. nested_from r es f' w') ≡ true → ((l : ℕ) → nested_from r es g (Names all l) ≡ true → run (kinds_of es) ≡ l) →
        cond t (suc (run (kinds_of es))) 0 ≡ suc left
    by left false n again = absurd (true≢false (sym n))
    by zero true n again = ap suc (run-values r es g all 0 n)
    by (suc l) true n again = ap suc (again (suc l) n)

-- where a loop leads
loop-leads : {w w' : Where} {k n : ℕ} → Leads w k n w' → k ≡ 5 → w' ≡ Names n n
unfolding is_value_kind
loop-leads (block q) e = absurd (omega arith)
loop-leads (tag q) e = absurd (omega arith)
loop-leads (loop q) e = refl
loop-leads (frame q) e = absurd (omega arith)
loop-leads (close q) e = absurd (omega arith)
loop-leads (name q) e = absurd (omega arith)
loop-leads (last q) e = absurd (omega arith)
loop-leads (value q) e = absurd (true≢false (sym (rw e at q)))
loop-leads (end q) e = absurd (omega arith)
loop-leads (single q) e = absurd (true≢false (sym (rw e at q)))

-- the number of tags counts for loops alone
count-plain : (k n m i : ℕ) (u : Under) → eqb k 5 ≡ false → under k n i u ≡ under k m i u
unfolding under
count-plain k n m i u q = rw q

under-count : (k n m i : ℕ) (u : Under) → (k ≡ 5 → n ≡ m) → under k n i u ≡ under k m i u
under-count k n m i u h = by (eqb k 5) refl
  where
    by : (t : Bool) → eqb k 5 ≡ t → under k n i u ≡ under k m i u
    by true q = ap (λ (z : ℕ). under k z i u) (h (eqb-true k 5 q))
    by false q = count-plain k n m i u q

cells-kinds : (r : Reading) (es : List (Option Entry)) (g : Bool) (w : Where) (i : ℕ) (u : Under) → nested_from r es g w ≡ true → cells_from es i u ≡ cells_by (kinds_of es) i u
unfolding nested_from follow kinds_of cells_from cells_by
cells-kinds r [] g w i u n = refl
cells-kinds r (None ∷ es) g w i u n = refl
cells-kinds r (Some x ∷ es) g w i u n = on (standing r g w (number_of x.kind) x.fields.number) refl n (λ g' w' v q. cells-kinds r es g' w' (suc i) v q)
  where
    more : List Cell → List Cell
    more cs = cond (is_value_kind (number_of x.kind)) (cell i u ∷ cs) cs

    on :
        (s : Option Standing) → standing r g w (number_of x.kind) x.fields.number ≡ s → follow s (λ g' w'. nested_from r es g' w') ≡ true →
        ((g' : Bool) (w' : Where) (v : Under) → nested_from r es g' w' ≡ true → cells_from es (suc i) v ≡ cells_by (kinds_of es) (suc i) v) →
        more (cells_from es (suc i) (under (number_of x.kind) x.fields.number i u)) ≡ more (cells_by (kinds_of es) (suc i) (under (number_of x.kind) (run (kinds_of es)) i u))
    on None q n again = absurd (true≢false (sym n))
    on (Some s) q n again =
        let tags : number_of x.kind ≡ 5 → x.fields.number ≡ run (kinds_of es) =
        λ e.
        let names : s.place ≡ Names x.fields.number x.fields.number = loop-leads (leads r g w (number_of x.kind) x.fields.number s.frame s.place q) e in
        sym (run-names r es s.frame x.fields.number x.fields.number (ap (nested_from r es s.frame) (sym names) ∙ n)) in
        let state = under-count (number_of x.kind) x.fields.number (run (kinds_of es)) i u tags in
        ap more (ap (cells_from es (suc i)) state ∙ again s.frame s.place (under (number_of x.kind) (run (kinds_of es)) i u) n)

-- STORES OF EQUAL KINDS HAVE THE SAME VALUES
pub same-cells : (r r' : Reading) (st st' : List ℕ) → nested r (entries st) ≡ true → nested r' (entries st') ≡ true → kinds_of (entries st) ≡ kinds_of (entries st') → cells st ≡ cells st'
unfolding nested cells
same-cells r r' st st' n n' e =
    cells-kinds r (entries st) false Start 0 outset n ∙ ap (λ (ks : List ℕ). cells_by ks 0 outset) e ∙ sym (cells-kinds r' (entries st') false Start 0 outset n')
