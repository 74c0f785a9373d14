-- A STORE THAT SAYS WHAT A STORE SAYS THAT MAY BE COMPARED may be compared too, if it is sound: it has as many blocks, and the same names. Assumes nothing.
use Prim.Native.Nat.{ℕ, suc}
use mathlib.Core.Path.{◌≡◌, refl, sym, ap, ap₂, ◌∙◌}
use mathlib.Core.Bool.{Bool, true, false, cond, ◌||◌}
use mathlib.Core.List.{List, [], ◌∷◌, map}
use native.Mathlib.Omega.{arith}
use borrow.Author.Tests.{eq-eqb}
use lib.Dec.{eqb}
use Rattle.rules.specs.declared.Reading.{Reading}
use Rattle.kinds.specs.Kinds.{number_of}
use Rattle.entries.specs.declared.Entry.{Entry}
use Rattle.entries.specs.Walk.{entries}
use Rattle.stores.specs.Soundness.{sound}
use Rattle.names.specs.Names.{Name, block_after, scope_after, names_from, names}
use Rattle.naming.specs.Names.{naming_of}
use Rattle.frames.specs.Frames.{frames_from, frames, earlier, first_twice, blocks_in, is_single}
use Rattle.comparing.specs.Comparing.{judged}
use Rattle.written.specs.Sayings.{saying, sayings, SaySame}
use Rattle.compared.proofs.ByKinds.{kinds_of}
use Rattle.comparing.proofs.Answers.{judged-singular}
use Rattle.compared.proofs.Said.{kinds_said, kinds-said, alike, shown, name-shape, frame-shape}
use Rattle.std.specs.Prelude.{Option, Some, None, Ok}

-- equal lists of what is said, first and rest
first_said : (ar ar' : List ℕ) (x y : Option Entry) (es es' : List (Option Entry)) → map (saying ar) (x ∷ es) ≡ map (saying ar') (y ∷ es') → saying ar x ≡ saying ar' y
first_said ar ar' x y es es' e = cc

rest-said : (ar ar' : List ℕ) (x y : Option Entry) (es es' : List (Option Entry)) → map (saying ar) (x ∷ es) ≡ map (saying ar') (y ∷ es') → map (saying ar) es ≡ map (saying ar') es'
rest-said ar ar' x y es es' e = cc

-- a list with or without its first, whose bytes count only where it is there
perhaps : (t : Bool) (i s : ℕ) (b b' : List ℕ) (xs ys : List Name) → (t ≡ true → b ≡ b') → xs ≡ ys
    → cond t (record { number = i; scope = s; bytes = b } ∷ xs) xs ≡ cond t (record { number = i; scope = s; bytes = b' } ∷ ys) ys
perhaps true i s b b' xs ys h e = ap₂ (λ (c : List ℕ) (l : List Name). record { number = i; scope = s; bytes = c } ∷ l) (h refl) e
perhaps false i s b b' xs ys h e = e

module _ (ar ar' : List ℕ) where
  names-said : (es es' : List (Option Entry)) → map (saying ar) es ≡ map (saying ar') es' → (i b s : ℕ) → names_from es ar i b s ≡ names_from es' ar' i b s
  unfolding names_from saying
  names-said [] [] e i b s = refl
  names-said [] (y ∷ es') e i b s =
      let z : ◌≡◌ {A = ℕ} 0 1 = cc in
      absurd (omega arith)
  names-said (x ∷ es) [] e i b s =
      let z : ◌≡◌ {A = ℕ} 0 1 = cc in
      absurd (omega arith)
  names-said (None ∷ es) (None ∷ es') e i b s = refl
  names-said (None ∷ es) (Some x ∷ es') e i b s =
      let z : ◌≡◌ {A = ℕ} 0 1 = cc in
      absurd (omega arith)
  names-said (Some x ∷ es) (y ∷ es') e i b s =
      let a = alike ar ar' x.kind x.fields x.next y (first_said ar ar' (Some x) y es es' e) in
      let more = names-said es es' (rest-said ar ar' (Some x) y es es' e) (suc i) (block_after (number_of x.kind) i b) (scope_after (number_of x.kind) i b s) in
      perhaps (eqb (number_of x.kind) 4 || eqb (number_of x.kind) 6) i s _ _ _ _ (λ t. shown ar ar' x.kind x.fields a.fields (name-shape x.kind t) a.content) more
      ∙ ap (λ (z : Option Entry). names_from (z ∷ es') ar' i b s) (sym a.is)

  frames-said : (es es' : List (Option Entry)) → map (saying ar) es ≡ map (saying ar') es' → (i : ℕ) → frames_from es ar i ≡ frames_from es' ar' i
  unfolding frames_from saying
  frames-said [] [] e i = refl
  frames-said [] (y ∷ es') e i =
      let z : ◌≡◌ {A = ℕ} 0 1 = cc in
      absurd (omega arith)
  frames-said (x ∷ es) [] e i =
      let z : ◌≡◌ {A = ℕ} 0 1 = cc in
      absurd (omega arith)
  frames-said (None ∷ es) (None ∷ es') e i = refl
  frames-said (None ∷ es) (Some x ∷ es') e i =
      let z : ◌≡◌ {A = ℕ} 0 1 = cc in
      absurd (omega arith)
  frames-said (Some x ∷ es) (y ∷ es') e i =
      let a = alike ar ar' x.kind x.fields x.next y (first_said ar ar' (Some x) y es es' e) in
      let more = frames-said es es' (rest-said ar ar' (Some x) y es es' e) (suc i) in
      perhaps (eqb (number_of x.kind) 2) i 0 _ _ _ _ (λ t. shown ar ar' x.kind x.fields a.fields (frame-shape x.kind t) a.content) more
      ∙ ap (λ (z : Option Entry). frames_from (z ∷ es') ar' i) (sym a.is)

-- blocks by kinds alone
blocks_by : List ℕ → ℕ
blocks_by [] = 0
blocks_by (k ∷ ks) = let more = blocks_by ks in cond (eqb k 1) (suc more) more

blocks-by : (es : List (Option Entry)) → blocks_in es ≡ blocks_by (kinds_of es)
unfolding blocks_in blocks_by kinds_of
blocks-by [] = refl
blocks-by (None ∷ es) = refl
blocks-by (Some e ∷ es) = ap (λ (c : ℕ). cond (eqb (number_of e.kind) 1) (suc c) c) (blocks-by es)

module _ (r : Reading) (st ar st' ar' : List ℕ) (e : judged r st ar ≡ Ok tt) (s : sound r st' ar' ≡ true) (h : SaySame st ar st' ar') where
  same_names : names st ar ≡ names st' ar'
  unfolding names SaySame sayings
  same_names = names-said ar ar' (entries st) (entries st') h 0 0 0

  same-frames : frames st ar ≡ frames st' ar'
  unfolding frames SaySame sayings
  same-frames = frames-said ar ar' (entries st) (entries st') h 0

  same_blocks : blocks_in (entries st) ≡ blocks_in (entries st')
  unfolding SaySame sayings
  same_blocks =
      blocks-by (entries st) ∙ ap blocks_by (sym (kinds-said ar (entries st)) ∙ ap kinds_said h ∙ kinds-said ar' (entries st')) ∙ sym (blocks-by (entries st'))

  pub said-judged : judged r st' ar' ≡ Ok tt
  unfolding judged is_single first_twice earlier naming_of
  said-judged =
      let k = judged-singular r st ar e in
      rw (s, eq-eqb (blocks_in (entries st')) 1 (sym same_blocks ∙ k.single), ← same_names, ← same-frames, k.tags, k.opens)
