-- STORES THAT SAY THE SAME (the round trip's own words: kinds, contents and decimal parts, places aside), both sound, give an empty list. Assumes nothing.
use Prim.Native.Nat.{ℕ, zero, suc, ◌-◌, ◌≤◌}
use mathlib.Core.Path.{◌≡◌, refl, sym, ap, ◌∙◌}
use mathlib.Core.Bool.{Bool, true, false, cond, ◌||◌, true≢false}
use mathlib.Core.List.{List, [], ◌∷◌, map}
use native.Mathlib.Omega.{arith}
use lib.Dec.{eqb}
use Rattle.text.proofs.Bools.{and_l}
use Rattle.rules.specs.declared.Reading.{Reading}
use Rattle.kinds.specs.declared.Kind.{Kind}
use Rattle.kinds.specs.declared.Kind.TheVariants.{NoKind, Block, FrameOpen, FrameClose, Tag, Loop, LoopTag}
use Rattle.kinds.specs.declared.Kind.TheVariants.{LoopEnd, Inapplicable, Unknown, Bare, SingleQuoted}
use Rattle.kinds.specs.declared.Kind.TheVariants.{DoubleQuoted, Multiline, Number, Uncertain, Quoted}
use Rattle.kinds.specs.Kinds.{number_of, shape_of, is_content}
use Rattle.entries.specs.declared.Fields.{Fields}
use Rattle.entries.specs.declared.Entry.{Entry}
use Rattle.entries.specs.Walk.{entries}
use Rattle.contents.specs.Contents.{content_bytes}
use Rattle.nesting.specs.Nesting.{nested}
use Rattle.stores.specs.Soundness.{sound}
use Rattle.stores.specs.Content.{nth}
use Rattle.steps.specs.Steps.{held_by}
use Rattle.names.specs.Names.{Name, block_after, scope_after, names_from, names}
use Rattle.frames.specs.Frames.{frames_from, frames}
use Rattle.cells.specs.Cells.{Cell, cells, name_of}
use Rattle.number_cases.specs.declared.Case.TheVariants.{Same}
use Rattle.cases.specs.Cases.{is_text, case_of}
use Rattle.changes.specs.Changes.{changes}
use Rattle.comparing.specs.Comparing.{judged}
use Rattle.written.specs.Sayings.{Saying, says, nothing, content_in, saying, sayings, SaySame}
use Rattle.soles.specs.Members.{In, here, there}
use Rattle.soles.specs.Singular.{Singular}
use Rattle.compared.specs.Twins.{Twins}
use Rattle.compared.proofs.Selves.{IsRecord, met, value-record}
use Rattle.soles.proofs.Soles.{nm, Told, told-all}
use Rattle.comparing.proofs.Answers.{judged-singular}
use Rattle.compared.proofs.Twins.{twins-empty, case_twin}
use Rattle.compared.proofs.ByKinds.{kinds_of, same-cells}
use Rattle.std.specs.Prelude.{Option, Some, None, Ok}
use Rattle.entries.specs.Entries.{whole}

-- kinds as they are said
unfoldable pub kinds_said : List Saying → List ℕ
kinds_said [] = []
kinds_said (nothing ∷ l) = []
kinds_said (says k c p ∷ l) = number_of k ∷ kinds_said l

pub kinds-said : (ar : List ℕ) (es : List (Option Entry)) → kinds_said (map (saying ar) es) ≡ kinds_of es
unfolding kinds_said saying kinds_of
kinds-said ar [] = refl
kinds-said ar (None ∷ es) = refl
kinds-said ar (Some e ∷ es) = ap (λ (l : List ℕ). number_of e.kind ∷ l) (kinds-said ar es)

-- record by record
nth-said : (ar ar' : List ℕ) (es es' : List (Option Entry)) → map (saying ar) es ≡ map (saying ar') es' → (n : ℕ) → saying ar (nth es n) ≡ saying ar' (nth es' n)
unfolding nth saying
nth-said ar ar' [] [] e n = refl
nth-said ar ar' [] (x ∷ es') e n =
    let z : ◌≡◌ {A = ℕ} 0 1 = cc in
    absurd (omega arith)
nth-said ar ar' (x ∷ es) [] e n =
    let z : ◌≡◌ {A = ℕ} 0 1 = cc in
    absurd (omega arith)
nth-said ar ar' (x ∷ es) (y ∷ es') e zero = first e
  where
    first : (saying ar x ∷ map (saying ar) es) ≡ (saying ar' y ∷ map (saying ar') es') → saying ar x ≡ saying ar' y
    first e = cc
nth-said ar ar' (x ∷ es) (y ∷ es') e (suc n) = nth-said ar ar' es es' (behind e) n
  where
    behind : (saying ar x ∷ map (saying ar) es) ≡ (saying ar' y ∷ map (saying ar') es') → map (saying ar) es ≡ map (saying ar') es'
    behind e = cc

-- what two records that say the same have in common
pub record Alike (ar ar' : List ℕ) (k : Kind) (f : Fields) (e : Option Entry) : Type 0 where
  pub fields : Fields
  pub end : ℕ
  pub is : e ≡ whole k fields end
  pub parts : f.parts ≡ fields.parts
  pub content : content_in ar k f ≡ content_in ar' k fields

pub alike : (ar ar' : List ℕ) (k : Kind) (f : Fields) (n : ℕ) (e : Option Entry) → saying ar (whole k f n) ≡ saying ar' e → Alike ar ar' k f e
unfolding saying
alike ar ar' k f n None q =
    let z : ◌≡◌ {A = ℕ} 0 1 = cc in
    absurd (omega arith)
alike ar ar' k f n (Some e) q =
    let a : k ≡ e.kind = cc in
    let b : f.parts ≡ e.fields.parts = cc in
    let c : content_in ar k f ≡ content_in ar' e.kind e.fields = cc in
    record { fields = e.fields; end = e.next; is = ap (λ (z : Kind). whole z e.fields e.next) (sym a); parts = b; content = c ∙ ap (λ (z : Kind). content_in ar' z e.fields) (sym a) }

pub shown : (ar ar' : List ℕ) (k : Kind) (f g : Fields) → is_content (shape_of k) ≡ true → content_in ar k f ≡ content_in ar' k g → content_bytes ar k f ≡ content_bytes ar' k g
unfolding content_in
shown ar ar' k f g t e = rw t at e

text-shape : (k : Kind) → is_text (number_of k) ≡ true → is_content (shape_of k) ≡ true
unfolding is_text is_content shape_of
text-shape NoKind e = absurd (true≢false (sym e))
text-shape Block e = refl
text-shape FrameOpen e = refl
text-shape FrameClose e = absurd (true≢false (sym e))
text-shape Tag e = refl
text-shape Loop e = absurd (true≢false (sym e))
text-shape LoopTag e = refl
text-shape LoopEnd e = absurd (true≢false (sym e))
text-shape Inapplicable e = absurd (true≢false (sym e))
text-shape Unknown e = absurd (true≢false (sym e))
text-shape Bare e = refl
text-shape SingleQuoted e = refl
text-shape DoubleQuoted e = refl
text-shape Multiline e = refl
text-shape Number e = absurd (true≢false (sym e))
text-shape Uncertain e = absurd (true≢false (sym e))
text-shape Quoted e = refl

-- values
value_same : (ar ar' : List ℕ) (e e' : Option Entry) → IsRecord e → saying ar e ≡ saying ar' e' → case_of ar ar' e e' ≡ Same
value_same ar ar' (Some e) e' met q =
    let a = alike ar ar' e.kind e.fields e.next e' q in
    ap (case_of ar ar' (Some e)) a.is ∙ case_twin ar ar' e.kind e.fields a.fields e.next a.end a.parts (λ t. shown ar ar' e.kind e.fields a.fields (text-shape e.kind t) a.content)
value_same ar ar' None e' x'' q = elim x'' [ ]

-- names
data HasContent : Option Entry → Type 0 where
  has : {e : Entry} → is_content (shape_of e.kind) ≡ true → HasContent (Some e)

name-same : (ar ar' : List ℕ) (e e' : Option Entry) → HasContent e → saying ar e ≡ saying ar' e' → held_by ar e ≡ held_by ar' e'
unfolding held_by
name-same ar ar' (Some e) e' (has t) q =
    let a = alike ar ar' e.kind e.fields e.next e' q in
    shown ar ar' e.kind e.fields a.fields t a.content ∙ sym (ap (held_by ar') a.is)
name-same ar ar' None e' x'' q = elim x'' [ ]

pub name-shape : (k : Kind) → (eqb (number_of k) 4 || eqb (number_of k) 6) ≡ true → is_content (shape_of k) ≡ true
unfolding is_content shape_of
name-shape NoKind e = absurd (true≢false (sym e))
name-shape Block e = refl
name-shape FrameOpen e = refl
name-shape FrameClose e = absurd (true≢false (sym e))
name-shape Tag e = refl
name-shape Loop e = absurd (true≢false (sym e))
name-shape LoopTag e = refl
name-shape LoopEnd e = absurd (true≢false (sym e))
name-shape Inapplicable e = absurd (true≢false (sym e))
name-shape Unknown e = absurd (true≢false (sym e))
name-shape Bare e = refl
name-shape SingleQuoted e = refl
name-shape DoubleQuoted e = refl
name-shape Multiline e = refl
name-shape Number e = absurd (true≢false (sym e))
name-shape Uncertain e = absurd (true≢false (sym e))
name-shape Quoted e = refl

pub frame-shape : (k : Kind) → eqb (number_of k) 2 ≡ true → is_content (shape_of k) ≡ true
unfolding is_content shape_of
frame-shape NoKind e = absurd (true≢false (sym e))
frame-shape Block e = refl
frame-shape FrameOpen e = refl
frame-shape FrameClose e = absurd (true≢false (sym e))
frame-shape Tag e = refl
frame-shape Loop e = absurd (true≢false (sym e))
frame-shape LoopTag e = refl
frame-shape LoopEnd e = absurd (true≢false (sym e))
frame-shape Inapplicable e = absurd (true≢false (sym e))
frame-shape Unknown e = absurd (true≢false (sym e))
frame-shape Bare e = refl
frame-shape SingleQuoted e = refl
frame-shape DoubleQuoted e = refl
frame-shape Multiline e = refl
frame-shape Number e = absurd (true≢false (sym e))
frame-shape Uncertain e = absurd (true≢false (sym e))
frame-shape Quoted e = refl

record Lies (es : List (Option Entry)) (i : ℕ) (x : Name) : Type 0 where
  from : i ≤ x.number
  has : HasContent (nth es (x.number - i))

later : (e : Option Entry) (es : List (Option Entry)) (i : ℕ) (x : Name) → Lies es (suc i) x → Lies (e ∷ es) i x
unfolding nth
later e es i x l =
    let q : x.number - i ≡ suc (x.number - suc i) = omega (arith, l.from) in
    record { from = omega (arith, l.from); has = rw q l.has }

at_once : (k : Kind) (f : Fields) (n : ℕ) (es : List (Option Entry)) (i : ℕ) (x : Name) → i ≡ x.number → is_content (shape_of k) ≡ true → Lies (whole k f n ∷ es) i x
unfolding nth
at_once k f n es i x e t =
    let z : x.number - i ≡ 0 = omega arith in
    record { from = omega arith; has = rw z (has t) }

in-names : (es : List (Option Entry)) (ar : List ℕ) (i b s : ℕ) (x : Name) → In x (names_from es ar i b s) → Lies es i x
unfolding names_from
in-names (Some r ∷ es) ar i b s x m = by (eqb (number_of r.kind) 4 || eqb (number_of r.kind) 6) refl m (λ q. in-names es ar (suc i) (block_after (number_of r.kind) i b) (scope_after (number_of r.kind) i b s) x q)
  where
    mine : Name
    mine = record { number = i; scope = s; bytes = content_bytes ar r.kind r.fields }

    more : List Name
    more = names_from es ar (suc i) (block_after (number_of r.kind) i b) (scope_after (number_of r.kind) i b s)

    by : (t : Bool) → (eqb (number_of r.kind) 4 || eqb (number_of r.kind) 6) ≡ t → In x (cond t (mine ∷ more) more) → (In x more → Lies es (suc i) x) → Lies (Some r ∷ es) i x
    by true q (here e) again = at_once r.kind r.fields r.next es i x (ap (λ (z : Name). z.number) e) (name-shape r.kind q)
    by true q (there p) again = later (Some r) es i x (again p)
    by false q p again = later (Some r) es i x (again p)
in-names [] ar i b s x m = elim m [ ]
in-names (None ∷ es) ar i b s x m = elim m [ ]

in-frames : (es : List (Option Entry)) (ar : List ℕ) (i : ℕ) (x : Name) → In x (frames_from es ar i) → Lies es i x
unfolding frames_from
in-frames (Some r ∷ es) ar i x m = by (eqb (number_of r.kind) 2) refl m (λ q. in-frames es ar (suc i) x q)
  where
    mine : Name
    mine = record { number = i; scope = 0; bytes = content_bytes ar r.kind r.fields }

    by : (t : Bool) → eqb (number_of r.kind) 2 ≡ t → In x (cond t (mine ∷ frames_from es ar (suc i)) (frames_from es ar (suc i))) → (In x (frames_from es ar (suc i)) → Lies es (suc i) x) → Lies (Some r ∷ es) i x
    by true q (here e) again = at_once r.kind r.fields r.next es i x (ap (λ (z : Name). z.number) e) (frame-shape r.kind q)
    by true q (there p) again = later (Some r) es i x (again p)
    by false q p again = later (Some r) es i x (again p)
in-frames [] ar i x m = elim m [ ]
in-frames (None ∷ es) ar i x m = elim m [ ]

whole-store : (es : List (Option Entry)) (x : Name) → Lies es 0 x → HasContent (nth es x.number)
whole-store es x l =
    let z : x.number - 0 ≡ x.number = omega arith in
    rw z at l.has

module _ (r : Reading) (st ar st' ar' : List ℕ) (e : judged r st ar ≡ Ok tt) (s : sound r st' ar' ≡ true) (h : SaySame st ar st' ar') where
  each : (n : ℕ) → saying ar (nth (entries st) n) ≡ saying ar' (nth (entries st') n)
  unfolding SaySame sayings
  each n = nth-said ar ar' (entries st) (entries st') h n

  kinds-same : kinds_of (entries st) ≡ kinds_of (entries st')
  unfolding SaySame sayings
  kinds-same = sym (kinds-said ar (entries st)) ∙ ap kinds_said h ∙ kinds-said ar' (entries st')

  nested-new : nested r (entries st') ≡ true
  unfolding sound
  nested-new = and_l (nested r (entries st')) _ s

  ready : Singular st ar
  ready = judged-singular r st ar e

  told : (x : Cell) → In x (cells st) → Told st ar x
  told x m = told-all st ar ready.reading ready.whole ready.single x m

  twins : Twins st ar st' ar'
  unfolding name_of names frames nm
  twins =
      record {
        same = same-cells ready.reading r st st' ready.whole nested-new kinds-same;
        tags = λ x m. name-same ar ar' (nth (entries st) x.tag) (nth (entries st') x.tag) (whole-store (entries st) _ (in-names (entries st) ar 0 0 0 _ (told x m).tagged)) (each x.tag);
        opens = λ x m d. name-same ar ar' (nth (entries st) x.frame) (nth (entries st') x.frame) (whole-store (entries st) _ (in-frames (entries st) ar 0 _ ((told x m).framed d))) (each x.frame);
        values = λ x m. value_same ar ar' (nth (entries st) x.number) (nth (entries st') x.number) (value-record st x m) (each x.number);
      }

  -- THE LIST OF TWO SOUND STORES THAT SAY THE SAME IS EMPTY
  pub said-empty : changes st ar st' ar' ≡ []
  said-empty = twins-empty r st ar st' ar' e twins
