-- Laws of the walk over contents: the three clauses hold from a record on just where it keeps its own rule and its
-- content follows, and they hold behind it; what a record takes lies inside. Every record of a sound store keeps its
-- own rule. Assumes nothing.
use Prim.Native.Nat.{ℕ, ◌+◌, ◌-◌, ◌≤◌, ◌<◌}
use mathlib.Core.Path.{◌≡◌, refl, sym, ◌∙◌}
use mathlib.Core.Bool.{Bool, true, false, cond, ◌&&◌, true≢false}
use mathlib.Core.List.{List, [], ◌∷◌}
use native.Mathlib.Omega.{arith}
use borrow.Author.Tests.{eqb-true}
use lib.Dec.{eqb}
use lib.ListN.{length}
use Rattle.text.proofs.Bools.{and_l, and_r}
use Rattle.rules.specs.declared.Reading.{Reading}
use Rattle.kinds.specs.declared.Kind.{Kind}
use Rattle.entries.specs.declared.Fields.{Fields}
use Rattle.entries.specs.declared.Entry.{Entry}
use Rattle.kinds.specs.Kinds.{shape_of, is_content}
use Rattle.entries.specs.Entries.{entry_at, whole}
use Rattle.entries.specs.Walk.{entries}
use Rattle.entries.proofs.Walking.{rest, rest_all, rest_over, rest-none, next-at}
use Rattle.nesting.specs.Nesting.{nested}
use Rattle.contents.specs.Contents.{content_length, is_inside, is_readable, own_rule}
use Rattle.contents.proofs.Kept.{content-length, own-inside}
use Rattle.stores.specs.Soundness.{each_readable, each_inside, follows, takes, laid_out, filled_from, filled, kept, sound, Owned, none, more}
use Rattle.std.specs.Prelude.{Option, Some, None}

-- a record's part in the three clauses, and that of the records behind it
together : (r rs i is p ps : Bool) → ((r && rs) && ((i && is) && (p && ps))) ≡ ((p && (i && r)) && (rs && (is && ps)))
together true rs true is true ps = refl
together true true true true false ps = refl
together true true true false false ps = refl
together true false true is false ps = refl
together true true false is true ps = refl
together true true false is false ps = refl
together true false false is true ps = refl
together true false false is false ps = refl
together false rs true is true ps = refl
together false rs true is false ps = refl
together false rs false is true ps = refl
together false rs false is false ps = refl

module _ (r : Reading) (es : List (Option Entry)) (ar : List ℕ) (a : ℕ) where
  -- a record is kept, and the clauses hold behind it
  pub filled-record : (k : Kind) (f : Fields) (next : ℕ) → filled_from r (whole k f next ∷ es) ar a ≡ (kept r ar a k f && filled_from r es ar (a + takes k f))
  unfolding filled_from each_readable each_inside laid_out kept own_rule
  filled-record k f next = together (is_readable r ar k f) (each_readable r es ar) (is_inside (length ar) k f) (each_inside es (length ar)) (follows a k f) (laid_out es (length ar) (a + takes k f))

  -- what cannot be read as a record breaks them
  pub filled-nothing : filled_from r (None ∷ es) ar a ≡ false
  unfolding filled_from each_readable
  filled-nothing = refl

-- without records the area must end here
pub filled_none : (r : Reading) (ar : List ℕ) (a : ℕ) → filled_from r [] ar a ≡ eqb a (length ar)
unfolding filled_from each_readable each_inside laid_out
filled_none r ar a = refl

-- a record is kept by both its rule and its place
pub kept_rule : (r : Reading) (ar : List ℕ) (a : ℕ) (k : Kind) (f : Fields) → kept r ar a k f ≡ true → own_rule r ar k f ≡ true
unfolding kept
kept_rule r ar a k f h = and_r (follows a k f) _ h

pub kept-place : (r : Reading) (ar : List ℕ) (a : ℕ) (k : Kind) (f : Fields) → kept r ar a k f ≡ true → is_content (shape_of k) ≡ true → f.number ≡ a
unfolding kept follows
kept-place r ar a k f h e = eqb-true f.number a (rw e at (and_l (follows a k f) _ h))

-- what it takes lies inside
pub takes-inside : (r : Reading) (ar : List ℕ) (a : ℕ) (k : Kind) (f : Fields) → a ≤ length ar → kept r ar a k f ≡ true → a + takes k f ≤ length ar
unfolding takes
takes-inside r ar a k f h e = by (is_content (shape_of k)) refl
  where
    by : (t : Bool) → is_content (shape_of k) ≡ t → a + cond t (content_length k f) 0 ≤ length ar
    by true q = omega (arith, kept-place r ar a k f e q, (own-inside r ar k f (kept_rule r ar a k f e) q).inside, content-length k f)
    by false q = omega arith

-- By offsets of the store: all of it, its end, an entry that is none, a record that breaks a clause, one that keeps them

pub fill-all : (r : Reading) (st ar : List ℕ) → filled r (entries st) ar ≡ filled_from r (rest st 0) ar 0
unfolding filled
fill-all r st ar = rw rest_all

module _ (r : Reading) (st ar : List ℕ) (at a : ℕ) where
  pub fill_end : length st ≤ at → filled_from r (rest st at) ar a ≡ eqb a (length ar)
  fill_end h = rw (rest_over st at h) (filled_none r ar a)

  pub fill_none : at < length st → entry_at st at ≡ None → filled_from r (rest st at) ar a ≡ false
  fill_none h e = rw (rest-none st at h e) (filled-nothing r [] ar a)

  module _ (k : Kind) (f : Fields) (next : ℕ) (h : at < length st) (e : entry_at st at ≡ whole k f next) where
    pub fill-breaks : kept r ar a k f ≡ false → filled_from r (rest st at) ar a ≡ false
    fill-breaks o = rw (next-at st at k f next h e).here (filled-record r (rest st next) ar a k f (next - at) ∙ rw o)

    pub fill-keeps : kept r ar a k f ≡ true → filled_from r (rest st at) ar a ≡ filled_from r (rest st next) ar (a + takes k f)
    fill-keeps o = rw (next-at st at k f next h e).here (filled-record r (rest st next) ar a k f (next - at) ∙ rw o)

-- every record of a sound store keeps its own rule
owned-filled : (r : Reading) (ar : List ℕ) (es : List (Option Entry)) (a : ℕ) → filled_from r es ar a ≡ true → Owned r ar es
owned-filled r ar [] a h = none
owned-filled r ar (None ∷ es) a h = absurd (true≢false (sym h ∙ filled-nothing r es ar a))
owned-filled r ar (Some e ∷ es) a h =
    let both : (kept r ar a e.kind e.fields && filled_from r es ar (a + takes e.kind e.fields)) ≡ true = sym (filled-record r es ar a e.kind e.fields e.next) ∙ h in
    more (kept_rule r ar a e.kind e.fields (and_l (kept r ar a e.kind e.fields) _ both)) (owned-filled r ar es (a + takes e.kind e.fields) (and_r (kept r ar a e.kind e.fields) _ both))

pub owned-sound : (r : Reading) (st ar : List ℕ) → sound r st ar ≡ true → Owned r ar (entries st)
unfolding sound filled
owned-sound r st ar h = owned-filled r ar (entries st) 0 (and_r (nested r (entries st)) _ h)
