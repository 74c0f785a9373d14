-- SOUND (document 01), by the rules of a reading: a store is whole records nested as it says, and its contents keep three clauses. Each could be read as its kind, and
-- numbers keep the limits. Each lies inside the area. The layout: they follow one another in the order of the records, without gaps, and fill the area. Assumes nothing.
use Rattle.std.specs.Prelude.{ℕ, ◌+◌, ◌≡◌, Bool, true, false, cond, ◌&&◌, List, [], ◌∷◌, eqb, length, Option, Some, None}
use Rattle.rules.specs.declared.Reading.{Reading}
use Rattle.kinds.specs.declared.Kind.{Kind}
use Rattle.kinds.specs.Kinds.{shape_of, is_content}
use Rattle.entries.specs.declared.Fields.{Fields}
use Rattle.entries.specs.declared.Entry.{Entry}
use Rattle.entries.specs.Walk.{entries}
use Rattle.nesting.specs.Nesting.{nested}
use Rattle.contents.specs.Contents.{content_length, is_inside, is_readable, own_rule}

-- each content could be read as its kind, and numbers keep the limits
unfoldable pub each_readable : Reading → List (Option Entry) → List ℕ → Bool
each_readable r [] ar = true
each_readable r (None ∷ es) ar = false
each_readable r (Some e ∷ es) ar = is_readable r ar e.kind e.fields && each_readable r es ar

-- each content lies inside an area of so many bytes
unfoldable pub each_inside : List (Option Entry) → ℕ → Bool
each_inside [] size = true
each_inside (None ∷ es) size = false
each_inside (Some e ∷ es) size = is_inside size e.kind e.fields && each_inside es size

-- a record's content, if it has one, starts at area offset a
unfoldable pub follows : ℕ → Kind → Fields → Bool
follows a k f = cond (is_content (shape_of k)) (eqb f.number a) true

-- the area that it takes
unfoldable pub takes : Kind → Fields → ℕ
takes k f = cond (is_content (shape_of k)) (content_length k f) 0

-- the layout from area offset a on: in the order of the records, without gaps, to the end of an area of so many bytes
unfoldable pub laid_out : List (Option Entry) → ℕ → ℕ → Bool
laid_out [] size a = eqb a size
laid_out (None ∷ es) size a = false
laid_out (Some e ∷ es) size a = let more = laid_out es size (a + takes e.kind e.fields) in follows a e.kind e.fields && more

-- the three clauses, the layout from area offset a on
unfoldable pub filled_from : Reading → List (Option Entry) → List ℕ → ℕ → Bool
filled_from r es ar a = each_readable r es ar && (each_inside es (length ar) && laid_out es (length ar) a)

unfoldable pub filled : Reading → List (Option Entry) → List ℕ → Bool
filled r es ar = filled_from r es ar 0

-- a record's content starts at area offset a, and it keeps its own rule
unfoldable pub kept : Reading → List ℕ → ℕ → Kind → Fields → Bool
kept r ar a k f = follows a k f && own_rule r ar k f

unfoldable pub sound : Reading → List ℕ → List ℕ → Bool
sound r st ar = nested r (entries st) && filled r (entries st) ar

-- every entry is a record that keeps its own rule
pub data Owned (r : Reading) (ar : List ℕ) : List (Option Entry) → Type 0 where
  none : Owned r ar []
  more : {e : Entry} {es : List (Option Entry)} → own_rule r ar e.kind e.fields ≡ true → Owned r ar es → Owned r ar (Some e ∷ es)
