-- Whole records, nested as document 01 says: the first kind 1 and no other of that kind; a loop has the tags it counts, at least one, and whole rows; a loop without rows
-- isn't followed by kind 4. In the strict reading (document 02, Three) a further kind 1 may stand outside frames, and a loop has at least one row. A machine over
-- kinds. Assumes nothing.
use Rattle.std.specs.Prelude.{ℕ, zero, suc, ◌%◌, Bool, true, false, not, cond, List, [], ◌∷◌, eqb, Option, Some, None}
use Rattle.rules.specs.declared.Reading.{Reading}
use Rattle.rules.specs.declared.Reading.TheVariants.{First, Strict}
use Rattle.entries.specs.declared.Entry.{Entry}
use Rattle.kinds.specs.Kinds.{number_of, is_value_kind}
use Rattle.nesting.specs.declared.Where.{Where}
use Rattle.nesting.specs.declared.Where.TheVariants.{Start, Items, Names, Values, Wants}
use Rattle.nesting.specs.declared.Standing.{Standing}

-- where a record leads that may stand here: in a frame or not, and what may stand next
abbrev pub stands : Bool → Where → Option Standing
stands f w = Some (record { frame = f; place = w })

-- the tags of a loop: at least one
unfoldable pub opens_loop : Bool → ℕ → Option Standing
opens_loop f zero = None
opens_loop f (suc n) = stands f (Names (suc n) (suc n))

-- any other record between items: in the strict reading a further block, outside frames
abbrev pub further : Reading → Bool → ℕ → Option Standing
further First f k = None
further Strict f k = cond (eqb k 1) (cond f None (stands false (Items false))) None

unfoldable pub at_items : Reading → Bool → Bool → ℕ → ℕ → Option Standing
at_items r f empty k n =
    cond (eqb k 4) (cond empty None (stands f Wants))
    (cond (eqb k 5) (opens_loop f n)
    (cond (eqb k 2) (cond f None (stands true (Items false)))
    (cond (eqb k 3) (cond f (stands false (Items false)) None) (further r f k))))

-- the last tag leads to the values
unfoldable pub after_name : Bool → ℕ → ℕ → Option Standing
after_name f all zero = stands f (Values all 0)
after_name f all (suc left) = stands f (Names all (suc left))

unfoldable pub at_names : Bool → ℕ → ℕ → ℕ → Option Standing
at_names f all zero k = None
at_names f all (suc left) k = cond (eqb k 6) (after_name f all left) None

-- the end of a loop of j values: in the strict reading it has some
abbrev pub ends_loop : Reading → Bool → ℕ → Option Standing
ends_loop First f j = stands f (Items (eqb j 0))
ends_loop Strict f j = cond (eqb j 0) None (stands f (Items false))

-- whole rows
unfoldable pub at_values : Reading → Bool → ℕ → ℕ → ℕ → Option Standing
at_values r f all j k =
    cond (eqb k 7) (cond (eqb (j % all) 0) (ends_loop r f j) None)
    (cond (is_value_kind k) (stands f (Values all (suc j))) None)

-- a record of kind k with the number n
unfoldable pub standing : Reading → Bool → Where → ℕ → ℕ → Option Standing
standing r f Start k n = cond (eqb k 1) (stands f (Items false)) None
standing r f (Items e) k n = at_items r f e k n
standing r f (Names all left) k n = at_names f all left k
standing r f (Values all j) k n = at_values r f all j k
standing r f Wants k n = cond (is_value_kind k) (stands f (Items false)) None

-- a store ends between items, outside frames
unfoldable pub ended : Bool → Where → Bool
ended f Start = false
ended f (Items e) = not f
ended f (Names all left) = false
ended f (Values all j) = false
ended f Wants = false

unfoldable pub follow : Option Standing → (Bool → Where → Bool) → Bool
follow (Some s) rest = rest s.frame s.place
follow None rest = false

unfoldable pub nested_from : Reading → List (Option Entry) → Bool → Where → Bool
nested_from r [] f w = ended f w
nested_from r (None ∷ es) f w = false
nested_from r (Some e ∷ es) f w = follow (standing r f w (number_of e.kind) e.fields.number) (λ f' w'. nested_from r es f' w')

unfoldable pub nested : Reading → List (Option Entry) → Bool
nested r es = nested_from r es false Start

-- how many values of a loop have been counted
abbrev pub counted : Where → ℕ
counted Start = 0
counted (Items e) = 0
counted (Names all left) = 0
counted (Values all j) = j
counted Wants = 0
