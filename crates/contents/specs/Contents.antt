-- One record by itself (document 01): its content could be read as its kind, by the rules of a reading, and lies inside the area; numbers keep the limits, their sign
-- byte is 0 or 1, and a fraction is below 10 to the power of its digits. Assumes nothing.
use Rattle.std.specs.Prelude.{ℕ, ◌+◌, ◌-◌, ◌^◌, Bool, true, cond, ◌&&◌, ◌||◌, List, leb, ltb, length, take, drop}
use Rattle.rules.specs.declared.Reading.{Reading}
use Rattle.kinds.specs.declared.Kind.{Kind}
use Rattle.kinds.specs.Kinds.{shape_of, is_content, marks_of}
use Rattle.entries.specs.declared.Parts.{Parts}
use Rattle.entries.specs.declared.Fields.{Fields}
use Rattle.readable.specs.Readable.{readable}

-- an exponent as stored, in two's complement: within ±999,999,999
unfoldable pub exponent_kept : ℕ → Bool
exponent_kept e = ltb e 1000000000 || ltb (4294967296 - 1000000000) e

unfoldable pub parts_kept : Parts → Bool
parts_kept p =
    leb p.sign 1
    && (ltb p.integer 1000000000
    && (leb p.places 18
    && (ltb p.fraction (10 ^ p.places)
    && (exponent_kept p.exponent
    && ltb p.uncertainty 1000000000))))

-- a content is P's length less the marks
unfoldable pub content_length : Kind → Fields → ℕ
content_length k f = f.token.length - marks_of k

-- the content itself, where its record says that it starts
unfoldable pub content_bytes : List ℕ → Kind → Fields → List ℕ
content_bytes ar k f = take (content_length k f) (drop f.number ar)

-- it lies inside an area of so many bytes: P's length takes in the marks, and the content ends by the area's end
unfoldable pub lies : ℕ → Kind → Fields → Bool
lies size k f = leb (marks_of k) f.token.length && leb (f.number + content_length k f) size

-- a record's content, if it has one, lies inside the area
unfoldable pub is_inside : ℕ → Kind → Fields → Bool
is_inside size k f = cond (is_content (shape_of k)) (lies size k f) true

-- it could be read as its kind; decimal parts keep the limits
unfoldable pub is_readable : Reading → List ℕ → Kind → Fields → Bool
is_readable r ar k f = cond (is_content (shape_of k)) (readable r k (content_bytes ar k f)) (parts_kept f.parts)

-- a record's own rule: both
unfoldable pub own_rule : Reading → List ℕ → Kind → Fields → Bool
own_rule r ar k f = is_inside (length ar) k f && is_readable r ar k f
