-- What Read and Outline write of a text's records (document 01, 'Records'): store bytes and area bytes, record after record. Assumes nothing.
use Rattle.std.specs.Prelude.{ℕ, suc, ◌+◌, Bool, true, false, cond, List, [], ◌∷◌, ◌++◌, eqb}
use Rattle.grammar.specs.Machine.{Rec}
use Rattle.sizes.specs.Sizes.{content_size}
use Rattle.desk.specs.Written.{content_of, record_bytes}

-- a loop counts the tags that stand directly behind it
unfoldable pub tags_of : List Rec → ℕ
tags_of [] = 0
tags_of (r ∷ rs) = let more = suc (tags_of rs) in cond (eqb r.kind 6) more 0

-- the store's bytes of records whose contents start at area offset a
unfoldable pub store_of : Bool → List ℕ → ℕ → List Rec → List ℕ
store_of full s a [] = []
store_of full s a (r ∷ rs) = record_bytes full s a (tags_of rs) r ++ store_of full s (a + content_size r.kind r.size) rs

-- contents follow one another in record order
unfoldable pub area_of : List ℕ → List Rec → List ℕ
area_of s [] = []
area_of s (r ∷ rs) = content_of s r ++ area_of s rs

-- the outline has no area
unfoldable pub area_in : Bool → List ℕ → List Rec → List ℕ
area_in true s rs = area_of s rs
area_in false s rs = []
