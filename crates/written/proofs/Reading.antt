-- Proved: a text that is read, into a store and an area with room, is answered with success and the lengths of what its records are written as, and those bytes are what
-- the lent buffers then start with (reads). Assumes nothing.
use Prim.Native.Nat.{ℕ, ◌+◌, ◌≤◌}
use mathlib.Core.Bool.{true}
use mathlib.Core.Path.{◌≡◌, refl, ap₂, ◌∙◌}
use mathlib.Core.List.{List, [], ◌∷◌}
use borrow.Author.Tests.{le-ltb}
use lib.ListN.{length, length-append}
use lib.Seq.{take_at}
use Rattle.rules.specs.declared.Reading.{Reading}
use Rattle.places.specs.Reports.{success}
use Rattle.kinds.specs.Kinds.{kind_of, shape_of, body_length}
use Rattle.records.specs.Put.{front}
use Rattle.grammar.specs.Machine.{Rec, done}
use Rattle.grammar.specs.Reading.{outline}
use Rattle.sizes.specs.Sizes.{content_size, store_size, area_size}
use Rattle.desk.specs.Written.{content_of, shape_in, record_bytes}
use Rattle.walking.specs.Writing.{tags_of, store_of, area_of}
use Rattle.reading.specs.Services.{read_room, read_by, read_answer, read_store_by, read_store, read_area_by, read_area}
use Rattle.refusals.specs.Answers.{written_if}
use Rattle.written.specs.Results.{store_bytes, area_bytes}
use Rattle.written.proofs.Taken.{outline-taken}
use Rattle.written.proofs.Sources.{Each, none, also, each_map, sources, Facts, facts}
use Rattle.written.proofs.Written.{shape-length}
use Rattle.written.proofs.Told.{content-length}

store_length : (s : List ℕ) (a : ℕ) (rs : List Rec) → length (store_of true s a rs) ≡ store_size rs
unfolding store_of store_size record_bytes shape_in body_length
store_length s a [] = refl
store_length s a (r ∷ rs) =
    length-append (record_bytes true s a (tags_of rs) r) _
    ∙ ap₂ ◌+◌ (shape-length (shape_of (kind_of r.kind)) s a (tags_of rs) r) (store_length s (a + content_size r.kind r.size) rs)

area-length : (g : Reading) (s : List ℕ) {rs : List Rec} → Each (Facts g s) rs → length (area_of s rs) ≡ area_size rs
unfolding area_of area_size
area-length g s none = refl
area-length g s (also {r = r} {rs = rs} p h) = length-append (content_of s r) (area_of s rs) ∙ ap₂ ◌+◌ (content-length g s r p) (area-length g s h)

-- Read of s, whose records are rs
pub record Reads (g : Reading) (s store area : List ℕ) (rs : List Rec) : Type 0 where
  pub answer : read_answer g s (length store) (length area) ≡ success (store_size rs) (area_size rs)
  pub stored : store_bytes g s store area ≡ store_of true s 0 rs
  pub contents : area_bytes g s store area ≡ area_of s rs

pub reads : (g : Reading) (s store area : List ℕ) (rs : List Rec) → outline g s ≡ done rs → store_size rs ≤ length store → area_size rs ≤ length area → Reads g s store area rs
unfolding read_answer read_by read_room store_bytes read_store read_store_by area_bytes read_area read_area_by written_if success front
reads g s store area rs e m k =
    let f = each_map (λ r. facts) (sources (outline-taken g s rs e).read.taken) in
    let p = le-ltb (length store) (store_size rs) m in
    let q = le-ltb (length area) (area_size rs) k in
    record {
      answer = rw (e, p, q);
      stored = rw (e, p, q) (take_at (store_of true s 0 rs) _ (store_size rs) (store_length s 0 rs));
      contents = rw (e, p, q) (take_at (area_of s rs) _ (area_size rs) (area-length g s f));
    }
