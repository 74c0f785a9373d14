-- What Read writes is read back. Proved: the entries of the store that is written of a text's records are those records, with their places, area offsets, tag counts
-- and decimal parts (written_back). Assumes nothing.
use Prim.Native.Nat.{ℕ, suc, ◌+◌, ◌-◌, ◌^◌, ◌≤◌, ◌<◌}
use mathlib.Core.Bool.{Bool, true, false, cond}
use mathlib.Core.Path.{◌≡◌, refl, sym, ap, ◌∙◌}
use mathlib.Core.List.{List, [], ◌∷◌, ◌++◌}
use native.Mathlib.Omega.{arith}
use native.Mathlib.Nat.{pow-le-pow_right}
use borrow.Author.Tests.{eqb-true}
use lib.Dec.{eqb}
use lib.ListN.{length}
use Rattle.rules.specs.declared.Reading.{Reading}
use Rattle.places.specs.Places.{place_at}
use Rattle.places.proofs.Places.{line-bound, column-bound}
use Rattle.numbers.specs.Meaning.{judged, number_of as number_in}
use Rattle.numbers.proofs.Facts.{Bounded, number-facts}
use Rattle.entries.specs.declared.Entry.{Entry}
use Rattle.entries.specs.declared.Fields.{Fields}
use Rattle.kinds.specs.declared.Kind.{Kind}
use Rattle.kinds.specs.declared.Kind.TheVariants.{NoKind, Block, FrameOpen, FrameClose, Tag, Loop, LoopTag, LoopEnd, Inapplicable, Unknown, Bare, SingleQuoted, DoubleQuoted, Multiline, Number, Uncertain, Quoted}
use Rattle.kinds.specs.declared.Shape.{Shape}
use Rattle.kinds.specs.declared.Shape.TheVariants.{Empty, Place, Content, Count, Parts, PartsUncertain}
use Rattle.kinds.specs.Kinds.{kind_of, number_of, shape_of, shape_length, body_length}
use Rattle.records.specs.Records.{end_record}
use Rattle.entries.specs.Entries.{stored, no_parts, no_fields, entry_at, whole}
use Rattle.records.proofs.Forms.{length-place, length-content, length-loop, length-number, length-uncertain}
use Rattle.entries.proofs.Back.{Fits, Small, end_back, place-back, content-back, loop-back, number-back, uncertain-back}
use Rattle.grammar.specs.Machine.{Rec}
use Rattle.sizes.specs.Sizes.{content_size}
use Rattle.sizes.proofs.Room.{content-small}
use Rattle.desk.specs.Written.{token_of, decimal_of, token_text, shaped, shape_in, record_bytes}
use Rattle.walking.specs.Writing.{tags_of, store_of}
use Rattle.entries.specs.Walk.{onward, entries_from, entries}
use Rattle.written.proofs.Taken.{bytes_of, Outline}
use Rattle.written.proofs.Sources.{Each, none, also, each_map, sources, Facts, facts}
use Rattle.std.specs.Prelude.{Option}

-- the fields that a record is written with: a is the area offset, n the number of tags
unfoldable pub fields_in : Shape → List ℕ → ℕ → ℕ → Rec → Fields
fields_in Empty s a n r = no_fields
fields_in Place s a n r = record { token = token_of s r; number = 0; parts = no_parts }
fields_in Content s a n r = record { token = token_of s r; number = a; parts = no_parts }
fields_in Count s a n r = record { token = token_of s r; number = n; parts = no_parts }
fields_in Parts s a n r = record { token = token_of s r; number = 0; parts = stored (decimal_of s r) 0 }
fields_in PartsUncertain s a n r = record { token = token_of s r; number = 0; parts = stored (decimal_of s r) (decimal_of s r).uncertainty }

unfoldable pub entry_of : List ℕ → ℕ → ℕ → Rec → Option Entry
entry_of s a n r = whole (kind_of r.kind) (fields_in (shape_of (kind_of r.kind)) s a n r) (suc (body_length r.kind))

-- the entries of records whose contents start at area offset a
unfoldable pub written : List ℕ → ℕ → List Rec → List (Option Entry)
written s a [] = []
written s a (r ∷ rs) = entry_of s a (tags_of rs) r ∷ written s (a + content_size r.kind r.size) rs

-- The kinds that have a shape alone

unfoldable pub Only : Shape → ℕ → Type 0
Only Empty k = k ≡ 7
Only Place k = Unit {0}
Only Content k = Unit {0}
Only Count k = k ≡ 5
Only Parts k = k ≡ 14
Only PartsUncertain k = k ≡ 15

only : (k : Kind) → 1 ≤ number_of k → Only (shape_of k) (number_of k)
unfolding Only shape_of
only NoKind h = absurd (omega arith)
only Block h = tt
only FrameOpen h = tt
only FrameClose h = tt
only Tag h = tt
only Loop h = refl
only LoopTag h = tt
only LoopEnd h = refl
only Inapplicable h = tt
only Unknown h = tt
only Bare h = tt
only SingleQuoted h = tt
only DoubleQuoted h = tt
only Multiline h = tt
only Number h = refl
only Uncertain h = refl
only Quoted h = tt

pub only-kind : (g : Reading) (s : List ℕ) (r : Rec) → Facts g s r → Only (shape_of (kind_of r.kind)) r.kind
only-kind g s r h =
    let q = h.known in
    rw q at (only (kind_of r.kind) (omega (arith, h.low)))

-- One record

module _ (g : Reading) (s : List ℕ) (fits : length s ≤ 16777216) (r : Rec) (h : Facts g s r) where
  token-fits : Fits (token_of s r)
  unfolding token_of place_at
  token-fits =
      record {
        offset = omega (arith, h.within);
        length = omega (arith, h.within);
        line = omega (arith, h.within, line-bound s r.at);
        column = omega (arith, h.within, column-bound s r.at);
      }

  pub bounded : 14 ≤ r.kind → r.kind ≤ 15 → Bounded (decimal_of s r)
  unfolding decimal_of token_text number_in judged
  bounded l u = let w = h.number l u in number-facts g (token_text s r) (decimal_of s r) (rw (w.number, w.kept))

  small : 14 ≤ r.kind → r.kind ≤ 15 → Small (decimal_of s r)
  small l u =
      let b = bounded l u in
      let p : 10 ^ (decimal_of s r).places ≤ 10 ^ 18 = pow-le-pow_right (omega arith) b.places in
      record { integer = omega (arith, b.integer); fraction = omega (arith, b.fraction); uncertainty = omega (arith, b.uncertainty) }

  of-kind : {x : Option Entry} {f : Fields} {n : ℕ} (k : Kind) → kind_of r.kind ≡ k → x ≡ whole k f n → x ≡ whole (kind_of r.kind) f n
  of-kind {f = f} {n = n} k q e = e ∙ ap (λ (k : Kind). whole k f n) (sym q)

  module _ (a n : ℕ) (at : a < 4294967296) (tags : n < 4294967296) (rest : List ℕ) where
    shape-back : (x : Shape) → shape_of (kind_of r.kind) ≡ x → Only x r.kind → entry_at (shaped x s a n r ++ rest) 0 ≡ whole (kind_of r.kind) (fields_in x s a n r) (suc (shape_length x))
    unfolding shaped fields_in Only shape_length end_record kind_of
    shape-back Empty e o = of-kind LoopEnd (ap kind_of o) (end_back (r.kind ∷ rest) rest 0 (ap (λ k. k ∷ rest) o))
    shape-back Place e o = place-back _ rest 0 (token_of s r) token-fits r.kind e refl
    shape-back Content e o = content-back _ rest 0 (token_of s r) token-fits r.kind a at e refl
    shape-back Count e o = of-kind Loop (ap kind_of o) (loop-back _ rest 0 (token_of s r) token-fits n tags refl)
    shape-back Parts e o = of-kind Number (ap kind_of o) (number-back _ rest 0 (token_of s r) token-fits (decimal_of s r) (small (omega arith) (omega arith)) refl)
    shape-back PartsUncertain e o = of-kind Uncertain (ap kind_of o) (uncertain-back _ rest 0 (token_of s r) token-fits (decimal_of s r) (small (omega arith) (omega arith)) refl)

    record-back : entry_at (record_bytes true s a n r ++ rest) 0 ≡ entry_of s a n r
    unfolding record_bytes shape_in entry_of body_length
    record-back = shape-back (shape_of (kind_of r.kind)) refl (only-kind g s r h)

-- All records

-- a record of its length, and what follows
entries-cons : (b rest : List ℕ) (k : Kind) (f : Fields) (n : ℕ) → entry_at (b ++ rest) 0 ≡ whole k f (suc n) → length b ≡ suc n → entries_from (b ++ rest) 0 ≡ whole k f (suc n) ∷ entries_from rest 0
unfolding entries_from onward
entries-cons [] rest k f n e l = absurd (omega arith)
entries-cons (x ∷ b) rest k f n e l =
    let z : suc n - 1 ≡ length b = omega arith in
    rw (e, z) (ap (λ (es : List (Option Entry)). whole k f (suc n) ∷ es) (cover b rest))
  where
    cover : (b rest : List ℕ) → entries_from (b ++ rest) (length b) ≡ entries_from rest 0
    cover [] rest = refl
    cover (x ∷ b) rest = cover b rest

pub shape-length : (x : Shape) (s : List ℕ) (a n : ℕ) (r : Rec) → length (shaped x s a n r) ≡ suc (shape_length x)
unfolding shaped shape_length
shape-length Empty s a n r = refl
shape-length Place s a n r = length-place r.kind (token_of s r)
shape-length Content s a n r = length-content r.kind (token_of s r) a
shape-length Count s a n r = length-loop (token_of s r) n
shape-length Parts s a n r = length-number (token_of s r) (decimal_of s r)
shape-length PartsUncertain s a n r = length-uncertain (token_of s r) (decimal_of s r)

-- a loop has no more tags than there are bytes
tags-few : {g : Reading} {s : List ℕ} {rs : List Rec} → Each (Facts g s) rs → tags_of rs ≤ bytes_of rs
unfolding tags_of bytes_of
tags-few none = omega arith
tags-few (also {r = r} {rs = rs} p h) = by (eqb r.kind 6) refl (tags-few h)
  where
    by : (t : Bool) → eqb r.kind 6 ≡ t → tags_of rs ≤ bytes_of rs → cond t (suc (tags_of rs)) 0 ≤ r.size + bytes_of rs
    by true q l = omega (arith, p.name (eqb-true r.kind 6 q))
    by false q l = omega arith

pub entries-written : (g : Reading) (s : List ℕ) → length s ≤ 16777216 → {rs : List Rec} → Each (Facts g s) rs → (a : ℕ) → a + bytes_of rs ≤ length s → entries_from (store_of true s a rs) 0 ≡ written s a rs
unfolding store_of written entries_from bytes_of entry_of record_bytes shape_in body_length
entries-written g s fits none a l = refl
entries-written g s fits (also {r = r} {rs = rs} p h) a l =
    let b = a + content_size r.kind r.size in
    let x = shape_of (kind_of r.kind) in
    let e = record-back g s fits r p a (tags_of rs) (omega arith) (omega (arith, tags-few h)) (store_of true s b rs) in
    entries-cons (record_bytes true s a (tags_of rs) r) (store_of true s b rs) _ _ (shape_length x) e (shape-length x s a (tags_of rs) r)
    ∙ ap (λ (es : List (Option Entry)). entry_of s a (tags_of rs) r ∷ es) (entries-written g s fits h b (omega (arith, content-small r.kind r.size)))

-- WHAT IS WRITTEN IS READ BACK
pub written_back : (g : Reading) (s : List ℕ) (rs : List Rec) → Outline g s rs → entries (store_of true s 0 rs) ≡ written s 0 rs
unfolding entries
written_back g s rs h = entries-written g s h.fits (each_map (λ r. facts) (sources h.read.taken)) 0 (omega (arith, h.read.spent))
