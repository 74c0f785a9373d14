-- One record written: what the code's steps come to. Assumes nothing.
use Prim.Native.Nat.{ℕ, zero, suc, ◌+◌, ◌-◌, ◌≤◌, ◌<◌}
use mathlib.Core.Path.{◌≡◌, refl, sym, ap, ◌∙◌}
use mathlib.Core.Bool.{Bool, true, false, cond}
use mathlib.Core.List.{List, [], ◌∷◌}
use native.Mathlib.Omega.{arith}
use lib.ListN.{length, take, drop}
use Rattle.places.specs.declared.Place.{Place}
use Rattle.places.specs.Places.{place_at, IsPlace}
use Rattle.places.proofs.Places.{place-offset, place-line, place-column}
use Rattle.numbers.specs.declared.Decimal.{Decimal}
use Rattle.records.specs.declared.Token.{Token}
use Rattle.kinds.specs.declared.Kind.{Kind}
use Rattle.kinds.specs.declared.Shape.TheVariants.{Empty, Place as PlaceAlone, Content, Count, Parts, PartsUncertain}
use Rattle.kinds.specs.Kinds.{kind_of, shape_of, shape_length, outline_shape, marks_of, opening, is_content, has_content, body_length, outline_length}
use Rattle.records.specs.Put.{put}
use Rattle.records.specs.Records.{end_record, place_record}
use Rattle.records.proofs.Forms.{end-kind}
use Rattle.sizes.specs.Sizes.{content_size, store_size, outline_size, area_size}
use Rattle.grammar.specs.Machine.{Rec, loop_end}
use Rattle.desk.specs.declared.Cursor.{Cursor}
use Rattle.desk.specs.Written.{token_at, token_of, content_bytes, loop_bytes, number_bytes, content_of, decimal_of, shape_in, shaped, record_bytes}
use Rattle.desk.specs.Desk.{stored_length, shaped_length, record_length, Desk, desk, Going, IsToken, rec_at, Marked, WroteOne}
use Rattle.desk.proofs.Bytes.{shape-told, record-length, store-none, content-length, content-inside}
use Rattle.desk.proofs.Places.{behind-place}
use Rattle.desk.proofs.Copy.{put-none}

-- P of the token at a place
pub token-of : (s : List ℕ) (p : Place) (k n : ℕ) → IsPlace s p → token_at p n ≡ token_of s (rec_at k p.offset n)
unfolding token_at token_of
token-of s p k n i =
    let l : p.line ≡ (place_at s p.offset).line = ap (λ (x : Place). x.line) i.at in
    let c : p.column ≡ (place_at s p.offset).column = ap (λ (x : Place). x.column) i.at in
    rw (l, c)

-- line, column and offset are small
pub place-small : (s : List ℕ) (p : Place) (n : ℕ) → IsPlace s p → length s ≤ 16777216 → n ≤ length s → (p.offset < 4294967296) × (n < 4294967296) × (p.line < 4294967296) × (p.column < 4294967296)
place-small s p n i h l =
    (omega (arith, i.within), omega arith, omega (arith, i.within, place-line s p i.at), omega (arith, i.within, place-column s p i.at))

-- the bytes of a record by its shape
module _ (full : Bool) (s : List ℕ) (a n : ℕ) (r : Rec) where
  pub content-bytes : shape_of (kind_of r.kind) ≡ Content → record_bytes full s a n r ≡ content_bytes full r.kind (token_of s r) a
  unfolding record_bytes shape_in shaped content_bytes outline_shape
  content-bytes e = by full
    where
      by : (t : Bool) → record_bytes t s a n r ≡ content_bytes t r.kind (token_of s r) a
      by true = rw e
      by false = rw e

  pub place-bytes : shape_of (kind_of r.kind) ≡ PlaceAlone → record_bytes full s a n r ≡ place_record r.kind (token_of s r)
  unfolding record_bytes shape_in shaped outline_shape
  place-bytes e = by full
    where
      by : (t : Bool) → record_bytes t s a n r ≡ place_record r.kind (token_of s r)
      by true = rw e
      by false = rw e

pub loop-bytes : (full : Bool) (s : List ℕ) (a n o m : ℕ) → record_bytes full s a n (rec_at 5 o m) ≡ loop_bytes full (token_of s (rec_at 5 o m)) n
unfolding record_bytes shape_in shaped loop_bytes kind_of shape_of outline_shape
loop-bytes true s a n o m = refl
loop-bytes false s a n o m = refl

shape-number : shape_of (kind_of 14) ≡ Parts
unfolding kind_of shape_of
shape-number = refl

shape-uncertain : shape_of (kind_of 15) ≡ PartsUncertain
unfolding kind_of shape_of
shape-uncertain = refl

-- a number's record, without and with uncertainty
pub number-length : (full : Bool) (k : ℕ) → k ≡ 14 → shaped_length full Parts ≡ record_length full k
number-length full k e = shape-told full k Parts (rw e shape-number)

pub uncertain-length : (full : Bool) (k : ℕ) → k ≡ 15 → shaped_length full PartsUncertain ≡ record_length full k
uncertain-length full k e = shape-told full k PartsUncertain (rw e shape-uncertain)

-- a number's kind says whether it has an uncertainty
pub number-bytes : (s : List ℕ) (a n o m k : ℕ) → k ≡ cond (decimal_of s (rec_at k o m)).uncertain 15 14
    → record_bytes true s a n (rec_at k o m) ≡ number_bytes (token_of s (rec_at k o m)) (decimal_of s (rec_at k o m))
unfolding record_bytes shape_in shaped number_bytes
number-bytes s a n o m k e = by (decimal_of s (rec_at k o m)).uncertain refl e
  where
    by : (u : Bool) → (decimal_of s (rec_at k o m)).uncertain ≡ u → k ≡ cond u 15 14 → record_bytes true s a n (rec_at k o m) ≡ number_bytes (token_of s (rec_at k o m)) (decimal_of s (rec_at k o m))
    by true h e = let z : shape_of (kind_of k) ≡ PartsUncertain = rw e shape-uncertain in rw (z, h)
    by false h e = let z : shape_of (kind_of k) ≡ Parts = rw e shape-number in rw (z, h)

-- in the outline it is its place
pub number-place : (s : List ℕ) (a n o m k : ℕ) → 14 ≤ k → k ≤ 15 → record_bytes false s a n (rec_at k o m) ≡ place_record k (token_of s (rec_at k o m))
unfolding record_bytes shape_in shaped kind_of shape_of outline_shape
number-place s a n o m k l h = by (k - 14) (omega arith)
  where
    by : (j : ℕ) → k ≡ 14 + j → record_bytes false s a n (rec_at k o m) ≡ place_record k (token_of s (rec_at k o m))
    by zero e = rw e
    by (suc zero) e = rw e
    by (suc (suc j)) e = absurd (omega arith)

-- a record's length by its bytes
pub one-length : (full : Bool) (s : List ℕ) (a n : ℕ) (r : Rec) → length (record_bytes full s a n r) ≡ stored_length full (r ∷ [])
one-length full s a n r = omega (arith, record-length full s a n r [], store-none full)

pub kind-length : (full : Bool) (r : Rec) → record_length full r.kind ≡ stored_length full (r ∷ [])
unfolding record_length shaped_length stored_length store_size outline_size body_length outline_length
kind-length true r = omega arith
kind-length false r = omega arith

-- THE STEP: the code wrote these bytes, copied the content, and moved the cursor
pub one-wrote : (full : Bool) (s : List ℕ) (k n tags : ℕ) (d e : Desk) → Going s d.cursor → IsToken s k d.cursor.place.offset n
    → e.cursor.place ≡ place_at s (d.cursor.place.offset + n) → e.cursor.at ≡ d.cursor.at + record_length full k → e.cursor.area ≡ d.cursor.area + content_size k n
    → e.store ≡ put d.cursor.at (record_bytes full s d.cursor.area tags (rec_at k d.cursor.place.offset n)) d.store
    → e.area ≡ put d.cursor.area (cond full (content_of s (rec_at k d.cursor.place.offset n)) []) d.area
    → WroteOne full s tags (rec_at k d.cursor.place.offset n) (d.cursor.place.offset + n) d e
one-wrote full s k n tags d e g t p a b l m =
    let o = d.cursor.place.offset in
    record {
      going =
          record {
            place = behind-place s d.cursor.place e.cursor.place k n g.place t p;
            short = g.short;
            behind = omega (arith, place-offset s e.cursor.place (o + n) p, content-inside k n, g.behind);
          };
      place = p;
      at = a ∙ ap (λ x. d.cursor.at + x) (kind-length full (rec_at k o n));
      behind = b;
      filled = content-length s (rec_at k o n) t.within;
      store = l;
      area = m;
    }

-- a kind whose body has no area offset has no content
pub no-content : (k n : ℕ) → is_content (shape_of (kind_of k)) ≡ false → content_size k n ≡ 0
unfolding content_size has_content
no-content k n e = rw e

pub has-content : (k n : ℕ) → shape_of (kind_of k) ≡ Content → content_size k n ≡ n - marks_of (kind_of k)
unfolding content_size has_content is_content
has-content k n e = rw e

-- so the area is as it was
pub plain-wrote : (full : Bool) (s : List ℕ) (k n tags : ℕ) (c e : Cursor) (l m a : List ℕ) → content_size k n ≡ 0 → Going s c → IsToken s k c.place.offset n
    → e.place ≡ place_at s (c.place.offset + n) → e.at ≡ c.at + record_length full k → e.area ≡ c.area
    → m ≡ put c.at (record_bytes full s c.area tags (rec_at k c.place.offset n)) l
    → WroteOne full s tags (rec_at k c.place.offset n) (c.place.offset + n) (desk c l a) (desk e m a)
plain-wrote full s k n tags c e l m a z g t p q b h =
    one-wrote full s k n tags (desk c l a) (desk e m a) g t p q (omega arith) h (sym (none full))
  where
    none : (f : Bool) → put c.area (cond f (content_of s (rec_at k c.place.offset n)) []) a ≡ a
    none true = unfold content_of in rw z (put-none c.area a)
    none false = put-none c.area a

-- the record of a place alone takes 17 bytes
pub mark-size : (full : Bool) (k o n : ℕ) → shape_of (kind_of k) ≡ PlaceAlone → stored_length full (rec_at k o n ∷ []) ≡ 17
unfolding stored_length store_size outline_size body_length outline_length shape_length outline_shape
mark-size true k o n e = rw e
mark-size false k o n e = rw e

-- and its bytes are these
pub mark-bytes : (full : Bool) (s : List ℕ) (p : Place) (k n a tags : ℕ) → IsPlace s p → shape_of (kind_of k) ≡ PlaceAlone → place_record k (token_at p n) ≡ record_bytes full s a tags (rec_at k p.offset n)
mark-bytes full s p k n a tags i e = rw (token-of s p k n i) (sym (place-bytes full s a tags (rec_at k p.offset n) e) ∙ refl)

-- a number's bytes from what the code has at hand
pub number_read : (s : List ℕ) (p : Place) (n a tags k : ℕ) (t : Token) (d : Decimal) → IsPlace s p → k ≡ cond (decimal_of s (rec_at k p.offset n)).uncertain 15 14
    → t ≡ token_at p n → d ≡ decimal_of s (rec_at k p.offset n) → number_bytes t d ≡ record_bytes true s a tags (rec_at k p.offset n)
number_read s p n a tags k t d i e x y = rw (x, y, token-of s p k n i) (sym (number-bytes s a tags p.offset n k e))

pub number-outlined : (s : List ℕ) (p : Place) (n a tags k : ℕ) (t : Token) → IsPlace s p → 14 ≤ k → k ≤ 15 → t ≡ token_at p n → place_record k t ≡ record_bytes false s a tags (rec_at k p.offset n)
number-outlined s p n a tags k t i l h x = rw (x, token-of s p k n i) (sym (number-place s a tags p.offset n k l h))

pub number-plain : (k n : ℕ) → 14 ≤ k → k ≤ 15 → content_size k n ≡ 0
unfolding kind_of shape_of is_content
number-plain k n l h = by (k - 14) (omega arith)
  where
    by : (j : ℕ) → k ≡ 14 + j → content_size k n ≡ 0
    by zero e = rw e (no-content 14 n refl)
    by (suc zero) e = rw e (no-content 15 n refl)
    by (suc (suc j)) e = absurd (omega arith)

pub loop-here : (full : Bool) (s : List ℕ) (p : Place) (n a tags : ℕ) → IsPlace s p → loop_bytes full (token_at p n) tags ≡ record_bytes full s a tags (rec_at 5 p.offset n)
loop-here full s p n a tags i = rw (token-of s p 5 n i) (sym (loop-bytes full s a tags p.offset n))

pub loop-length : (full : Bool) → shaped_length full Count ≡ record_length full 5
unfolding kind_of shape_of
loop-length full = shape-told full 5 Count refl

pub loop-plain : (n : ℕ) → content_size 5 n ≡ 0
unfolding kind_of shape_of is_content
loop-plain n = no-content 5 n refl

pub text-here : (full : Bool) (s : List ℕ) (p : Place) (k n a tags : ℕ) → IsPlace s p → shape_of (kind_of k) ≡ Content → content_bytes full k (token_at p n) a ≡ record_bytes full s a tags (rec_at k p.offset n)
text-here full s p k n a tags i e = rw (token-of s p k n i) (sym (content-bytes full s a tags (rec_at k p.offset n) e))

-- a loop's end: one byte, and the cursor stays where it is
pub end-size : (full : Bool) → stored_length full (loop_end ∷ []) ≡ 1
unfolding stored_length store_size outline_size body_length outline_length loop_end kind_of shape_of shape_length outline_shape
end-size true = refl
end-size false = refl

end-bytes : (full : Bool) (s : List ℕ) (a n : ℕ) → record_bytes full s a n loop_end ≡ end_record
unfolding record_bytes shape_in shaped loop_end kind_of shape_of outline_shape
end-bytes true s a n = sym end-kind
end-bytes false s a n = sym end-kind

pub end-length : (full : Bool) → shaped_length full Empty ≡ stored_length full (loop_end ∷ [])
unfolding loop_end kind_of shape_of
end-length full = shape-told full 7 Empty refl ∙ kind-length full loop_end

pub end-wrote : (full : Bool) (s : List ℕ) (c e : Cursor) (l m a : List ℕ) → Going s c → e.place ≡ c.place → e.at ≡ c.at + shaped_length full Empty → e.area ≡ c.area
    → m ≡ put c.at end_record l → WroteOne full s 0 loop_end c.place.offset (desk c l a) (desk e m a)
unfolding loop_end content_of
end-wrote full s c e l m a g p q b h =
    record {
      going = record { place = rw p g.place; short = g.short; behind = rw (p, b) g.behind };
      place = p ∙ g.place.at;
      at = q ∙ ap (λ x. c.at + x) (end-length full);
      behind = b ∙ omega (arith, z);
      filled = rw z;
      store = h ∙ ap (λ x. put c.at x l) (sym (end-bytes full s c.area 0));
      area = sym (none full);
    }
  where
    z : content_size 7 0 ≡ 0
    z = unfold kind_of shape_of is_content in no-content 7 0 refl

    none : (f : Bool) → put c.area (cond f (content_of s loop_end) []) a ≡ a
    none true = rw z (put-none c.area a)
    none false = put-none c.area a

-- the content of a token that has one
pub text-room : (s : List ℕ) (k o n : ℕ) → IsToken s k o n → opening (kind_of k) ≤ marks_of (kind_of k) → o + opening (kind_of k) + (n - marks_of (kind_of k)) ≤ length s
text-room s k o n t h = omega (arith, t.within, t.marks)

pub text-content : (s : List ℕ) (k o n : ℕ) → shape_of (kind_of k) ≡ Content → take (n - marks_of (kind_of k)) (drop (o + opening (kind_of k)) s) ≡ content_of s (rec_at k o n)
unfolding content_of
text-content s k o n e = rw (has-content k n e)

pub text-size : (k o n : ℕ) → shape_of (kind_of k) ≡ Content → area_size (rec_at k o n ∷ []) ≡ n - marks_of (kind_of k)
unfolding area_size
text-size k o n e = omega (arith, has-content k n e)

-- the marks of a kind that is known: of headings, of tags
pub block-marked : Marked 1 5 5
unfolding kind_of marks_of opening
block-marked = record { all = refl; first = refl }

pub frame-marked : Marked 2 5 5
unfolding kind_of marks_of opening
frame-marked = record { all = refl; first = refl }

pub tag-marked : Marked 4 1 1
unfolding kind_of marks_of opening
tag-marked = record { all = refl; first = refl }

pub loop-tag-marked : Marked 6 1 1
unfolding kind_of marks_of opening
loop-tag-marked = record { all = refl; first = refl }

-- and of one that is asked for them
pub kind-marked : (k m o : ℕ) (q : Kind) → q ≡ kind_of k → m ≡ marks_of q → o ≡ opening q → Marked k m o
kind-marked k m o q e x y = record { all = x ∙ ap marks_of e; first = y ∙ ap opening e }
