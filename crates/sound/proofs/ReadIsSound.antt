-- READING IS SOUND (documents 01 and 02), by either reading. Proved: of a text that is read, the store and the area that its records are written as are sound together
-- (records-sound). So what Read writes on success, the first bytes of the lent store and area by the lengths that it answers, is a sound store with its area by the same
-- reading (read-is-sound). Assumes nothing.
use Prim.Native.Nat.{ℕ, ◌+◌, ◌-◌, ◌≤◌}
use mathlib.Core.Bool.{true, cond, ◌&&◌}
use mathlib.Core.Path.{◌≡◌, refl, sym, ap, ◌∙◌}
use mathlib.Core.List.{List, [], ◌++◌, append_assoc, append-nil}
use native.Mathlib.Omega.{arith}
use borrow.Author.Tests.{eq-eqb, le-leb}
use lib.Dec.{eqb}
use lib.ListN.{length, take, drop, length-append}
use lib.Seq.{drop_at, take_at}
use Rattle.rules.specs.declared.Reading.{Reading}
use Rattle.text.specs.Bytes.{is_ascii}
use Rattle.text.specs.Runs.{span}
use Rattle.text.proofs.Bools.{and_l, and_r}
use Rattle.kinds.specs.declared.Shape.{Shape}
use Rattle.kinds.specs.declared.Shape.TheVariants.{Empty, Place, Content as ContentShape, Count, Parts, PartsUncertain}
use Rattle.kinds.specs.Kinds.{kind_of, shape_of, marks_of, is_content, has_content}
use Rattle.entries.specs.Entries.{stored}
use Rattle.grammar.specs.Machine.{Rec, done}
use Rattle.grammar.specs.Reading.{outline}
use Rattle.sizes.specs.Sizes.{content_size}
use Rattle.walking.specs.Writing.{tags_of, store_of, area_of}
use Rattle.desk.specs.Written.{token_of, content_of, decimal_of}
use Rattle.readable.specs.Readable.{keeps_lines, readable}
use Rattle.contents.specs.Contents.{exponent_kept, parts_kept, content_length, own_rule, content_bytes, lies, is_inside, is_readable}
use Rattle.stores.specs.Soundness.{takes, filled_from, filled, sound, follows, kept}
use Rattle.stores.proofs.Filling.{filled-record, filled_none}
use Rattle.written.specs.Results.{store_bytes, area_bytes}
use Rattle.sound.specs.Claims.{IsRead}
use Rattle.written.proofs.Taken.{outline-taken}
use Rattle.written.proofs.Sources.{Each, none, also, sources, Source, facts}
use Rattle.written.proofs.Written.{fields_in, entry_of, written, Only, only-kind, bounded, written_back}
use Rattle.written.proofs.Told.{content-length}
use Rattle.written.proofs.Reading.{reads}
use Rattle.written.proofs.Refusals.{read_done}
use Rattle.sound.proofs.Walks.{nested-written}
use Rattle.sound.proofs.Contents.{Content, content-read, parts-kept}

-- One record is kept: its content starts at area offset a, and it keeps its own rule

module _ (g : Reading) (s : List ℕ) (fits : length s ≤ 16777216) (ascii : length s ≤ span is_ascii s) (fine : keeps_lines g s ≡ true) (r : Rec) (h : Source g s r) (before rest : List ℕ) (a n : ℕ) (at : length before ≡ a) where
  area : List ℕ
  area = before ++ (content_of s r ++ rest)

  content-kept : shape_of (kind_of r.kind) ≡ ContentShape →
      eqb a a && (lies (length area) (kind_of r.kind) (fields_in ContentShape s a n r) && readable g (kind_of r.kind) (content_bytes area (kind_of r.kind) (fields_in ContentShape s a n r))) ≡ true
  unfolding lies content_length content_bytes fields_in token_of area is_content
  content-kept e =
      let k = kind_of r.kind in
      let c : Content g s r = content-read g s r ascii fine h (rw e) in
      let l : length (content_of s r) ≡ r.size - marks_of k = content-length g s r (facts h) ∙ c.size in
      let room : a + (r.size - marks_of k) ≤ length (before ++ (content_of s r ++ rest)) = simp length-append (omega arith) in
      let part : take (r.size - marks_of k) (drop a (before ++ (content_of s r ++ rest))) ≡ content_of s r = rw (drop_at before (content_of s r ++ rest) a at) (take_at (content_of s r) rest (r.size - marks_of k) l) in
      rw (le-leb (marks_of k) r.size c.marked, eq-eqb a a refl, le-leb (a + (r.size - marks_of k)) _ room, part) c.readable

  number-kept : 14 ≤ r.kind → r.kind ≤ 15 → parts_kept (stored (decimal_of s r) 0) && parts_kept (stored (decimal_of s r) (decimal_of s r).uncertainty) ≡ true
  number-kept l u =
      let d = decimal_of s r in
      let b = bounded g s fits r (facts h) l u in
      rw (parts-kept d 0 b (omega arith)) (parts-kept d d.uncertainty b b.uncertainty)

  kept_here : kept g area a (kind_of r.kind) (fields_in (shape_of (kind_of r.kind)) s a n r) ≡ true
  unfolding kept own_rule is_inside is_readable follows is_content fields_in parts_kept exponent_kept Only
  kept_here = by (shape_of (kind_of r.kind)) refl (only-kind g s r (facts h))
    where
      by : (x : Shape) → shape_of (kind_of r.kind) ≡ x → Only x r.kind →
          cond (is_content x) (eqb (fields_in x s a n r).number a) true
          && (cond (is_content x) (lies (length area) (kind_of r.kind) (fields_in x s a n r)) true
          && cond (is_content x) (readable g (kind_of r.kind) (content_bytes area (kind_of r.kind) (fields_in x s a n r))) (parts_kept (fields_in x s a n r).parts))
          ≡ true
      by Empty e o = refl
      by Place e o = refl
      by ContentShape e o = content-kept e
      by Count e o = refl
      by Parts e o = and_l (parts_kept (stored (decimal_of s r) 0)) _ (number-kept (omega arith) (omega arith))
      by PartsUncertain e o = and_r (parts_kept (stored (decimal_of s r) 0)) _ (number-kept (omega arith) (omega arith))

  takes_same : takes (kind_of r.kind) (fields_in (shape_of (kind_of r.kind)) s a n r) ≡ content_size r.kind r.size
  unfolding takes content_size has_content is_content content_length fields_in token_of
  takes_same = by (shape_of (kind_of r.kind))
    where
      by : (x : Shape) → cond (is_content x) (content_length (kind_of r.kind) (fields_in x s a n r)) 0 ≡ cond (is_content x) (r.size - marks_of (kind_of r.kind)) 0
      by Empty = refl
      by Place = refl
      by ContentShape = refl
      by Count = refl
      by Parts = refl
      by PartsUncertain = refl

-- All records

filled-written : (g : Reading) (s : List ℕ) → length s ≤ 16777216 → length s ≤ span is_ascii s → keeps_lines g s ≡ true → {rs : List Rec} → Each (Source g s) rs → (before : List ℕ) (a : ℕ) → length before ≡ a → filled_from g (written s a rs) (before ++ area_of s rs) a ≡ true
unfolding written area_of entry_of area
filled-written g s fits ascii fine none before a e = filled_none g (before ++ []) a ∙ eq-eqb a (length (before ++ [])) (sym (ap length (append-nil before) ∙ e))
filled-written g s fits ascii fine (also {r = r} {rs = rs} p h) before a e =
    let b = a + content_size r.kind r.size in
    let l : length (before ++ content_of s r) ≡ b = simp length-append (omega (arith, content-length g s r (facts p))) in
    rw (filled-record, kept_here g s fits ascii fine r p before (area_of s rs) a (tags_of rs) e, takes_same g s fits ascii fine r p before (area_of s rs) a (tags_of rs) e, ← append_assoc before (content_of s r) (area_of s rs))
    (filled-written g s fits ascii fine h (before ++ content_of s r) b l)

-- THE RECORDS OF A TEXT THAT IS READ, as store and area, are sound
pub records-sound : (g : Reading) (s : List ℕ) (rs : List Rec) → outline g s ≡ done rs → sound g (store_of true s 0 rs) (area_of s rs) ≡ true
unfolding sound filled
records-sound g s rs e =
    let h = outline-taken g s rs e in
    rw (written_back g s rs h, nested-written g s rs h) (filled-written g s h.fits h.ascii h.lines (sources h.read.taken) [] 0 refl)

-- WHAT READ WRITES IS SOUND
pub read-is-sound : (g : Reading) (s store area : List ℕ) → IsRead g s store area → sound g (store_bytes g s store area) (area_bytes g s store area) ≡ true
unfolding IsRead
read-is-sound g s store area e =
    let d = read_done g s (length store) (length area) (omega (arith, e)) in
    let r = reads g s store area d.records d.read d.store d.area in
    rw (r.stored, r.contents) (records-sound g s d.records d.read)
