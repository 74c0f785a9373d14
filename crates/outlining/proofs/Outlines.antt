-- What Outline answers and leaves behind, case by case. Assumes nothing.
use Prim.Native.Nat.{ℕ, ◌≤◌, ◌<◌}
use mathlib.Core.Path.{◌≡◌, ap, ◌∙◌}
use mathlib.Core.Bool.{true, false}
use mathlib.Core.List.{List}
use native.Mathlib.Omega.{arith}
use borrow.Author.Tests.{lt-ltb, le-ltb}
use lib.Dec.{ltb}
use lib.ListN.{length}
use Rattle.rules.specs.declared.Reading.{Reading}
use Rattle.places.specs.Reports.{success, no_room}
use Rattle.records.specs.Put.{front}
use Rattle.sizes.specs.declared.Sizes.{Sizes}
use Rattle.grammar.specs.Machine.{Rec, done}
use Rattle.grammar.specs.Reading.{outline, decided}
use Rattle.text.specs.Limits.{limit}
use Rattle.sizes.specs.Sizes.{outline_size}
use Rattle.deciding.proofs.Told.{sizes-of, outline-read}
use Rattle.walking.specs.Writing.{store_of}
use Rattle.writing.specs.Block.{Fits, store_bytes}
use Rattle.writing.proofs.Answers.{outline-fits, store-records}
use Rattle.refusals.specs.declared.Refusal.{Refusal}
use Rattle.std.specs.Prelude.{Ok, Err}
use Rattle.outlining.specs.declared.OutlineError.TheVariants.{Refused, NoRoom}
use Rattle.refusals.specs.Answers.{written_if}
use Rattle.judging.specs.Judging.{IsRead}
use Rattle.outlining.specs.Outlining.{outline_room, outline_by, outline_answer, outline_store_by, outline_store, outlined_report}
use Rattle.judging.proofs.Judgements.{Refuses}

-- a text that is refused
pub outline-refused : (g : Reading) (s l : List ℕ) (r : Refusal) → Refuses g s r → (outlined_report (Err (Refused r)) ≡ outline_answer g s (length l)) × (l ≡ outline_store g s l)
unfolding outlined_report outline_answer outline_store outline_by outline_store_by
outline-refused g s l r i = (rw i.answer i.report, rw i.answer)

-- room, for records whose length is m
module _ (g : Reading) (s l : List ℕ) (rs : List Rec) (e : outline g s ≡ done rs) (m : ℕ) (p : m ≡ outline_size rs) where
  pub no-outline : length l < m → (outlined_report (Err (NoRoom m)) ≡ outline_answer g s (length l)) × (l ≡ outline_store g s l)
  unfolding outlined_report outline_answer outline_store outline_by outline_store_by outline_room written_if no_room
  no-outline h =
      let t : ltb (length l) (outline_size rs) ≡ true = lt-ltb (length l) (outline_size rs) (omega arith) in
      (rw (e, t, p), rw (e, t))

  pub all-outlined : (l' : List ℕ) → m ≤ length l → l' ≡ front (store_of false s 0 rs) l → (outlined_report (Ok m) ≡ outline_answer g s (length l)) × (l' ≡ outline_store g s l)
  unfolding outlined_report outline_answer outline_store outline_by outline_store_by outline_room written_if success
  all-outlined l' h v =
      let t : ltb (length l) (outline_size rs) ≡ false = le-ltb (length l) (outline_size rs) (omega arith) in
      (rw (e, t, p), rw (e, t) v)

-- the length that a read text needs
pub need-outline : (g : Reading) (s : List ℕ) (z : Sizes) (i : IsRead g s z) → z.outline ≡ outline_size i.records
need-outline g s z i = ap (λ (x : Sizes). x.outline) (i.sizes ∙ sizes-of i.records)

-- what the write pass asks, and what it leaves behind, where there is room for the records
module _ (g : Reading) (s : List ℕ) (z : Sizes) (i : IsRead g s z) where
  abbrev text : (length s ≤ limit) × (decided g s ≡ done i.records)
  text = outline-read g s i.records i.answer

  pub outline-asks : (l a : List ℕ) → z.outline ≤ length l → Fits g false s l a
  outline-asks l a h = outline-fits g s i.records text.1 l a text.0 (omega (arith, need-outline g s z i))

  pub stored : (l m : List ℕ) → m ≡ front (store_bytes g false s) l → m ≡ front (store_of false s 0 i.records) l
  stored l m e = e ∙ ap (λ (x : List ℕ). front x l) (store-records g s i.records text.1 false)
