-- What Read answers and leaves behind, case by case. Assumes nothing.
use Prim.Native.Nat.{ℕ, ◌≤◌, ◌<◌}
use mathlib.Core.Path.{◌≡◌, ap, ◌∙◌}
use mathlib.Core.Bool.{true, false}
use mathlib.Core.List.{List}
use native.Mathlib.Omega.{arith}
use borrow.Author.Tests.{lt-ltb, le-ltb}
use lib.Dec.{ltb}
use lib.ListN.{length}
use Rattle.rules.specs.declared.Reading.{Reading}
use Rattle.places.specs.Reports.{success, no_room}
use Rattle.records.specs.Put.{front}
use Rattle.sizes.specs.declared.Sizes.{Sizes}
use Rattle.grammar.specs.Machine.{Rec, done}
use Rattle.grammar.specs.Reading.{outline, decided}
use Rattle.text.specs.Limits.{limit}
use Rattle.sizes.specs.Sizes.{store_size, area_size}
use Rattle.deciding.proofs.Told.{sizes-of, outline-read}
use Rattle.walking.specs.Writing.{store_of, area_of}
use Rattle.writing.specs.Block.{Fits, store_bytes, area_bytes}
use Rattle.writing.proofs.Answers.{read_fits, store-records, area-bytes}
use Rattle.refusals.specs.declared.Refusal.{Refusal}
use Rattle.std.specs.Prelude.{Ok, Err}
use Rattle.reading.specs.declared.ReadError.TheVariants.{Refused, StoreFull, AreaFull}
use Rattle.refusals.specs.Answers.{written_if}
use Rattle.judging.specs.Judging.{IsRead}
use Rattle.reading.specs.Services.{read_room, read_by, read_answer, read_store_by, read_area_by, read_store, read_area, reading_report}
use Rattle.judging.proofs.Judgements.{Refuses}

-- a text that is refused
pub read-refused : (g : Reading) (s l a : List ℕ) (r : Refusal) → Refuses g s r → (reading_report (Err (Refused r)) ≡ read_answer g s (length l) (length a)) × ((l ≡ read_store g s l (length a)) × (a ≡ read_area g s (length l) a))
unfolding reading_report read_answer read_store read_area read_by read_store_by read_area_by
read-refused g s l a r i = (rw i.answer i.report, (rw i.answer, rw i.answer))

-- room, for records whose lengths are m and k
module _ (g : Reading) (s l a : List ℕ) (rs : List Rec) (e : outline g s ≡ done rs) (m k : ℕ) (p : m ≡ store_size rs) (q : k ≡ area_size rs) where
  pub no_store : length l < m → (reading_report (Err (StoreFull (record { store = m; area = k }))) ≡ read_answer g s (length l) (length a)) × ((l ≡ read_store g s l (length a)) × (a ≡ read_area g s (length l) a))
  unfolding reading_report read_answer read_store read_area read_by read_store_by read_area_by read_room written_if no_room
  no_store h =
      let t : ltb (length l) (store_size rs) ≡ true = lt-ltb (length l) (store_size rs) (omega arith) in
      (rw (e, t, p, q), (rw (e, t), rw (e, t)))

  pub no-area : m ≤ length l → length a < k → (reading_report (Err (AreaFull (record { store = m; area = k }))) ≡ read_answer g s (length l) (length a)) × ((l ≡ read_store g s l (length a)) × (a ≡ read_area g s (length l) a))
  unfolding reading_report read_answer read_store read_area read_by read_store_by read_area_by read_room written_if no_room
  no-area h g =
      let t : ltb (length l) (store_size rs) ≡ false = le-ltb (length l) (store_size rs) (omega arith) in
      let u : ltb (length a) (area_size rs) ≡ true = lt-ltb (length a) (area_size rs) (omega arith) in
      (rw (e, t, u, p, q), (rw (e, t, u), rw (e, t, u)))

  pub all_read : (l' a' : List ℕ) → m ≤ length l → k ≤ length a → l' ≡ front (store_of true s 0 rs) l → a' ≡ front (area_of s rs) a
      → (reading_report (Ok (record { store = m; area = k })) ≡ read_answer g s (length l) (length a)) × ((l' ≡ read_store g s l (length a)) × (a' ≡ read_area g s (length l) a))
  unfolding reading_report read_answer read_store read_area read_by read_store_by read_area_by read_room written_if success
  all_read l' a' h g v w =
      let t : ltb (length l) (store_size rs) ≡ false = le-ltb (length l) (store_size rs) (omega arith) in
      let u : ltb (length a) (area_size rs) ≡ false = le-ltb (length a) (area_size rs) (omega arith) in
      (rw (e, t, u, p, q), (rw (e, t, u) v, rw (e, t, u) w))

-- the lengths that a read text needs
pub need-store : (g : Reading) (s : List ℕ) (z : Sizes) (i : IsRead g s z) → z.store ≡ store_size i.records
need-store g s z i = ap (λ (x : Sizes). x.store) (i.sizes ∙ sizes-of i.records)

pub need-area : (g : Reading) (s : List ℕ) (z : Sizes) (i : IsRead g s z) → z.area ≡ area_size i.records
need-area g s z i = ap (λ (x : Sizes). x.area) (i.sizes ∙ sizes-of i.records)

-- what the write pass asks, and what it leaves behind, where there is room for the records
module _ (g : Reading) (s : List ℕ) (z : Sizes) (i : IsRead g s z) where
  abbrev text : (length s ≤ limit) × (decided g s ≡ done i.records)
  text = outline-read g s i.records i.answer

  pub read-asks : (l a : List ℕ) → z.store ≤ length l → z.area ≤ length a → Fits g true s l a
  read-asks l a h k = read_fits g s i.records text.1 l a text.0 (omega (arith, need-store g s z i)) (omega (arith, need-area g s z i))

  pub stored : (l m : List ℕ) → m ≡ front (store_bytes g true s) l → m ≡ front (store_of true s 0 i.records) l
  stored l m e = e ∙ ap (λ (x : List ℕ). front x l) (store-records g s i.records text.1 true)

  pub copied : (l m : List ℕ) → m ≡ front (area_bytes g true s) l → m ≡ front (area_of s i.records) l
  copied l m e = e ∙ ap (λ (x : List ℕ). front x l) (area-bytes g s i.records text.1)
