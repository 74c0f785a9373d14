-- What the write pass asks of a text that is read, and what it writes of one, by its records. Assumes nothing.
use Prim.Native.Nat.{ℕ, ◌≤◌}
use mathlib.Core.Path.{◌≡◌, ap}
use mathlib.Core.Bool.{Bool, true, false, false≢true}
use mathlib.Core.List.{List}
use lib.ListN.{length}
use Rattle.rules.specs.declared.Reading.{Reading}
use Rattle.grammar.specs.Machine.{Rec, done}
use Rattle.grammar.specs.Reading.{decided}
use Rattle.text.specs.Limits.{limit}
use Rattle.sizes.specs.Sizes.{store_size, outline_size, area_size}
use Rattle.walking.specs.Writing.{store_of, area_of, area_in}
use Rattle.desk.specs.Desk.{stored_length}
use Rattle.writing.specs.Block.{answer_recs, is_done, records_of, store_bytes, area_bytes, Fits}

module _ (r : Reading) (s : List ℕ) (rs : List Rec) (e : decided r s ≡ done rs) where
  records-are : records_of r s ≡ rs
  unfolding answer_recs
  records-are = ap answer_recs e

  fits : (full : Bool) (l a : List ℕ) → length s ≤ limit → stored_length full rs ≤ length l → (full ≡ true → area_size rs ≤ length a) → Fits r full s l a
  unfolding is_done
  fits full l a h m k =
      record { short = h; reads = ap is_done e; in_store = rw records-are m; in_area = λ t. rw records-are (k t) }

  -- Read's records fit where store and area are as long as they
  pub read_fits : (l a : List ℕ) → length s ≤ limit → store_size rs ≤ length l → area_size rs ≤ length a → Fits r true s l a
  unfolding stored_length
  read_fits l a h m k = fits true l a h m (λ t. k)

  -- the outline's where the store is
  pub outline-fits : (l a : List ℕ) → length s ≤ limit → outline_size rs ≤ length l → Fits r false s l a
  unfolding stored_length
  outline-fits l a h m = fits false l a h m (λ t. absurd (false≢true t))

  -- the store's bytes are those of the text's records
  pub store-records : (full : Bool) → store_bytes r full s ≡ store_of full s 0 rs
  unfolding store_bytes
  store-records full = ap (store_of full s 0) records-are

  -- the area's are their contents
  pub area-bytes : area_bytes r true s ≡ area_of s rs
  unfolding area_bytes area_in
  area-bytes = ap (area_of s) records-are
