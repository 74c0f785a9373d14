-- The bytes of records in Read and in the outline, and their lengths. Assumes nothing.
use Prim.Native.Nat.{ℕ}
use mathlib.Core.Path.{◌≡◌, ap, ◌∙◌}
use mathlib.Core.Bool.{Bool, true, false}
use mathlib.Core.List.{List}
use lib.ListN.{length}
use Rattle.numbers.specs.declared.Decimal.{Decimal}
use Rattle.records.specs.declared.Token.{Token}
use Rattle.records.specs.Records.{place_record, content_record, loop_record, number_record, uncertain_record}
use Rattle.records.proofs.Forms.{length-place, length-content, length-loop, length-number, length-uncertain}
use Rattle.desk.specs.Written.{content_bytes, loop_bytes, number_bytes}

-- these bytes, of this length
pub record Are (bs cs : List ℕ) (n : ℕ) : Type 0 where
  pub same : bs ≡ cs
  pub size : length bs ≡ n

are : (bs cs : List ℕ) (n : ℕ) → bs ≡ cs → length cs ≡ n → Are bs cs n
are bs cs n e l = record { same = e; size = ap length e ∙ l }

module _ (full : Bool) (k : ℕ) (t : Token) (a : ℕ) where
  pub content-full : full ≡ true → Are (content_bytes full k t a) (content_record k t a) 21
  unfolding content_bytes
  content-full e = are _ _ _ (rw e) (length-content k t a)

  pub content-outline : full ≡ false → Are (content_bytes full k t a) (place_record k t) 17
  unfolding content_bytes
  content-outline e = are _ _ _ (rw e) (length-place k t)

module _ (full : Bool) (t : Token) (n : ℕ) where
  pub loop-full : full ≡ true → Are (loop_bytes full t n) (loop_record t n) 21
  unfolding loop_bytes
  loop-full e = are _ _ _ (rw e) (length-loop t n)

  pub loop-outline : full ≡ false → Are (loop_bytes full t n) (place_record 5 t) 17
  unfolding loop_bytes
  loop-outline e = are _ _ _ (rw e) (length-place 5 t)

module _ (t : Token) (d : Decimal) where
  pub uncertain-bytes : d.uncertain ≡ true → Are (number_bytes t d) (uncertain_record t d) 39
  unfolding number_bytes
  uncertain-bytes u = are _ _ _ (rw u) (length-uncertain t d)

  pub certain-bytes : d.uncertain ≡ false → Are (number_bytes t d) (number_record t d) 35
  unfolding number_bytes
  certain-bytes u = are _ _ _ (rw u) (length-number t d)
