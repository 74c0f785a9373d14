-- The service Outline shows neither digits nor contents. Proved: for two texts where digits alone differ, whichever
-- reading is named (digits-unseen), or where contents of a text that the first reading reads differ too
-- (contents-unseen), it answers the same and leaves the same bytes in any lent store. Assumes nothing.
use Prim.Native.Nat.{ℕ, ◌+◌}
use mathlib.Core.Bool.{Bool, true, false, cond}
use mathlib.Core.Path.{◌≡◌, refl, sym, ap, ap₂, ◌∙◌}
use mathlib.Core.List.{List, [], ◌∷◌, ◌++◌}
use lib.ListN.{length}
use Rattle.rules.specs.declared.Reading.{Reading}
use Rattle.rules.specs.declared.Reading.TheVariants.{First}
use Rattle.places.specs.Places.{place_at}
use Rattle.kinds.specs.declared.Shape.{Shape}
use Rattle.kinds.specs.declared.Shape.TheVariants.{Empty, Place, Content, Count, Parts, PartsUncertain}
use Rattle.kinds.specs.Kinds.{kind_of, shape_of, outline_shape}
use Rattle.grammar.specs.Machine.{Rec, Answer, refused, done}
use Rattle.sizes.specs.Sizes.{content_size}
use Rattle.grammar.specs.Reading.{outline}
use Rattle.desk.specs.Written.{token_of, shaped, shape_in, record_bytes}
use Rattle.walking.specs.Writing.{tags_of, store_of}
use Rattle.refusals.specs.Answers.{refusal}
use Rattle.outlining.specs.Outlining.{outline_by, outline_answer, outline_store_by, outline_store}
use Rattle.hidden.specs.Differences.{inside_recs, DigitsDiffer, ContentsDiffer}
use Rattle.hidden.proofs.Demand3.{digits-hidden, contents-hidden, places-stay}

-- what the service gives for s and for t, by the reading
pub record Same (r : Reading) (s t store : List ℕ) : Type 0 where
  pub answers : outline_answer r s (length store) ≡ outline_answer r t (length store)
  pub stores : outline_store r s store ≡ outline_store r t store

module _ (s t : List ℕ) (places : (n : ℕ) → place_at s n ≡ place_at t n) where
  record_same : (x : Shape) (a n : ℕ) (r : Rec) → shaped (outline_shape x) s a n r ≡ shaped (outline_shape x) t a n r
  unfolding shaped outline_shape token_of
  record_same Empty a n r = refl
  record_same Place a n r = rw (places r.at)
  record_same Content a n r = rw (places r.at)
  record_same Count a n r = rw (places r.at)
  record_same Parts a n r = rw (places r.at)
  record_same PartsUncertain a n r = rw (places r.at)

  store_same : (a : ℕ) (rs : List Rec) → store_of false s a rs ≡ store_of false t a rs
  unfolding store_of record_bytes shape_in
  store_same a [] = refl
  store_same a (r ∷ rs) =
      ap₂ {C = List ℕ} ◌++◌ (record_same (shape_of (kind_of r.kind)) a (tags_of rs) r) (store_same (a + content_size r.kind r.size) rs)

  answer-by : (m : ℕ) (x : Answer) → outline_by s m x ≡ outline_by t m x
  unfolding outline_by refusal
  answer-by m (refused n o d) = rw (places o)
  answer-by m (done rs) = refl

  store_by : (l : List ℕ) (x : Answer) → outline_store_by s l x ≡ outline_store_by t l x
  unfolding outline_store_by
  store_by l (refused n o d) = refl
  store_by l (done rs) = rw (store_same 0 rs)

  same_of : (r : Reading) (l : List ℕ) → outline r s ≡ outline r t → Same r s t l
  unfolding outline_answer outline_store
  same_of r l e =
      record {
        answers = answer-by (length l) (outline r s) ∙ ap (outline_by t (length l)) e;
        stores = store_by l (outline r s) ∙ ap (outline_store_by t l) e;
      }

pub digits-unseen : (r : Reading) (s t store : List ℕ) → DigitsDiffer s t → Same r s t store
unfolding DigitsDiffer
digits-unseen r s t store d = same_of s t (places-stay (λ j. ⊥) s t d) r store (digits-hidden r s t d)

pub contents-unseen : (s t store : List ℕ) (rs : List Rec) → outline First s ≡ done rs → ContentsDiffer rs s t → Same First s t store
unfolding ContentsDiffer
contents-unseen s t store rs e d =
    same_of s t (places-stay (λ j. inside_recs rs j ≡ true) s t d) First store (e ∙ sym (contents-hidden s t rs e d))
