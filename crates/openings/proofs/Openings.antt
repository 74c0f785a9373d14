-- What opens an item, a frame or a block, by the tests in the code's order: the bytes, then the space before. Assumes nothing.
use Prim.Native.Nat.{ℕ, ◌-◌, ◌≤◌, ◌<◌}
use mathlib.Core.Path.{◌≡◌, refl, sym, ◌∙◌}
use mathlib.Core.Bool.{Bool, true, false, cond, ◌&&◌, false≢true}
use mathlib.Core.List.{List, [], ◌∷◌}
use native.Mathlib.Omega.{arith}
use lib.Dec.{eqb}
use lib.ListN.{length, drop, get_or, drop_of_length-le}
use lib.Seq.{drop-cons}
use borrow.Author.Tests.{ne_eqb}
use Rattle.rules.specs.declared.Reading.{Reading}
use Rattle.text.specs.Bytes.{is}
use Rattle.columns.specs.Before.{byte_before, is_parted}
use Rattle.keywords.specs.Keywords.{starts_at, stands, key_loop, key_save, key_data}
use Rattle.keywords.proofs.Keywords.{loop-word}
use Rattle.keywords.proofs.Starts.{starts-at, stands-starts, data-in-word, save-in-word}
use Rattle.words.specs.Words.{word, end_of_word}
use Rattle.words.specs.Names.{fits_tag}
use Rattle.words.proofs.Words.{word_end}
use Rattle.text.proofs.Bools.{and_l, and_r}
use Rattle.grammar.specs.Tokens.{tag_first, tag_at, loop_at, save_at, close_at, data_at}
use Rattle.grammar.proofs.Fits.{tag_word}
use Rattle.openings.specs.Openings.{name_end}

-- the second test alone
without : (a b : Bool) → b ≡ false → false ≡ (a && b)
without true b e = sym e
without false b e = refl

with_it : (a b : Bool) → b ≡ true → a ≡ (a && b)
with_it true b e = sym e
with_it false b e = refl

module _ (r : Reading) (s : List ℕ) (o : ℕ) where
  pub tag-past : length s ≤ o → false ≡ tag_at r s o
  unfolding tag_at tag_first
  tag-past h = without (is_parted r (byte_before s o)) _ (rw (drop_of_length-le s h))

  tag-byte : o < length s → tag_first (drop o s) ≡ eqb (get_or s o 0) 95
  unfolding tag_first is
  tag-byte h = rw (drop-cons s o 0)

  pub tag-not : o < length s → (get_or s o 0 ≡ 95 → ⊥) → false ≡ tag_at r s o
  unfolding tag_at
  tag-not h n = without (is_parted r (byte_before s o)) _ (tag-byte h ∙ ne_eqb _ _ n)

  pub tag-here : o < length s → get_or s o 0 ≡ 95 → is_parted r (byte_before s o) ≡ tag_at r s o
  unfolding tag_at
  tag-here h e = with_it (is_parted r (byte_before s o)) _ (tag-byte h ∙ rw e)

  pub loop-not : stands r key_loop (drop o s) ≡ false → false ≡ loop_at r s o
  unfolding loop_at
  loop-not e = without (is_parted r (byte_before s o)) _ e

  pub loop-here : stands r key_loop (drop o s) ≡ true → is_parted r (byte_before s o) ≡ loop_at r s o
  unfolding loop_at
  loop-here e = with_it (is_parted r (byte_before s o)) _ e

  pub save-not : starts_at key_save s o ≡ false → false ≡ save_at r s o
  unfolding save_at
  save-not e = without (is_parted r (byte_before s o)) _ (sym (starts-at key_save s o) ∙ e)

  pub save-here : starts_at key_save s o ≡ true → is_parted r (byte_before s o) ≡ save_at r s o
  unfolding save_at
  save-here e = with_it (is_parted r (byte_before s o)) _ (sym (starts-at key_save s o) ∙ e)

  pub close-not : stands r key_save (drop o s) ≡ false → false ≡ close_at r s o
  unfolding close_at
  close-not e = without (is_parted r (byte_before s o)) _ e

  pub close-here : stands r key_save (drop o s) ≡ true → is_parted r (byte_before s o) ≡ close_at r s o
  unfolding close_at
  close-here e = with_it (is_parted r (byte_before s o)) _ e

  pub data-not : starts_at key_data s o ≡ false → false ≡ data_at r s o
  unfolding data_at
  data-not e = without (is_parted r (byte_before s o)) _ (sym (starts-at key_data s o) ∙ e)

  pub data-here : starts_at key_data s o ≡ true → is_parted r (byte_before s o) ≡ data_at r s o
  unfolding data_at
  data-here e = with_it (is_parted r (byte_before s o)) _ (sym (starts-at key_data s o) ∙ e)

  -- a keyword that stands lies in its word
  pub loop-bytes : loop_at r s o ≡ true → 5 ≤ word (drop o s)
  unfolding loop_at
  loop-bytes e = loop-word s o (starts-at key_loop s o ∙ stands-starts r key_loop (drop o s) (and_r (is_parted r (byte_before s o)) _ e))

  pub save-bytes : save_at r s o ≡ true → 5 ≤ word (drop o s)
  unfolding save_at
  save-bytes e = save-in-word (drop o s) (and_r (is_parted r (byte_before s o)) _ e)

  pub close-bytes : close_at r s o ≡ true → 5 ≤ word (drop o s)
  unfolding close_at
  close-bytes e = save-in-word (drop o s) (stands-starts r key_save (drop o s) (and_r (is_parted r (byte_before s o)) _ e))

  pub data-bytes : data_at r s o ≡ true → 5 ≤ word (drop o s)
  unfolding data_at
  data-bytes e = data-in-word (drop o s) (and_r (is_parted r (byte_before s o)) _ e)

  -- a tag has bytes
  tag-bytes : (u : List ℕ) → tag_first u ≡ true → 0 < word u
  unfolding tag_first
  tag-bytes [] e = absurd (false≢true e)
  tag-bytes (b ∷ u) e = tag_word b u e

  pub tag-onward : tag_at r s o ≡ true → o < end_of_word s o
  unfolding tag_at
  tag-onward e = rw (word_end s o) (omega (arith, tag-bytes (drop o s) (and_r (is_parted r (byte_before s o)) _ e)))

  -- where a tag may stand, and where none may
  pub name-fits : tag_at r s o ≡ true → fits_tag r (end_of_word s o - o) ≡ true → end_of_word s o ≡ name_end r s o
  unfolding name_end
  name-fits e f = rw (e, f)

  pub name-not : tag_at r s o ≡ false → o ≡ name_end r s o
  unfolding name_end
  name-not e = rw e

  pub name-over : fits_tag r (end_of_word s o - o) ≡ false → o ≡ name_end r s o
  unfolding name_end
  name-over f = by (tag_at r s o)
    where
      by : (t : Bool) → o ≡ cond (t && fits_tag r (end_of_word s o - o)) (end_of_word s o) o
      by true = rw f
      by false = refl

  -- a tag that ends behind the offset may stand, one that does not may not
  pub record Named : Type 0 where
    pub tagged : tag_at r s o ≡ true
    pub fits : fits_tag r (end_of_word s o - o) ≡ true
    pub ends : name_end r s o ≡ end_of_word s o

  pub named : o < name_end r s o → Named
  unfolding name_end
  named h = by (tag_at r s o && fits_tag r (end_of_word s o - o)) refl h
    where
      by : (t : Bool) → (tag_at r s o && fits_tag r (end_of_word s o - o)) ≡ t → o < cond t (end_of_word s o) o → Named
      by true e h = record { tagged = and_l (tag_at r s o) _ e; fits = and_r (tag_at r s o) _ e; ends = rw e }
      by false e h = absurd (omega arith)

  pub unnamed : name_end r s o ≤ o → tag_at r s o ≡ true → fits_tag r (end_of_word s o - o) ≡ false
  unfolding name_end
  unnamed h e = by (fits_tag r (end_of_word s o - o)) refl
    where
      by : (t : Bool) → fits_tag r (end_of_word s o - o) ≡ t → fits_tag r (end_of_word s o - o) ≡ false
      by false f = f
      by true f = absurd (omega (arith, rw (e, f) at h, tag-onward e))
