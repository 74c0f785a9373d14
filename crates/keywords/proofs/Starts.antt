-- Which keywords can stand at the start of a text: none by most first bytes, and where one stands no other. Assumes nothing.
use Prim.Native.Nat.{ℕ, ◌≤◌}
use mathlib.Core.Bool.{Bool, true, false, not, ◌&&◌, ◌||◌, true≢false, false≢true}
use mathlib.Core.Path.{◌≡◌, refl, ◌∙◌}
use mathlib.Core.List.{List, [], ◌∷◌}
use borrow.Author.Tests.{eqb-true, eq-eqb}
use lib.Dec.{eqb}
use lib.ListN.{length, drop}
use Rattle.rules.specs.declared.Reading.{Reading}
use Rattle.rules.specs.declared.Reading.TheVariants.{First, Strict}
use Rattle.text.specs.Bytes.{is}
use Rattle.text.proofs.Bools.{and_l, and_r}
use Rattle.words.specs.Words.{word}
use Rattle.folding.specs.Folding.{lower}
use Rattle.keywords.specs.Keywords.{starts, starts_at, key_data, key_global, key_loop, key_save, key_stop, is_word, stands, reserved}
use Rattle.keywords.proofs.Keywords.{data-word, save-word}

-- at an offset means at the start of the rest
pub starts-at : (k s : List ℕ) (o : ℕ) → starts_at k s o ≡ starts k (drop o s)
unfolding starts_at
starts-at k s o = refl

-- a keyword that stands as a whole word is a prefix
pub stands-starts : (r : Reading) (k s : List ℕ) → stands r k s ≡ true → starts k s ≡ true
unfolding is_word
stands-starts First k s e = e
stands-starts Strict k s e = and_l (starts k s) _ e

-- a keyword that is a whole word is as long as that
pub word-is : (k s : List ℕ) → stands Strict k s ≡ true → word s ≡ length k
unfolding is_word
word-is k s e = eqb-true (word s) (length k) (and_r (starts k s) _ e)

pub word_stands : (k s : List ℕ) → starts k s ≡ true → word s ≡ length k → stands Strict k s ≡ true
unfolding is_word
word_stands k s e f = rw (e, eq-eqb _ _ f)

-- none of the five stands at the start of s
pub record NoKeyword (s : List ℕ) : Type 0 where
  pub no-data : starts key_data s ≡ false
  pub no-global : starts key_global s ≡ false
  pub no_loop : starts key_loop s ≡ false
  pub no-save : starts key_save s ≡ false
  pub no_stop : starts key_stop s ≡ false

-- where no reserved word of the first reading stands, none of the five does
pub not-reserved : (s : List ℕ) → reserved First s ≡ false → NoKeyword s
unfolding reserved
not-reserved s e = by (starts key_data s) (starts key_global s) (starts key_loop s) (starts key_save s) (starts key_stop s) refl refl refl refl refl e
  where
    by : (d g l v p : Bool) → starts key_data s ≡ d → starts key_global s ≡ g → starts key_loop s ≡ l → starts key_save s ≡ v → starts key_stop s ≡ p → (d || g || l || v || p) ≡ false → NoKeyword s
    by false false false false false a b c f h e = record { no-data = a; no-global = b; no_loop = c; no-save = f; no_stop = h }
    by true g l v p a b c f h e = absurd (true≢false e)
    by false true l v p a b c f h e = absurd (true≢false e)
    by false false true v p a b c f h e = absurd (true≢false e)
    by false false false true p a b c f h e = absurd (true≢false e)
    by false false false false true a b c f h e = absurd (true≢false e)

-- no keyword has no bytes
pub no-keyword-end : NoKeyword []
unfolding starts key_data key_global key_loop key_save key_stop
no-keyword-end = record { no-data = refl; no-global = refl; no_loop = refl; no-save = refl; no_stop = refl }

-- none stands where the first byte is none of their first letters
pub no-keyword :
    (b : ℕ) (s : List ℕ)
    → is 100 (lower b) ≡ false
    → is 103 (lower b) ≡ false
    → is 108 (lower b) ≡ false
    → is 115 (lower b) ≡ false
    → NoKeyword (b ∷ s)
unfolding starts key_data key_global key_loop key_save key_stop
no-keyword b s d g l p = record { no-data = rw d; no-global = rw g; no_loop = rw l; no-save = rw p; no_stop = rw p }

-- two keywords that differ somewhere
parts-ways : List ℕ → List ℕ → Bool
parts-ways [] l = false
parts-ways (c ∷ k) [] = false
parts-ways (c ∷ k) (d ∷ l) = not (eqb c d) || parts-ways k l

and_none : (a b : Bool) → b ≡ false → (a && b) ≡ false
and_none true b e = e
and_none false b e = refl

-- they do not both start a text
apart : (k l s : List ℕ) → parts-ways k l ≡ true → starts k s ≡ true → starts l s ≡ false
unfolding parts-ways starts is
apart [] l s d e = absurd (false≢true d)
apart (c ∷ k) [] s d e = absurd (false≢true d)
apart (c ∷ k) (x ∷ l) [] d e = refl
apart (c ∷ k) (x ∷ l) (b ∷ s) d e = by (eqb c x) refl d (λ g. apart k l s g (and_r (eqb (lower b) c) (starts k s) e))
  where
    q : lower b ≡ c
    q = eqb-true (lower b) c (and_l (eqb (lower b) c) (starts k s) e)

    by : (t : Bool) → eqb c x ≡ t → (not t || parts-ways k l) ≡ true → (parts-ways k l ≡ true → starts l s ≡ false) → (eqb (lower b) x && starts l s) ≡ false
    by true f d ih = and_none (eqb (lower b) x) (starts l s) (ih d)
    by false f d ih = rw (q, f)

-- where `loop_` stands, none of the three that start nothing in a block does
pub loop-alone : (s : List ℕ) → starts key_loop s ≡ true → (starts key_data s || starts key_global s || starts key_stop s) ≡ false
unfolding parts-ways key_loop key_data key_global key_stop
loop-alone s e = rw (apart key_loop key_data s refl e, apart key_loop key_global s refl e, apart key_loop key_stop s refl e)

-- nor where `save_` stands, and no `loop_` either
pub save-alone : (s : List ℕ) → starts key_save s ≡ true → (starts key_data s || starts key_global s || starts key_stop s) ≡ false
unfolding parts-ways key_save key_data key_global key_stop
save-alone s e = rw (apart key_save key_data s refl e, apart key_save key_global s refl e, apart key_save key_stop s refl e)

pub save-no-loop : (s : List ℕ) → starts key_save s ≡ true → starts key_loop s ≡ false
unfolding parts-ways key_save key_loop
save-no-loop s e = apart key_save key_loop s refl e

-- a word that starts with the keyword has at least its five bytes
pub data-in-word : (s : List ℕ) → starts key_data s ≡ true → 5 ≤ word s
data-in-word s e = data-word s 0 (starts-at key_data s 0 ∙ e)

pub save-in-word : (s : List ℕ) → starts key_save s ≡ true → 5 ≤ word s
save-in-word s e = save-word s 0 (starts-at key_save s 0 ∙ e)
