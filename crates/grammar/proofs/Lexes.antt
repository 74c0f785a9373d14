-- The token at the start of a text in a block or a frame, by the tests that the code makes: a keyword, a tag, else a value; p is the byte before. Assumes nothing.
use Prim.Native.Nat.{ℕ}
use mathlib.Core.Path.{◌≡◌, refl, sym, ◌∙◌}
use mathlib.Core.Bool.{Bool, true, false, cond, ◌&&◌, ◌||◌, true≢false, false≢true}
use mathlib.Core.List.{List, [], ◌∷◌}
use mathlib.Core.Logic.{◌⊎◌, ⊎_elim}
use borrow.Author.Tests.{eqb-true}
use Rattle.rules.specs.declared.Reading.{Reading}
use Rattle.rules.specs.declared.Reading.TheVariants.{First, Strict}
use Rattle.text.specs.Bytes.{is, is_space}
use Rattle.text.proofs.Bools.{or_l, or_r, and_l, and_r, never_true}
use Rattle.columns.specs.Before.{is_parted}
use Rattle.words.specs.Words.{word}
use Rattle.folding.specs.Folding.{lower}
use Rattle.keywords.specs.Keywords.{starts, key_data, key_global, key_loop, key_save, key_stop, stands}
use Rattle.keywords.proofs.Starts.{NoKeyword, no-keyword, no-keyword-end, loop-alone, save-alone, save-no-loop, stands-starts}
use Rattle.values.specs.Values.{at_end, reserved_word, no_start, open_quote, open_field, joined, Class, block, loop, save, tag, value, over_limit, nothing, Lexed, lexed, parted, lex_value}
use Rattle.values.proofs.Laws.{first-anywhere}
use Rattle.values.proofs.Tokens.{value-class}
use Rattle.grammar.specs.Tokens.{Mode, before, in_block, in_frame, save_size, save_length, lex_in, lex, after, tag_first}
use Rattle.grammar.specs.Machine.{is_joined}
use Rattle.grammar.specs.Descent.{is_tag}
pub use Rattle.grammar.proofs.Fits.{pick}

-- a keyword that does not start a text is no word of it
stands-not : (r : Reading) (k s : List ℕ) → starts k s ≡ false → stands r k s ≡ false
stands-not r k s e = never_true (stands r k s) (λ f. true≢false (sym (stands-starts r k s f) ∙ e))

-- where `loop_` stands, neither `data_` nor `save_` does
loop-no-data : (s : List ℕ) → starts key_loop s ≡ true → starts key_data s ≡ false
loop-no-data s e = or_l (starts key_data s) _ (or_l (starts key_data s || starts key_global s) _ (loop-alone s e))

loop-no-save : (s : List ℕ) → starts key_loop s ≡ true → starts key_save s ≡ false
loop-no-save s e = never_true (starts key_save s) (λ f. true≢false (sym e ∙ save-no-loop s f))

save-no-data : (s : List ℕ) → starts key_save s ≡ true → starts key_data s ≡ false
save-no-data s e = or_l (starts key_data s) _ (or_l (starts key_data s || starts key_global s) _ (save-alone s e))

-- what stands at the start of bytes behind p, where space parts it if the reading asks for that
module _ (p : ℕ) (m : Mode) where
  pub lex-loop : (r : Reading) (u : List ℕ) → (is_parted r p && stands r key_loop u) ≡ true → lex_in r p m u ≡ lexed loop 5
  unfolding lex_in
  lex-loop First [] e = absurd (true≢false (sym e ∙ no-keyword-end.no_loop))
  lex-loop Strict [] e = absurd (true≢false (sym (stands-starts Strict key_loop [] (and_r (is_space p) _ e)) ∙ no-keyword-end.no_loop))
  lex-loop First (b ∷ s) e = rw (loop-alone (b ∷ s) e, e)
  lex-loop Strict (b ∷ s) e =
      let l = and_r (is_space p) _ e in
      let k = stands-starts Strict key_loop (b ∷ s) l in
      rw (and_l (is_space p) _ e, loop-no-data (b ∷ s) k, loop-no-save (b ∷ s) k, l)

  pub lex-save : (r : Reading) (u : List ℕ) → (is_parted r p && starts key_save u) ≡ true → lex_in r p m u ≡ lexed save (save_length r m u)
  unfolding lex_in
  lex-save First [] e = absurd (true≢false (sym e ∙ no-keyword-end.no-save))
  lex-save Strict [] e = absurd (true≢false (sym (and_r (is_space p) _ e) ∙ no-keyword-end.no-save))
  lex-save First (b ∷ s) e = rw (save-alone (b ∷ s) e, save-no-loop (b ∷ s) e, e)
  lex-save Strict (b ∷ s) e = rw (and_l (is_space p) _ e, save-no-data (b ∷ s) (and_r (is_space p) _ e), and_r (is_space p) _ e)

  -- in the strict reading `data_` is a token everywhere
  pub lex-data : (u : List ℕ) → (is_parted Strict p && starts key_data u) ≡ true → lex_in Strict p m u ≡ lexed block (word u)
  unfolding lex_in
  lex-data [] e = absurd (true≢false (sym (and_r (is_space p) _ e) ∙ no-keyword-end.no-data))
  lex-data (b ∷ s) e = rw (and_l (is_space p) _ e, and_r (is_space p) _ e)

  pub lex-tag : (r : Reading) (u : List ℕ) → (is_parted r p && tag_first u) ≡ true → lex_in r p m u ≡ lexed tag (word u)
  unfolding lex_in is lower tag_first
  lex-tag First [] e = absurd (false≢true e)
  lex-tag Strict [] e = absurd (false≢true (and_r (is_space p) _ e))
  lex-tag First (b ∷ s) e = by (no-keyword 95 s refl refl refl refl)
    where
      by : NoKeyword (95 ∷ s) → lex_in First p m (b ∷ s) ≡ lexed tag (word (b ∷ s))
      by k = rw (eqb-true b 95 e, k.no-data, k.no-global, k.no_stop, k.no_loop, k.no-save)
  lex-tag Strict (b ∷ s) e = by (no-keyword 95 s refl refl refl refl)
    where
      by : NoKeyword (95 ∷ s) → lex_in Strict p m (b ∷ s) ≡ lexed tag (word (b ∷ s))
      by k =
          rw (and_l (is_space p) _ e, eqb-true b 95 (and_r (is_space p) _ e), k.no-data, k.no-save, stands-not Strict key_loop (95 ∷ s) k.no_loop, stands-not Strict key_global (95 ∷ s) k.no-global, stands-not Strict key_stop (95 ∷ s) k.no_stop)

  -- where none does, a tag or a value
  pub lex-no-key : (b : ℕ) (s : List ℕ) → NoKeyword (b ∷ s) → is 95 b ≡ false → lex_in First p m (b ∷ s) ≡ lex_value First p b s
  unfolding lex_in
  lex-no-key b s k e = rw (k.no-data, k.no-global, k.no_stop, k.no_loop, k.no-save, e)

-- an item starts with a loop or a tag
unfoldable pub starts_item : Class → Bool
starts_item loop = true
starts_item tag = true
starts_item block = false
starts_item save = false
starts_item (value k) = false
starts_item over_limit = false
starts_item (nothing w) = false

-- A CLAIM ABOUT THE TOKEN THERE, from the claim about each class that it may be: given that no space parts it, that `data_`, `save_`, `loop_` or a tag stands there, or none of
-- these
module _ (Q : Class → Type 0) (p : ℕ) (m : Mode) (b : ℕ) (s : List ℕ)
    (values : (k : ℕ) → Q (value k)) (over : Q over_limit) (starts_None : Q (nothing no_start)) (quote : Q (nothing open_quote)) (field : Q (nothing open_field)) (word_none : Q (nothing reserved_word)) where
  pub class-by : (r : Reading) → (is_parted r p ≡ false → Q (nothing joined)) → ((is_parted r p && starts key_data (b ∷ s)) ≡ true → Q block) → ((is_parted r p && starts key_save (b ∷ s)) ≡ true → Q save) → ((is_parted r p && stands r key_loop (b ∷ s)) ≡ true → Q loop) → ((is_parted r p && is 95 b) ≡ true → Q tag) → Q (lex_in r p m (b ∷ s)).class
  unfolding lex_in lexed
  class-by First a d v l t =
      pick (λ y. Q y.class) (starts key_data (b ∷ s) || starts key_global (b ∷ s) || starts key_stop (b ∷ s)) _ _ (λ e. word_none)
      (λ e. pick (λ y. Q y.class) (starts key_loop (b ∷ s)) _ _ l
      (λ f. pick (λ y. Q y.class) (starts key_save (b ∷ s)) _ _ v
      (λ g. pick (λ y. Q y.class) (is 95 b) _ _ t
      (λ h. value-class Q values over starts_None quote field First p b s))))
  class-by Strict apart d v l t =
      pick (λ y. Q y.class) (is_space p) _ _ (λ a. strict a) apart
    where
      given : (x : Bool) → is_space p ≡ true → x ≡ true → (is_space p && x) ≡ true
      given x a e = rw a e

      strict : is_space p ≡ true → Q (cond (starts key_data (b ∷ s)) (lexed block (word (b ∷ s))) (cond (starts key_save (b ∷ s)) (lexed save (word (b ∷ s))) (cond (stands Strict key_loop (b ∷ s)) (lexed loop 5) (cond (stands Strict key_global (b ∷ s) || stands Strict key_stop (b ∷ s)) (lexed (nothing reserved_word) 0) (cond (is 95 b) (lexed tag (word (b ∷ s))) (lex_value Strict p b s)))))).class
      strict a =
          pick (λ y. Q y.class) (starts key_data (b ∷ s)) _ _ (λ e. d (given _ a e))
          (λ e. pick (λ y. Q y.class) (starts key_save (b ∷ s)) _ _ (λ f. v (given _ a f))
          (λ f. pick (λ y. Q y.class) (stands Strict key_loop (b ∷ s)) _ _ (λ g. l (given _ a g))
          (λ g. pick (λ y. Q y.class) (stands Strict key_global (b ∷ s) || stands Strict key_stop (b ∷ s)) _ _ (λ h. word_none)
          (λ h. pick (λ y. Q y.class) (is 95 b) _ _ (λ i. t (given _ a i))
          (λ i. value-class Q values over starts_None quote field Strict p b s)))))

not_so : {A : Type 0} {t : Bool} → t ≡ false → t ≡ true → A
not_so e f = absurd (false≢true (sym e ∙ f))

-- where neither `loop_` nor a tag stands, no item starts
pub lex-other : (r : Reading) (p : ℕ) (m : Mode) (u : List ℕ) → (is_parted r p && stands r key_loop u) ≡ false → (is_parted r p && tag_first u) ≡ false → starts_item (lex_in r p m u).class ≡ false
unfolding starts_item lex_in lexed tag_first
lex-other r p m [] l t = refl
lex-other r p m (b ∷ s) l t = class-by (λ c. starts_item c ≡ false) p m b s (λ k. refl) refl refl refl refl refl r (λ e. refl) (λ e. refl) (λ e. refl) (not_so l) (not_so t)

-- `data_` and `save_` head a block and a frame
unfoldable pub is_heading : Class → Bool
is_heading save = true
is_heading block = true
is_heading loop = false
is_heading tag = false
is_heading (value k) = false
is_heading over_limit = false
is_heading (nothing w) = false

-- the text ends
unfoldable pub is_end : Class → Bool
is_end (nothing at_end) = true
is_end (nothing reserved_word) = false
is_end (nothing no_start) = false
is_end (nothing open_quote) = false
is_end (nothing open_field) = false
is_end (nothing joined) = false
is_end save = false
is_end block = false
is_end loop = false
is_end tag = false
is_end (value k) = false
is_end over_limit = false

-- in the block and in a frame the same token stands, unless it is `save_`
pub lex-same : (p b : ℕ) (s : List ℕ) → starts key_save (b ∷ s) ≡ false → lex_in First p in_block (b ∷ s) ≡ lex_in First p in_frame (b ∷ s)
unfolding lex_in
lex-same p b s e = rw e

pub lex-stays : (p : ℕ) (m : Mode) (b : ℕ) (s : List ℕ) → starts key_save (b ∷ s) ≡ false → after (lex_in First p m (b ∷ s)).class m ≡ m
unfolding lex_in lexed after
lex-stays p m b s u =
    pick (λ y. after y.class m ≡ m) (starts key_data (b ∷ s) || starts key_global (b ∷ s) || starts key_stop (b ∷ s)) _ _ (λ e. refl)
    (λ e. pick (λ y. after y.class m ≡ m) (starts key_loop (b ∷ s)) _ _ (λ f. refl)
    (λ f. rw u (pick (λ y. after y.class m ≡ m) (is 95 b) _ _ (λ g. refl)
    (λ g. value-class (λ c. after c m ≡ m) (λ k. refl) refl refl refl refl First p b s))))

-- where no tag stands by the test, the token is none
pub no-tag : (r : Reading) (p : ℕ) (m : Mode) (u : List ℕ) → (is_parted r p && tag_first u) ≡ false → is_tag (lex_in r p m u).class ≡ false
unfolding is_tag lex_in lexed tag_first
no-tag r p m [] t = refl
no-tag r p m (b ∷ s) t = class-by (λ c. is_tag c ≡ false) p m b s (λ k. refl) refl refl refl refl refl r (λ e. refl) (λ e. refl) (λ e. refl) (λ e. refl) (not_so t)

-- where neither `save_` nor `data_` stands, a token is none of theirs
pub lex-unheaded : (r : Reading) (p : ℕ) (m : Mode) (u : List ℕ) → (is_parted r p && starts key_save u) ≡ false → (is_parted r p && starts key_data u) ≡ false → is_heading (lex_in r p m u).class ≡ false
unfolding is_heading lex_in lexed
lex-unheaded r p m [] v d = refl
lex-unheaded r p m (b ∷ s) v d = class-by (λ c. is_heading c ≡ false) p m b s (λ k. refl) refl refl refl refl refl r (λ e. refl) (not_so d) (not_so v) (λ e. refl) (λ e. refl)

-- in the first reading no `data_` is a token
pub first-unheaded : (p : ℕ) (m : Mode) (u : List ℕ) → starts key_save u ≡ false → is_heading (lex_in First p m u).class ≡ false
unfolding is_heading lex_in lexed
first-unheaded p m [] v = refl
first-unheaded p m (b ∷ s) v =
    pick (λ y. is_heading y.class ≡ false) (starts key_data (b ∷ s) || starts key_global (b ∷ s) || starts key_stop (b ∷ s)) _ _ (λ e. refl)
    (λ e. pick (λ y. is_heading y.class ≡ false) (starts key_loop (b ∷ s)) _ _ (λ f. refl)
    (λ f. rw v (pick (λ y. is_heading y.class ≡ false) (is 95 b) _ _ (λ g. refl)
    (λ g. value-class (λ c. is_heading c ≡ false) (λ k. refl) refl refl refl refl First p b s))))

-- a token is there, and space parts it, or not, as the byte before says
pub lex-parted : (r : Reading) (p : ℕ) (m : Mode) (b : ℕ) (s : List ℕ) → is_parted r p ≡ true → (is_joined (lex_in r p m (b ∷ s)).class ≡ false) × (is_end (lex_in r p m (b ∷ s)).class ≡ false)
unfolding is_joined is_end
lex-parted r p m b s e = (
  class-by (λ c. is_joined c ≡ false) p m b s (λ k. refl) refl refl refl refl refl r (λ f. absurd (true≢false (sym e ∙ f))) (λ f. refl) (λ f. refl) (λ f. refl) (λ f. refl),
  class-by (λ c. is_end c ≡ false) p m b s (λ k. refl) refl refl refl refl refl r (λ f. refl) (λ f. refl) (λ f. refl) (λ f. refl) (λ f. refl),
)

pub lex-apart : (p : ℕ) (m : Mode) (b : ℕ) (s : List ℕ) → is_space p ≡ false → lex_in Strict p m (b ∷ s) ≡ lexed (nothing joined) 0
unfolding lex_in
lex-apart p m b s e = rw e

-- THE FIRST READING DOES NOT ASK FOR THE BYTE BEFORE a token
in-anywhere : (p q : ℕ) (m : Mode) (s : List ℕ) → lex_in First p m s ≡ lex_in First q m s
unfolding lex_in
in-anywhere p q m [] = refl
in-anywhere p q m (b ∷ s) = rw (first-anywhere p q b s)

pub lex-anywhere : (p q : ℕ) (m : Mode) (s : List ℕ) → lex First p m s ≡ lex First q m s
unfolding lex
lex-anywhere p q before s = refl
lex-anywhere p q in_block s = in-anywhere p q in_block s
lex-anywhere p q in_frame s = in-anywhere p q in_frame s
