-- Proved: a token is no longer than the text from it on (lex-fits); it has bytes, or nothing can be read there (lex-sized), so that a value has at least one
-- (lex_in-pos). Assumes nothing.
use Prim.Native.Nat.{ℕ, suc, ◌≤◌, ◌<◌}
use mathlib.Core.Bool.{false≢true, Bool, true, false, cond, ◌||◌}
use mathlib.Core.Path.{◌≡◌, refl, sym, ◌∙◌}
use mathlib.Core.List.{List, [], ◌∷◌}
use mathlib.Core.Logic.{◌⊎◌, inl, inr}
use native.Mathlib.Omega.{arith}
use borrow.Author.Tests.{eqb-true}
use lib.ListN.{length}
use Rattle.rules.specs.declared.Reading.{Reading}
use Rattle.rules.specs.declared.Reading.TheVariants.{First, Strict}
use Rattle.text.specs.Bytes.{is, is_space, ends_word}
use Rattle.words.specs.Words.{word}
use Rattle.words.proofs.Words.{word_fits, word-pos}
use Rattle.words.proofs.Ended.{in-word}
use Rattle.keywords.specs.Keywords.{starts, key_data, key_global, key_loop, key_save, key_stop, stands}
use Rattle.keywords.proofs.Keywords.{starts-fits}
use Rattle.keywords.proofs.Starts.{data-in-word, save-in-word, stands-starts}
use Rattle.values.specs.Values.{Class, block, loop, save, tag, over_limit, nothing, value, Reason, at_end, reserved_word, joined, Lexed, lexed, lex_value}
use Rattle.values.proofs.Tokens.{value-fits, value-bytes}
use Rattle.grammar.specs.Tokens.{Mode, before, in_block, in_frame, save_size, lex_in, lex}

-- both branches fit
fit : (t : Bool) (x y : Lexed) (n : ℕ) → (t ≡ true → x.size ≤ n) → (t ≡ false → y.size ≤ n) → (cond t x y).size ≤ n
fit true x y n p q = p refl
fit false x y n p q = q refl

save-fits : (m : Mode) (s : List ℕ) → starts key_save s ≡ true → save_size m s ≤ length s
unfolding save_size key_save
save-fits before s e = starts-fits key_save s e
save-fits in_block s e = word_fits s
save-fits in_frame s e = starts-fits key_save s e

loop-fits : (s : List ℕ) → starts key_loop s ≡ true → 5 ≤ length s
unfolding key_loop
loop-fits s e = starts-fits key_loop s e

lex_in-fits : (r : Reading) (p : ℕ) (m : Mode) (s : List ℕ) → (lex_in r p m s).size ≤ length s
unfolding lex_in lexed
lex_in-fits First p m [] = omega arith
lex_in-fits Strict p m [] = omega arith
lex_in-fits Strict p m (b ∷ s) =
    fit (is_space p) _ _ (suc (length s))
    (λ _. fit (starts key_data (b ∷ s)) _ _ (suc (length s)) (λ e. word_fits (b ∷ s))
    (λ _. fit (starts key_save (b ∷ s)) _ _ (suc (length s)) (λ e. word_fits (b ∷ s))
    (λ _. fit (stands Strict key_loop (b ∷ s)) _ _ (suc (length s)) (λ e. loop-fits (b ∷ s) (stands-starts Strict key_loop (b ∷ s) e))
    (λ _. fit (stands Strict key_global (b ∷ s) || stands Strict key_stop (b ∷ s)) _ _ (suc (length s)) (λ e. omega arith)
    (λ _. fit (is 95 b) _ _ (suc (length s)) (λ h. word_fits (b ∷ s)) (λ h. value-fits Strict p b s))))))
    (λ _. omega arith)
lex_in-fits First p m (b ∷ s) =
    fit (starts key_data (b ∷ s) || starts key_global (b ∷ s) || starts key_stop (b ∷ s)) _ _ (suc (length s)) (λ e. omega arith)
    (λ e. fit (starts key_loop (b ∷ s)) _ _ (suc (length s)) (λ f. loop-fits (b ∷ s) f)
    (λ f. fit (starts key_save (b ∷ s)) _ _ (suc (length s)) (λ g. save-fits m (b ∷ s) g)
    (λ g. fit (is 95 b) _ _ (suc (length s)) (λ h. word_fits (b ∷ s)) (λ h. value-fits First p b s))))

-- a token lies in the text
pub lex-fits : (r : Reading) (p : ℕ) (m : Mode) (s : List ℕ) → (lex r p m s).size ≤ length s
unfolding lex lexed
lex-fits First p before s = fit (starts key_data s) _ _ (length s) (λ e. word_fits s) (λ e. omega arith)
lex-fits First p in_block s = lex_in-fits First p in_block s
lex-fits First p in_frame s = lex_in-fits First p in_frame s
lex-fits Strict p m s = lex_in-fits Strict p m s

-- what holds of both branches holds of the one taken
pub pick : (P : Lexed → Type 0) (t : Bool) (x y : Lexed) → (t ≡ true → P x) → (t ≡ false → P y) → P (cond t x y)
pick P true x y p q = p refl
pick P false x y p q = q refl

-- a tag's word has bytes
pub tag_word : (b : ℕ) (s : List ℕ) → is 95 b ≡ true → 0 < word (b ∷ s)
unfolding is ends_word
tag_word b s e = word-pos b s (in-word b (rw (eqb-true b 95 e)))

save-pos : (m : Mode) (s : List ℕ) → starts key_save s ≡ true → 0 < save_size m s
unfolding save_size
save-pos before s e = omega arith
save-pos in_block s e = omega (arith, save-in-word s e)
save-pos in_frame s e = omega arith

-- a token has bytes, or nothing can be read there
Sized : Lexed → Type 0
Sized x = (0 < x.size) ⊎ ((w : Reason) × (x.class ≡ nothing w))

lex_in-sized : (r : Reading) (p : ℕ) (m : Mode) (s : List ℕ) → Sized (lex_in r p m s)
unfolding Sized lex_in lexed
lex_in-sized First p m [] = inr (at_end, refl)
lex_in-sized Strict p m [] = inr (at_end, refl)
lex_in-sized Strict p m (b ∷ s) =
    pick Sized (is_space p) _ _
    (λ _. pick Sized (starts key_data (b ∷ s)) _ _ (λ e. inl (omega (arith, data-in-word (b ∷ s) e)))
    (λ _. pick Sized (starts key_save (b ∷ s)) _ _ (λ e. inl (omega (arith, save-in-word (b ∷ s) e)))
    (λ _. pick Sized (stands Strict key_loop (b ∷ s)) _ _ (λ e. inl (omega arith))
    (λ _. pick Sized (stands Strict key_global (b ∷ s) || stands Strict key_stop (b ∷ s)) _ _ (λ e. inr (reserved_word, refl))
    (λ _. pick Sized (is 95 b) _ _ (λ h. inl (tag_word b s h)) (λ h. value-bytes Strict p b s))))))
    (λ _. inr (joined, refl))
lex_in-sized First p m (b ∷ s) =
    pick Sized (starts key_data (b ∷ s) || starts key_global (b ∷ s) || starts key_stop (b ∷ s)) _ _ (λ e. inr (reserved_word, refl))
    (λ e. pick Sized (starts key_loop (b ∷ s)) _ _ (λ f. inl (omega arith))
    (λ f. pick Sized (starts key_save (b ∷ s)) _ _ (λ g. inl (save-pos m (b ∷ s) g))
    (λ g. pick Sized (is 95 b) _ _ (λ h. inl (tag_word b s h)) (λ h. value-bytes First p b s))))

pub lex-sized : (r : Reading) (p : ℕ) (m : Mode) (s : List ℕ) → (0 < (lex_in r p m s).size) ⊎ ((w : Reason) × ((lex_in r p m s).class ≡ nothing w))
unfolding Sized
lex-sized r p m s = lex_in-sized r p m s

-- a value has bytes
unfoldable pub is_value : Class → Bool
is_value (value k) = true
is_value over_limit = true
is_value block = false
is_value loop = false
is_value save = false
is_value tag = false
is_value (nothing w) = false

pub lex_in-pos : (r : Reading) (p : ℕ) (m : Mode) (s : List ℕ) → is_value (lex_in r p m s).class ≡ true → 0 < (lex_in r p m s).size
unfolding is_value
lex_in-pos r p m s v = by (lex-sized r p m s)
  where
    by : (0 < (lex_in r p m s).size) ⊎ ((w : Reason) × ((lex_in r p m s).class ≡ nothing w)) → 0 < (lex_in r p m s).size
    by (inl h) = h
    by (inr h) = let f : false ≡ true = rw h.1 at v in absurd (false≢true f)
